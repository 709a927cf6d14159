use Rattle.std.proofs.Common.{ap, ◌+◌, ◌-◌, ◌^◌, min, ◌∙◌, arith}
use Rattle.showing.specs.declared.writing.Output.{Output}
use Rattle.showing.proofs.Putting.{put_inside, put_past}
use Rattle.showing.proofs.writing.Output.put.Goals as goal
use Rattle.showing.proofs.writing.Output.put.Goals.{then-self, else-self}

pub returns : goal.returns
returns c =
    let t : Output = c.args.self.now in
    let u : Output = record { bytes = c.if-self.self.bytes; len = c.saturating_add-self.result } in
    elim c.if-self.branch [
      | then-self w ↦ put_inside t u c.args.byte (ap (λ (v : Output). v.bytes.ghost_name) w.self-is) (omega (arith, w.if-self.true)) (omega arith) (ap (λ (v : Output). v.bytes.now) w.self-is) (c.saturating_add-self.ensures ∙ ap (λ (v : Output). min (v.len + 1) (2 ^ 64 - 1)) w.self-is)
      | else-self w ↦ put_past t u c.args.byte (ap (λ (v : Output). v.bytes.ghost_name) w.self-is) (omega (arith, w.if-self.false)) (ap (λ (v : Output). v.bytes.now) w.self-is) (c.saturating_add-self.ensures ∙ ap (λ (v : Output). min (v.len + 1) (2 ^ 64 - 1)) w.self-is)
    ]
