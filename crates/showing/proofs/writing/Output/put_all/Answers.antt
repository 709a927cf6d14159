use Rattle.std.proofs.Common.{ℕ, ◌-◌, take, refl, arith}
use Rattle.std.proofs.lemmas.List.{length-take}
use Rattle.std.proofs.lemmas.Slice.{put_mid-paste}
use Rattle.showing.specs.declared.writing.Output.{Output}
use Rattle.showing.proofs.Putting.{put_part}
use Rattle.showing.proofs.writing.Output.put_all.Goals as goal

pub returns : goal.returns
returns c =
    let t : Output = c.args.self.now in
    let from : ℕ = c.min-from.result in
    let n : ℕ = c.min-upto.result - from in
    put_part t _ c.args.bytes.now from n refl (omega arith) c.saturating_add-end.ensures (omega arith) (omega arith) (put_mid-paste from n t.bytes.now c.copy_from_slice.new.self (take n c.args.bytes.now) n c.copy_from_slice.ensures.after refl (omega (arith, length-take n c.args.bytes.now)))
