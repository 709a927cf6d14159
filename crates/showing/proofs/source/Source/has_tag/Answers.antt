use Rattle.std.proofs.Common.{◌≡◌, ℕ, Bool, cond, eqb, leb, sym, ap, ◌∙◌}
use Rattle.std.proofs.lemmas.Bool.{eq-eqb, ne_eqb}
use Rattle.showing.specs.Tags.{led}
use Rattle.showing.proofs.Stepping.{is_sheet}
use Rattle.showing.proofs.Tagging.{leads_all}
use Rattle.showing.proofs.source.Source.has_tag.Goals as goal
use Rattle.showing.proofs.source.Source.has_tag.Goals.{then-p-eq0, else-p-eq0}

pub returns : goal.returns
returns g c =
    let s = c.args.self.now in
    let p : ℕ = c.args.p in
    let n : c.leading_to.result ≡ led s.tables.slots.now p = c.leading_to.ensures ∙ leads_all (is_sheet s) s.leading s.long s.counts p in
    let least : c.if-p-eq0.least ≡ cond (eqb p 0) 1 2 =
    elim c.if-p-eq0.branch [
      | then-p-eq0 w ↦ w.least-is ∙ ap (λ (b : Bool). cond b 1 2) (sym (eq-eqb p 0 w.if-p-eq0.true))
      | else-p-eq0 w ↦ w.least-is ∙ ap (λ (b : Bool). cond b 1 2) (sym (ne_eqb p 0 w.if-p-eq0.false))
    ] in
    λ i. leb (least i) (n i)
