use Rattle.std.proofs.Common.{◌≡◌, length, sym, refl, ap, ◌∙◌, inl, inr, arith, below_more}
use Rattle.std.proofs.lemmas.Bool.{cases_lt}
use Rattle.records.specs.Tables.{met}
use Rattle.records.specs.Checks.{sum_before}
use Rattle.sheets.specs.Checks.{late}
use Rattle.sheets.proofs.Answering.{decides_no}
use Rattle.sheets.proofs.Numbered.{numbered_so, turn_ahead, turn_met, turn_close}
use Rattle.sheets.proofs.table.numbering.other_numbering.Goals as goal

pub returns-then-p-next : goal.returns-then-p-next
returns-then-p-next g c =
    let at = c.loop-p-test.true in
    (λ _. late c.loop-p.p at (omega (arith, ap (met c.args.tables.slots.now) (c.requires.first c.loop-p.p at))), λ _. refl)

pub returns-in_default : goal.returns-in_default
returns-in_default g c =
    let at = c.loop-p-test.true in
    let begun = c.loop-p.invariant.0 ∙ ap (met c.args.tables.slots.now) (sym (c.requires.first c.loop-p.p at)) in
    (λ _. turn_ahead _ _ c.requires c.loop-p.p at c.loop-p.next _ begun c.slots_of.ensures c.in_default.ensures, λ _. refl)

pub loop-p-preserved : goal.loop-p-preserved
loop-p-preserved g c =
    let at = c.loop-p-test.true in
    let ps = c.args.tables.places.now in
    let ss = c.args.tables.slots.now in
    let first = c.requires.first c.loop-p.p at in
    let begun = c.loop-p.invariant.0 ∙ ap (met ss) (sym first) in
    let e = c.in-Some.ensures in (
      e.0 ∙ turn_met ps ss c.requires c.loop-p.p at c.loop-p.next _ begun c.slots_of.ensures,
      below_more _ _ c.loop-p.invariant.1 (omega (arith, begun)),
      λ i h.
          elim (cases_lt i (sum_before ps c.loop-p.p)) [
            | inl lt ↦ c.loop-p.invariant.2 i lt
            | inr ge ↦ turn_close ps ss c.requires c.loop-p.p at c.loop-p.next _ begun c.slots_of.ensures e.1 i (omega arith) h
          ],
    )

pub returns : goal.returns
returns g c =
    let ps = c.args.tables.places.now in
    let all : c.loop-p.p ≡ length ps = omega arith in
    decides_no (numbered_so ps c.args.tables.slots.now c.requires
    (λ p h. c.loop-p.invariant.1 p (omega arith))
    (λ i h. c.loop-p.invariant.2 i (omega (arith, ap (sum_before ps) all, c.requires.total))))
