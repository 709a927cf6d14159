use Rattle.std.proofs.Common.{Ok, Err, refl, arith}
use Rattle.std.proofs.lemmas.Result.{err_from_is_err_and}
use Rattle.sheets.proofs.Forming.{acceptance}
use Rattle.sheets.proofs.sheet.Sheet.check.Goals as goal

pub returns-in_err-self-clause-answer : goal.returns-in_err-self-clause-answer
returns-in_err-self-clause-answer g c =
    let p = err_from_is_err_and c.from_residual.result c.from_residual.ensures.1 in
    rw (p.1, p.2) c.in_err-self.ensures.answer

pub returns-in_err-self-clause-accepted : goal.returns-in_err-self-clause-accepted
returns-in_err-self-clause-accepted g c =
    let p = err_from_is_err_and c.from_residual.result c.from_residual.ensures.1 in
    rw p.1 (acceptance _ _ _ _ {A = Unit {0}} (Err c.in_err-self.field-0.0) c.in_err-self.ensures.answer)

pub invariant_of-self : goal.invariant_of-self
invariant_of-self g c =
    let sheet = ((acceptance _ _ _ _ (Ok c.in_ok-self.field-0) c.in_ok-self.ensures.answer).0 refl).sheet in
    rw (c.in_ok-self.ensures.places, c.in_ok-self.ensures.slots)
    (record { limits = (sheet.few_places, sheet.few_slots); shown = λ _. ∣ sheet ∣₁; nothing = λ none. absurd (omega (arith, sheet.formed.rooted)) })

pub returns-clause-answer : goal.returns-clause-answer
returns-clause-answer g c = c.in_ok-self.ensures.answer

pub returns-clause-accepted : goal.returns-clause-accepted
returns-clause-accepted g c = acceptance _ _ _ _ (Ok c.in_ok-self.field-0) c.in_ok-self.ensures.answer
