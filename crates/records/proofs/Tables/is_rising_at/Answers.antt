use Rattle.std.proofs.Common.{rules, ◌≡◌, Bool, ltb, List, subst}
use Rattle.std.specs.List.{IsAllAdjacentAnswer}
use Rattle.std.proofs.lemmas.List.Sorted.{answers_always}
use Rattle.records.specs.declared.SlotRecord.{SlotRecord}
use Rattle.records.proofs.Owned.{rising_answer}
use Rattle.records.proofs.Tables.is_rising_at.Goals as goal

pub returns : goal.returns
returns g c =
    let ps = c.args.self.now.places.now in
    let ss = c.args.self.now.slots.now in
    let answer = c.is_sorted_by.ensures.cases (λ (x y : SlotRecord). ltb x.name y.name) (answers_always _ _ _ (λ f a r f' e. search rules)) in
    rising_answer ps ss c.args.p c.is_sorted_by.result
    (subst (λ (xs : List SlotRecord). IsAllAdjacentAnswer (λ (x y : SlotRecord) (b : Bool). b ≡ ltb x.name y.name) xs c.is_sorted_by.result) c.slots_of.ensures answer)
