use Rattle.std.proofs.Common.{◌≡◌, ◌+◌, ◌-◌, ◌∷◌, List, map, reverse, Some, sym, refl, ap, ◌∙◌}
use Rattle.std.specs.List.{slice_get}
use Rattle.records.specs.declared.SlotRecord.{SlotRecord}
use Rattle.showing.specs.declared.walk.Block.{Block}
use Rattle.showing.specs.Progress.{standing}
use Rattle.showing.proofs.Progressing.{push_left, after_first}
use Rattle.showing.proofs.source.Source.next_slot.Goals as goal

pub returns : goal.returns
returns g c =
    let ss = c.args.self.now.tables.slots.now in
    let stack = c.pop.new.self.items in
    let b : Block = c.in_ok-block.block in
    let later : Block = record { first = b.first + 1; count = b.count - 1 } in
    let left = λ (l : List Block). reverse (map (λ k. standing ss k) l) in
    let taken : slice_get (standing ss b) 0 ≡ Some c.in_ok-slot.slot.now = ap (λ (l : List SlotRecord). slice_get l 0) (sym c.slots_in-rest.ensures) ∙ sym c.in_ok-slot.ensures.value in
    let top : standing ss b ≡ c.in_ok-slot.slot.now ∷ standing ss later = after_first ss b.first b.count c.in_ok-slot.slot.now taken in
    record {
      here = standing ss later;
      others = left stack;
      before = ap left c.in_ok-block.ensures.items ∙ push_left ss stack b ∙ (λ i. top i ∷ left stack);
      after = ap left c.push.ensures.items ∙ push_left ss stack later;
      tags = refl;
      next = refl;
    }
