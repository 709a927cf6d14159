use Rattle.std.proofs.Common.{◌≡◌, ℕ, ◌<◌, length}
use Rattle.renumbering.specs.Drafts.{LedBefore}
use Rattle.renumbering.proofs.Marking.{Marked}
use Rattle.renumbering.proofs.drafts.is_led_on.Given as goal

abbrev pub invariant-loop-p : goal.invariant-loop-p
invariant-loop-p g l =
    (length l.marks ≡ 1000)
    × Marked l.tables.places.now l.tables.slots.now l.p l.marks
    × ((q : ℕ) → 0 < q → q < l.p → LedBefore l.tables.places.now l.tables.slots.now q q)
