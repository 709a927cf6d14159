use Rattle.std.proofs.Common.{◌≡◌, ℕ, ◌<◌, ◌≤◌}
use Rattle.records.specs.Tables.{first_at, met, target_at}
use Rattle.records.specs.Checks.{sum_before}
use Rattle.sheets.proofs.table.numbering.other_numbering.Given as goal

abbrev pub invariant-loop-p : goal.invariant-loop-p
invariant-loop-p g l =
    (l.next ≡ met l.tables.slots.now (sum_before l.tables.places.now l.p))
    × ((p : ℕ) → p < l.p → p < met l.tables.slots.now (first_at l.tables.places.now p))
    × ((i : ℕ) → i < sum_before l.tables.places.now l.p → target_at l.tables.slots.now i ≤ met l.tables.slots.now i)
