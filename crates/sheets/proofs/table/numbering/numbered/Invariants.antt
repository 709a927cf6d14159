use Rattle.std.proofs.Common.{◌≡◌, ℕ, ◌<◌, ◌≤◌}
use Rattle.records.specs.Tables.{target_at}
use Rattle.sheets.specs.Scans.{met_from}
use Rattle.sheets.proofs.table.numbering.numbered.Given as goal

abbrev pub invariant-loop-slot : goal.invariant-loop-slot
invariant-loop-slot l =
    (l.next ≡ met_from l.fn.next l.slots l.slot-index)
    × ((k : ℕ) → k < l.slot-index → target_at l.slots k ≤ met_from l.fn.next l.slots k)
