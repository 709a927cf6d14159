-- When two tables are in order: what following the slots of two places side by side rests on.
use Rattle.std.specs.Prelude.{ℕ, ◌+◌, ◌<◌, ◌≤◌, List, length}
use Rattle.records.specs.declared.PlaceRecord.{PlaceRecord}
use Rattle.records.specs.declared.SlotRecord.{SlotRecord}
use Rattle.records.specs.Tables.{first_at, count_at, name_at, target_at}

-- the slots of each place stand in the table with rising names, and each slot leads to a place
pub record Ordered {F : Type 0} (ps : List (PlaceRecord F)) (ss : List SlotRecord) : Type 0 where
  pub inside : (p : ℕ) → p < length ps → first_at ps p + count_at ps p ≤ length ss
  pub rising : (p i j : ℕ) → p < length ps → first_at ps p ≤ i → i < j → j < first_at ps p + count_at ps p → name_at ss i < name_at ss j
  pub leading : (i : ℕ) → i < length ss → target_at ss i < length ps
