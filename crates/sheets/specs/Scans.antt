-- What the slots of a place number.
use Rattle.std.specs.Prelude.{ℕ, zero, suc, ◌<◌, max, List, length}
use Rattle.records.specs.declared.SlotRecord.{SlotRecord}
use Rattle.records.specs.Tables.{target_at}

-- how many places are numbered before the slot i of these is read, where n are before the first
abbrev pub met_from : ℕ → List SlotRecord → ℕ → ℕ
met_from n ss zero = n
met_from n ss (suc i) = max (met_from n ss i) (suc (target_at ss i))

-- one of these slots leads past the next number
pub record Ahead (n : ℕ) (ss : List SlotRecord) : Type 0 where
  pub slot : ℕ
  pub within : slot < length ss
  pub ahead : met_from n ss slot < target_at ss slot
