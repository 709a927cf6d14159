-- How many slots lead to a place.
use Rattle.std.specs.Prelude.{ℕ, List, count_by, nat_eq}
use Rattle.records.specs.declared.SlotRecord.{SlotRecord}

-- how many of the slots lead to the place p
abbrev pub led : List SlotRecord → ℕ → ℕ
led ss p = count_by (λ x. nat_eq x.target p) ss
