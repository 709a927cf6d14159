-- What a sheet has at its places and slots.
use Rattle.std.proofs.Common.{ℕ}
use Rattle.records.specs.Tables.{first_at, count_at, name_at, target_at, met}
use Rattle.records.specs.Sheets.{Sheet}

module _ {K : Type 0} (s : Sheet K) where
  abbrev pub first_of : ℕ → ℕ
  first_of p = first_at s.places p

  abbrev pub count_of : ℕ → ℕ
  count_of p = count_at s.places p

  abbrev pub name_of : ℕ → ℕ
  name_of i = name_at s.slots i

  abbrev pub target_of : ℕ → ℕ
  target_of i = target_at s.slots i

  abbrev pub met_of : ℕ → ℕ
  met_of i = met s.slots i
