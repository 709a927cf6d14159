-- What the checks of two tables find, each of any tables: none asks what another has found.
use Rattle.std.specs.Prelude.{◌≡◌, ℕ, zero, suc, ◌+◌, ◌<◌, ◌≤◌, List, length}
use Rattle.records.specs.declared.PlaceRecord.{PlaceRecord}
use Rattle.records.specs.declared.SlotRecord.{SlotRecord}
use Rattle.records.specs.Tables.{first_at, count_at, name_at, target_at}

-- the sum of the counts of the places before p
abbrev pub sum_before : {F : Type 0} → List (PlaceRecord F) → ℕ → ℕ
sum_before ps zero = 0
sum_before ps (suc p) = sum_before ps p + count_at ps p

module _ {F : Type 0} (ps : List (PlaceRecord F)) (ss : List SlotRecord) where
  -- The first number of each place is the sum of the earlier counts, and all counts come to the number of the slots. (`Counted` of
  -- renumbering says this from place to place. The two differ for tables of no place: this one asks that they have no slot.)
  pub record Counted : Type 0 where
    pub first : (p : ℕ) → p < length ps → first_at ps p ≡ sum_before ps p
    pub total : sum_before ps (length ps) ≡ length ss

  -- each slot leads to a place
  abbrev pub Aimed : Type 0
  Aimed = (i : ℕ) → i < length ss → target_at ss i < length ps

  -- the names of the slots of the place p rise, as far as the table of slots reaches
  abbrev pub RisingAt : ℕ → Type 0
  RisingAt p = (i : ℕ) → first_at ps p ≤ i → suc i < first_at ps p + count_at ps p → suc i < length ss → name_at ss i < name_at ss (suc i)

  -- They do at each place. (`Rising` of renumbering asks for it past the end of the table of slots too: the two are one where the
  -- tables are counted.)
  abbrev pub Rising : Type 0
  Rising = (p : ℕ) → p < length ps → RisingAt p
