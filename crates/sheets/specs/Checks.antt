-- The check of a table: what is refused under which number, and what is accepted.
use Rattle.std.specs.Prelude.{◌≡◌, ℕ, suc, ◌<◌, ◌≤◌, ◌⊎◌, List, [], ◌∷◌, length, take, ◌≢◌}
use Rattle.records.specs.declared.PlaceRecord.{PlaceRecord}
use Rattle.records.specs.declared.SlotRecord.{SlotRecord}
use Rattle.records.specs.Tables.{first_at, name_at, target_at, Owns, met, WellFormed}
use Rattle.records.specs.Checks.{sum_before}
use Rattle.names.specs.Names.{IsName}
use Rattle.sheets.specs.Refusals.{Checks}

-- every slot has the number of a name
abbrev pub Named : List SlotRecord → Type 0
Named ss = (i : ℕ) → i < length ss → IsName (name_at ss i)

-- some slot has a number of no name
pub record Nameless (ss : List SlotRecord) : Type 0 where
  pub slot : ℕ
  pub within : slot < length ss
  pub nameless : IsName (name_at ss slot) → ⊥

module _ {F : Type 0} (ps : List (PlaceRecord F)) (ss : List SlotRecord) where
  -- a count passes its limit, or the length of its table
  pub data TooMany (n m : ℕ) : Type 0 where
    places_limit : 1000 < n → TooMany n m
    places_table : length ps < n → TooMany n m
    slots_limit : 4000 < m → TooMany n m
    slots_table : length ss < m → TooMany n m

  -- the first number of some place is not the sum of the earlier counts, or all counts do not come to the number of the slots
  pub data WrongCounts : Type 0 where
    first : (p : ℕ) → p < length ps → (first_at ps p ≢ sum_before ps p) → WrongCounts
    total : (sum_before ps (length ps) ≢ length ss) → WrongCounts

  -- some slot leads to no place
  pub record Outside : Type 0 where
    pub slot : ℕ
    pub within : slot < length ss
    pub past : length ps ≤ target_at ss slot

  -- the names of two slots that stand side by side at one place do not rise
  pub record NotRising : Type 0 where
    pub place : ℕ
    pub slot : ℕ
    pub one : Owns ps place slot
    pub next : Owns ps place (suc slot)
    pub falls : name_at ss (suc slot) ≤ name_at ss slot

  -- The numbering is another than by the slots taken in turn: a place has no number when its own slots are to be read, a slot leads
  -- past the next number, or some place is never reached.
  pub data OtherNumbering : Type 0 where
    late : (p : ℕ) → p < length ps → met ss (first_at ps p) ≤ p → OtherNumbering
    ahead : (i : ℕ) → i < length ss → met ss i < target_at ss i → OtherNumbering
    unreached : met ss (length ss) < length ps → OtherNumbering

  -- tables that hold a sheet: well formed, with names for names, within the limits
  pub record IsSheet : Type 0 where
    pub few_places : length ps ≤ 1000
    pub few_slots : length ss ≤ 4000
    pub formed : WellFormed ps ss
    pub named : Named ss

module _ {F : Type 0} (ps : List (PlaceRecord F)) (ss : List SlotRecord) (n m : ℕ) where
  -- the checks of the first n places and the first m slots of two tables, each over all of them before the next begins
  abbrev pub table_checks : Checks
  table_checks =
      (51, n ≡ 0)
      ∷ (28, TooMany ps ss n m)
      ∷ (52, WrongCounts (take n ps) (take m ss) ⊎ Outside (take n ps) (take m ss))
      ∷ (53, Nameless (take m ss) ⊎ NotRising (take n ps) (take m ss))
      ∷ (54, OtherNumbering (take n ps) (take m ss))
      ∷ []

  -- the tables have n places and m slots, and these hold a sheet
  pub record Holds : Type 0 where
    pub places : n ≤ length ps
    pub slots : m ≤ length ss
    pub sheet : IsSheet (take n ps) (take m ss)
