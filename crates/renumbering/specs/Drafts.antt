-- Drafts: tables that hold a graph of places in which each place is led to from an earlier one, whatever the numbering. What comes of
-- a draft that is numbered anew.
use Rattle.std.specs.Prelude.{◌≡◌, ℕ, suc, ◌+◌, ◌<◌, ◌≤◌, Bool, true, false, ◌⊎◌, List, length, take, Some, None, Option, slice_index_or}
use Rattle.records.specs.declared.PlaceRecord.{PlaceRecord}
use Rattle.records.specs.declared.SlotRecord.{SlotRecord}
use Rattle.records.specs.declared.Counts.{Counts}
use Rattle.records.specs.Tables.{first_at, count_at, name_at, target_at, Owns}
use Rattle.records.specs.Checks.{Aimed}
use Rattle.numbering.specs.Quotient.{Quotient, Kept}

module _ {F : Type 0} (ps : List (PlaceRecord F)) (ss : List SlotRecord) where
  -- The first number of a place is the sum of the earlier counts, and all counts come to the number of the slots. (`Counted` of
  -- records says this with the sum itself, and also that tables of no place have no slot, of which this one says nothing.)
  pub record Counted : Type 0 where
    pub first : first_at ps 0 ≡ 0
    pub running : (p : ℕ) → suc p < length ps → first_at ps (suc p) ≡ first_at ps p + count_at ps p
    pub last : (p : ℕ) → suc p ≡ length ps → first_at ps p + count_at ps p ≡ length ss

  -- Within a place the names rise. (`Rising` of records says this only as far as the table of slots reaches.)
  abbrev pub Rising : Type 0
  Rising = (p i : ℕ) → p < length ps → first_at ps p ≤ i → suc i < first_at ps p + count_at ps p → name_at ss i < name_at ss (suc i)

  -- a slot of a place before p leads to q
  pub record LedBefore (p q : ℕ) : Type 0 where
    pub place : ℕ
    pub slot : ℕ
    pub earlier : place < p
    pub owns : Owns ps place slot
    pub leads : target_at ss slot ≡ q

  -- a slot of an earlier place leads to each place but the first
  abbrev pub LedOn : Type 0
  LedOn = (q : ℕ) → 0 < q → q < length ps → LedBefore q q

  -- the tables hold a draft
  pub record Draft : Type 0 where
    pub some_place : 0 < length ps
    pub few_places : length ps ≤ 1000
    pub few_slots : length ss ≤ 4000
    pub counted : Counted
    pub aimed : Aimed ps ss
    pub rising : Rising
    pub led : LedOn

  -- and tables of n places and m slots have room for it
  pub record DraftWithin (n m : ℕ) : Type 0 where
    pub draft : Draft
    pub places : length ps ≤ n
    pub slots : length ss ≤ m

  -- The first records of the new tables, as many as the draft has, are the draft in canonical numbering: each place is a class of its
  -- own, and `class` gives its new number. Past these the tables hold what the old ones held.
  pub record Renumbered (counts : Counts) (old_places new_places : List (PlaceRecord F)) (old_slots new_slots : List SlotRecord) : Type 0 where
    pub places : counts.places ≡ length ps
    pub slots : counts.slots ≡ length ss
    pub quotient : Quotient ps ss (λ x. x) (take counts.places new_places) (take counts.slots new_slots)
    pub places_past : Kept counts.places old_places new_places
    pub slots_past : Kept counts.slots old_slots new_slots

  -- the same by the answer: where there is none, the tables are as they were
  abbrev pub Renumbers : Option Counts → List (PlaceRecord F) → List (PlaceRecord F) → List SlotRecord → List SlotRecord → Type 0
  Renumbers (Some counts) old_places new_places old_slots new_slots = Renumbered counts old_places new_places old_slots new_slots
  Renumbers None old_places new_places old_slots new_slots = (new_places ≡ old_places) × (new_slots ≡ old_slots)

-- ---- the marks of the places that slots lead to

-- whether q is marked
abbrev pub marked : List Bool → ℕ → Bool
marked marks q = slice_index_or marks q false

-- in new those are marked that were in old, and those that the first n of these slots lead to
pub record Marks (ss : List SlotRecord) (n : ℕ) (old new : List Bool) : Type 0 where
  pub still : (q : ℕ) → marked old q ≡ true → marked new q ≡ true
  pub more : (i : ℕ) → i < n → marked new (target_at ss i) ≡ true
  pub only : (q : ℕ) → marked new q ≡ true → (marked old q ≡ true) ⊎ ((i : ℕ) × (i < n) × (target_at ss i ≡ q))
