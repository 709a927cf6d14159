-- Tables of records: what stands in each field, the edges of the graph that they hold, and when they are well formed.
use Rattle.std.specs.Prelude.{◌≡◌, ℕ, zero, suc, ◌+◌, ◌<◌, ◌≤◌, max, List, map, length, get_or, slice_index, slice_index_or}
use Rattle.records.specs.declared.PlaceRecord.{PlaceRecord}
use Rattle.records.specs.declared.SlotRecord.{SlotRecord}

-- ---- the fields of a place and of a slot; a place past the table has no slots

-- the number of slots of all places before p, as its record has it
abbrev pub first_at : {F : Type 0} → List (PlaceRecord F) → ℕ → ℕ
first_at ps p = slice_index (map (λ r. r.before) ps) p

-- the number of the own slots of p, as its record has it
abbrev pub count_at : {F : Type 0} → List (PlaceRecord F) → ℕ → ℕ
count_at ps p = slice_index (map (λ r. r.count) ps) p

-- what stands for the kind of p, and d past the table
abbrev pub kind_at : {F : Type 0} → F → List (PlaceRecord F) → ℕ → F
kind_at d ps p = slice_index_or (map (λ r. r.kind) ps) p d

abbrev pub blank_slot : SlotRecord
blank_slot = record { name = 0; target = 0 }

abbrev pub name_at : List SlotRecord → ℕ → ℕ
name_at ss i = (get_or ss i blank_slot).name

abbrev pub target_at : List SlotRecord → ℕ → ℕ
target_at ss i = (get_or ss i blank_slot).target

-- ---- the graph

-- the slot i is one of the place p
pub record Owns {F : Type 0} (ps : List (PlaceRecord F)) (p i : ℕ) : Type 0 where
  pub place : p < length ps
  pub from : first_at ps p ≤ i
  pub upto : i < first_at ps p + count_at ps p

-- the place p has a slot of the name f to the place q
pub record Edge {F : Type 0} (ps : List (PlaceRecord F)) (ss : List SlotRecord) (p f q : ℕ) : Type 0 where
  pub slot : ℕ
  pub owns : Owns ps p slot
  pub named : name_at ss slot ≡ f
  pub leads : target_at ss slot ≡ q

-- ---- well formed tables

-- how many places are numbered before the slot i is read: the root, and the targets of the slots before i
abbrev pub met : List SlotRecord → ℕ → ℕ
met ss zero = 1
met ss (suc i) = max (met ss i) (suc (target_at ss i))

-- Tables that hold a sheet. (That its names are names, and its size, are said apart: nothing here rests on them.)
pub record WellFormed {F : Type 0} (ps : List (PlaceRecord F)) (ss : List SlotRecord) : Type 0 where
  pub rooted : 0 < length ps
  -- the first number of a place is the sum of the earlier counts, and all counts come to the number of the slots
  pub first : first_at ps 0 ≡ 0
  pub running : (p : ℕ) → suc p < length ps → first_at ps (suc p) ≡ first_at ps p + count_at ps p
  pub last : (p : ℕ) → suc p ≡ length ps → first_at ps p + count_at ps p ≡ length ss
  -- within a place the names rise
  pub rising : (p i : ℕ) → p < length ps → first_at ps p ≤ i → suc i < first_at ps p + count_at ps p → name_at ss i < name_at ss (suc i)
  -- places are numbered as the slots, taken in turn, come to them: a place has its number before its own slots are read, a slot
  -- leads to a place that has one or to the next number, and in the end every place has one
  pub begun : (p : ℕ) → p < length ps → p < met ss (first_at ps p)
  pub close : (i : ℕ) → i < length ss → target_at ss i ≤ met ss i
  pub full : met ss (length ss) ≡ length ps
