-- What the merge core answers, and what it leaves in the tables.
use Rattle.std.specs.Prelude.{◌≡◌, ℕ, ◌-◌, ◌<◌, ◌≤◌, max, List, ◌++◌, length, take, drop, replicate, Some, None, Option}
use Rattle.kinds.specs.Laws.{KindLaws, loaded}
use Rattle.records.specs.declared.PlaceRecord.{PlaceRecord}
use Rattle.records.specs.declared.SlotRecord.{SlotRecord}
use Rattle.records.specs.declared.Counts.{Counts}
use Rattle.records.specs.Tables.{WellFormed, kind_at, blank_slot}
use Rattle.records.specs.Sheets.{Sheet, sheet_of}
use Rattle.unification.specs.Merge.{IsMerge, Clash}

module _ {K F : Type 0} {below : K → K → Type 0} {top : K} {form : K → F} {kind : F → Option K} (laws : KindLaws below top form kind) where
  -- every place of the table has the own form of its kind
  abbrev pub OwnForms : List (PlaceRecord F) → Type 0
  OwnForms ps = (p : ℕ) → p < length ps → kind_at (form top) ps p ≡ form (loaded laws (kind_at (form top) ps p))

  -- the first records of the tables, as many as are counted, are the merge of s and t, each kind in its own form
  pub record Holds (s t : Sheet K) (counts : Counts) (ps : List (PlaceRecord F)) (ss : List SlotRecord) : Type 0 where
    pub formed : WellFormed (take counts.places ps) (take counts.slots ss)
    pub merge : IsMerge laws s t (sheet_of laws (take counts.places ps) (take counts.slots ss))
    pub own : OwnForms (take counts.places ps)

  -- the answer: the counts of the merge, which the tables hold, or none where the sheets clash
  abbrev pub Merges : Sheet K → Sheet K → Option Counts → List (PlaceRecord F) → List SlotRecord → Type 0
  Merges s t (Some counts) ps ss = Holds s t counts ps ss
  Merges s t None ps ss = Clash laws s t

-- a table in which n records stood and c stand now: from c on they are blank as far as the old ones went, and then as they were
abbrev pub Replaced : {R : Type 0} → R → ℕ → ℕ → List R → List R → Type 0
Replaced blank n c old new = drop c new ≡ replicate (n - c) blank ++ drop (max c n) old

-- the same of both tables after the answer: where there is no merge they are as they were
abbrev pub PlacesAfter : {F : Type 0} → PlaceRecord F → ℕ → Option Counts → List (PlaceRecord F) → List (PlaceRecord F) → Type 0
PlacesAfter blank n (Some counts) old new = Replaced blank n counts.places old new
PlacesAfter blank n None old new = new ≡ old

abbrev pub SlotsAfter : ℕ → Option Counts → List SlotRecord → List SlotRecord → Type 0
SlotsAfter m (Some counts) old new = Replaced blank_slot m counts.slots old new
SlotsAfter m None old new = new ≡ old

-- the merge has no more places and slots than the two sheets side by side
abbrev pub Within : ℕ → ℕ → Option Counts → Type 0
Within n m (Some counts) = (counts.places ≤ n) × (counts.slots ≤ m)
Within n m None = Unit {0}

-- a table whose first n records were used for work: they are blank, and the others are as they were
abbrev pub Worked : {R : Type 0} → R → ℕ → List R → List R → Type 0
Worked blank n old new = new ≡ replicate n blank ++ drop n old
