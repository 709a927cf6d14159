-- What uniting two sheets side by side answers and writes. The sheets are tables of stored forms; their merge is that of the sheets
-- that the forms read as.
use Rattle.std.specs.Prelude.{◌≡◌, ℕ, ◌-◌, ◌≤◌, max, List, ◌++◌, take, drop, replicate, Some, None, Option}
use Rattle.kinds.specs.Laws.{KindLaws}
use Rattle.records.specs.declared.PlaceRecord.{PlaceRecord}
use Rattle.records.specs.declared.SlotRecord.{SlotRecord}
use Rattle.records.specs.declared.Counts.{Counts}
use Rattle.records.specs.Tables.{blank_slot}
use Rattle.records.specs.Sheets.{Sheet, sheet_of}
use Rattle.merging.specs.Core.{Merges}

abbrev pub United : {K F : Type 0} {below : K → K → Type 0} {top : K} {form : K → F} {kind : F → Option K} → KindLaws below top form kind
    → Sheet F → Sheet F → Option Counts → List (PlaceRecord F) → List SlotRecord → Type 0
United laws s t r ps ss = Merges laws (sheet_of laws s.places s.slots) (sheet_of laws t.places t.slots) r ps ss

-- of a table to write to, at most n records are written, and only where there is a merge
pub record Written {R : Type 0} (n c : ℕ) (old new : List R) : Type 0 where
  pub most : c ≤ n
  pub rest : drop c new ≡ drop c old

abbrev pub UnitedPlaces : {F : Type 0} → ℕ → Option Counts → List (PlaceRecord F) → List (PlaceRecord F) → Type 0
UnitedPlaces n (Some counts) old new = Written n counts.places old new
UnitedPlaces n None old new = new ≡ old

abbrev pub UnitedSlots : ℕ → Option Counts → List SlotRecord → List SlotRecord → Type 0
UnitedSlots n (Some counts) old new = Written n counts.slots old new
UnitedSlots n None old new = new ≡ old

-- what blanking past a new sheet of c records makes of a table in which n records stood
abbrev pub Cleared : {R : Type 0} → R → ℕ → ℕ → List R → List R → Type 0
Cleared blank n c old new = new ≡ take c old ++ replicate (n - c) blank ++ drop (max c n) old

abbrev pub ClearedPlaces : {F : Type 0} → PlaceRecord F → ℕ → Option Counts → List (PlaceRecord F) → List (PlaceRecord F) → Type 0
ClearedPlaces blank n (Some counts) old new = Cleared blank n counts.places old new
ClearedPlaces blank n None old new = new ≡ old

abbrev pub ClearedSlots : ℕ → Option Counts → List SlotRecord → List SlotRecord → Type 0
ClearedSlots m (Some counts) old new = Cleared blank_slot m counts.slots old new
ClearedSlots m None old new = new ≡ old
