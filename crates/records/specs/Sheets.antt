-- Sheets: tables with kinds in place of stored forms.
use Rattle.std.specs.Prelude.{ℕ, List, [], ◌∷◌, map, length, Option}
use Rattle.kinds.specs.Laws.{KindLaws, loaded}
use Rattle.records.specs.declared.PlaceRecord.{PlaceRecord}
use Rattle.records.specs.declared.SlotRecord.{SlotRecord}
use Rattle.records.specs.Tables.{kind_at, Edge, WellFormed}

-- A sheet over kinds of the type K. Two sheets are equal if they have the same records in the same order.
pub record Sheet (K : Type 0) : Type 0 where
  pub places : List (PlaceRecord K)
  pub slots : List SlotRecord

-- how many places and slots a sheet has
abbrev pub size : {K : Type 0} → Sheet K → ℕ
size s = length s.places

abbrev pub width : {K : Type 0} → Sheet K → ℕ
width s = length s.slots

-- the place p has a slot of the name f to the place q
abbrev pub Slot : {K : Type 0} → Sheet K → ℕ → ℕ → ℕ → Type 0
Slot s p f q = Edge s.places s.slots p f q

abbrev pub Formed : {K : Type 0} → Sheet K → Type 0
Formed s = WellFormed s.places s.slots

-- the place p is reached from the root by slots
pub data Reached {K : Type 0} (s : Sheet K) : ℕ → Type 0 where
  root : Reached s 0
  along : {p q : ℕ} (f : ℕ) → Reached s p → Slot s p f q → Reached s q

module _ {K F : Type 0} {below : K → K → Type 0} {top : K} {form : K → F} {kind : F → Option K} (laws : KindLaws below top form kind) where
  -- the record of no place: the greatest kind and zeros
  abbrev pub blank_place : PlaceRecord F
  blank_place = record { kind = form top; before = 0; count = 0 }

  -- the kind of the place p, and the greatest past the last
  abbrev pub kind_of : Sheet K → ℕ → K
  kind_of s p = kind_at top s.places p

  -- what a place record says, with the kind in place of its form
  abbrev pub read_place : PlaceRecord F → PlaceRecord K
  read_place r = record { kind = loaded laws r.kind; before = r.before; count = r.count }

  -- the sheet that two tables hold
  abbrev pub sheet_of : List (PlaceRecord F) → List SlotRecord → Sheet K
  sheet_of ps ss = record { places = map read_place ps; slots = ss }

  -- the blank sheet: one place of the greatest kind
  abbrev pub blank_sheet : Sheet K
  blank_sheet = record { places = record { kind = top; before = 0; count = 0 } ∷ []; slots = [] }
