-- What reading a line of one place answers, and what it leaves in the tables.
use Rattle.std.specs.Prelude.{◌≡◌, ℕ, ◌-◌, ◌<◌, min, List, ◌++◌, length, take, drop, replicate, Some, None, Ok, Err, Option, Result}
use Rattle.kinds.specs.Laws.{KindLaws, loaded}
use Rattle.records.specs.declared.PlaceRecord.{PlaceRecord}
use Rattle.records.specs.declared.SlotRecord.{SlotRecord}
use Rattle.records.specs.declared.Counts.{Counts}
use Rattle.records.specs.Tables.{kind_at}
use Rattle.records.specs.Sheets.{sheet_of}
use Rattle.reading.specs.declared.fault.ReadFault.{ReadFault}
use Rattle.reading.specs.Faults.{number_of, byte_of}
use Rattle.sheets.specs.Checks.{Holds}
use Rattle.reading.specs.declared.draft.Place.{Place}
use Rattle.reading.specs.Drafts.{Draft}
use Rattle.reading.specs.Steps.{Step, go, fault}
use Rattle.reading.specs.Meaning.{IsSheetOf}

-- the most records of a sheet that is read into a table of n records, and worked on in one of m
abbrev pub room : ℕ → ℕ → ℕ → ℕ
room most n m = min most (min n m)

-- how many places and slots were read: none where the line is refused
abbrev pub places_read : Result Counts ReadFault → ℕ
places_read (Ok c) = c.places
places_read (Err f) = 0

abbrev pub slots_read : Result Counts ReadFault → ℕ
slots_read (Ok c) = c.slots
slots_read (Err f) = 0

-- A table that a sheet was read into: its first c records are the sheet's, those from there on are blank up to the most that a sheet
-- may have, and past these it is as it was.
abbrev pub ReadInto : {X : Type 0} → X → ℕ → ℕ → List X → List X → Type 0
ReadInto blank most c old new = new ≡ take c new ++ replicate (min most (length old) - c) blank ++ drop most old

-- a table that was worked in: blank up to the most that a sheet may have, and past that as it was
abbrev pub worked : {X : Type 0} → X → ℕ → List X → List X
worked blank most old = replicate (min most (length old)) blank ++ drop most old

-- the draft of no place: the greatest kind, and no tag
abbrev pub blank_draft : {K : Type 0} → K → Place K
blank_draft top = record { kind = top; parent = 0; tag = None }

module _ {K F : Type 0} {below : K → K → Type 0} {top : K} {form : K → F} {kind : F → Option K} (laws : KindLaws below top form kind) where
  -- the first records of the tables are the sheet that the draft describes
  pub record SheetRead (d : Draft K) (c : Counts) (ps : List (PlaceRecord F)) (ss : List SlotRecord) : Type 0 where
    pub sheet : IsSheetOf d (sheet_of laws (take c.places ps) (take c.slots ss))
    -- the form of each place is the one of its kind
    pub forms : (f : F) (p : ℕ) → p < c.places → form (loaded laws (kind_at f ps p)) ≡ kind_at f ps p
    -- and the check of tables accepts them
    pub holds : Holds ps ss c.places c.slots

  -- the answer to what a line reads as: the sheet of its draft, or a refusal with its number and byte
  abbrev pub ReadAs : Step K → Result Counts ReadFault → List (PlaceRecord F) → List SlotRecord → Type 0
  ReadAs (go d) (Ok c) ps ss = SheetRead d c ps ss
  ReadAs (go d) (Err f) ps ss = ⊥
  ReadAs (fault n b) (Ok c) ps ss = ⊥
  ReadAs (fault n b) (Err f) ps ss = (number_of f ≡ n) × (byte_of f ≡ Some b)
