-- What the answers of the code stand for.
use Rattle.std.specs.Prelude.{◌≤◌, List, length, take, Ok, Err, Result}
use Rattle.reading.specs.declared.draft.Place.{Place}
use Rattle.reading.specs.declared.draft.Slot.{Slot}
use Rattle.reading.specs.declared.draft.Cursor.{Cursor}
use Rattle.reading.specs.declared.fault.ReadFault.{ReadFault}
use Rattle.reading.specs.Faults.{number_of, byte_of}
use Rattle.reading.specs.Drafts.{Draft}
use Rattle.reading.specs.Steps.{Step, go, fault, on_some}

module _ {K : Type 0} where
  -- a fault of a line refuses with its number at its byte; no line has one of the others
  abbrev pub refused : ReadFault → Step K
  refused f = on_some (byte_of f) (fault (number_of f)) (fault 0 0)

  -- the tables hold what has been read in their first records
  abbrev pub draft : Cursor → List (Place K) → List Slot → Draft K
  draft c ps ss = record { mode = c.mode; top = c.top; places = take c.places ps; slots = take c.slots ss }

  -- what came: the draft that the tables hold, or a refusal
  abbrev pub came : Result Cursor ReadFault → List (Place K) → List Slot → Step K
  came (Ok c) ps ss = go (draft c ps ss)
  came (Err f) ps ss = refused f

  -- no more places and slots are counted than the tables have
  abbrev pub WithinOk : Result Cursor ReadFault → List (Place K) → List Slot → Type 0
  WithinOk (Ok c) ps ss = (c.places ≤ length ps) × (c.slots ≤ length ss)
  WithinOk (Err f) ps ss = Unit {0}
