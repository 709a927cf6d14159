-- What a sheet shows: the records of its places and of its slots, and none where it shows nothing.
use Rattle.std.specs.Prelude.{◌≡◌, List, []}
use Rattle.kinds.specs.declared.kind.Kind.{Ghosts}
use Rattle.records.specs.declared.PlaceRecord.{PlaceRecord}
use Rattle.records.specs.declared.SlotRecord.{SlotRecord}
use Rattle.sheets.specs.Checks.{IsSheet}
use Rattle.sheets.specs.declared.sheet.Sheet.{Sheet}

abbrev pub shown_places : {K F : Type 0} {kind : Ghosts K F} → Sheet K F kind → List (PlaceRecord F)
shown_places s = s.tables.places.now

abbrev pub shown_slots : {K F : Type 0} {kind : Ghosts K F} → Sheet K F kind → List SlotRecord
shown_slots s = s.tables.slots.now

pub record ShowsNothing {K F : Type 0} {kind : Ghosts K F} (s : Sheet K F kind) : Type 0 where
  pub places : shown_places s ≡ []
  pub slots : shown_slots s ≡ []

abbrev pub ShowsSheet : {K F : Type 0} {kind : Ghosts K F} → Sheet K F kind → Type 0
ShowsSheet s = IsSheet (shown_places s) (shown_slots s)
