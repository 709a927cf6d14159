-- The sheet that a source holds.
use Rattle.kinds.specs.declared.kind.Kind.{Ghosts}
use Rattle.records.specs.Sheets.{Sheet, sheet_of}
use Rattle.showing.specs.declared.source.Source.{Source}

-- what its tables are read as
abbrev pub held : {K F : Type 0} {kind : Ghosts K F} → Source K F kind → Sheet K
held {kind = kind} s = sheet_of kind.laws s.tables.places.now s.tables.slots.now
