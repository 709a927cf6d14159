use Rattle.std.proofs.Common.{◌≡◌, length}
use Rattle.reading.specs.Readers.{read, SameTables}
use Rattle.reading.specs.Forming.{reads}
use Rattle.reading.specs.FormsHeld.{FormHeld}
use Rattle.reading.proofs.FormLines.{Left}
use Rattle.reading.proofs.forming.read_form_draft.Given as goal

abbrev pub invariant-loop-x : goal.invariant-loop-x
invariant-loop-x g l =
    Left g.V.Vocabulary.words g.V.Vocabulary.ranges (length l.place.places.now) (length l.place.slots.now) l.line l.x-iterator.from (reads l.form (read l.place) (read l.kind)) ×
    FormHeld l.form l.place l.kind × SameTables l.initial.place l.place × SameTables l.initial.kind l.kind × (l.x-iterator.line.now ≡ l.line)
