use Rattle.std.proofs.Common.{◌≡◌, length}
use Rattle.reading.specs.Readers.{read, SameTables}
use Rattle.reading.proofs.Lines.{Left}
use Rattle.reading.proofs.drafting.read_within.Given as goal

abbrev pub invariant-loop-x : goal.invariant-loop-x
invariant-loop-x g l =
    Left g.V.Vocabulary.words g.V.Vocabulary.ranges (length l.draft.places.now) (length l.draft.slots.now) l.line l.x-iterator.from (read l.draft) ×
    SameTables l.initial.draft l.draft × (l.x-iterator.line.now ≡ l.line)
