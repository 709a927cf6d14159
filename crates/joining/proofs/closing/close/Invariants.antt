use Rattle.std.proofs.Common.{◌≡◌, length, sum}
use Rattle.joining.specs.Closure.{Grows}
use Rattle.records.specs.Tables.{Edge}
use Rattle.joining.proofs.closing.close.Given as goal

abbrev pub invariant-loop-ring : goal.invariant-loop-ring
invariant-loop-ring g l = (length l.ring ≡ 1000) × Grows (Edge l.sides.tables.places.now l.sides.tables.slots.now) l.initial.links l.links

abbrev pub decreases-loop-ring : goal.decreases-loop-ring
decreases-loop-ring g l = sum l.links
