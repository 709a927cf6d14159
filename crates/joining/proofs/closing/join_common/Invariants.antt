use Rattle.std.proofs.Common.{◌+◌, length}
use Rattle.joining.proofs.Walks.{Walking}
use Rattle.joining.proofs.closing.join_common.Given as goal

abbrev pub invariant-loop-left : goal.invariant-loop-left
invariant-loop-left g l = Walking l.sides.tables.places.now l.sides.tables.slots.now l.x l.y l.initial.links l.links l.changed l.all l.left l.right

abbrev pub decreases-loop-left : goal.decreases-loop-left
decreases-loop-left g l = length l.left + length l.right
