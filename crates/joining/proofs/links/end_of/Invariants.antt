use Rattle.std.proofs.Common.{◌≡◌, ◌≤◌}
use Rattle.joining.specs.Forest.{end}
use Rattle.joining.proofs.links.end_of.Given as goal

abbrev pub invariant-loop-at : goal.invariant-loop-at
invariant-loop-at l = (l.at ≤ l.x) × (end l.links l.at ≡ end l.links l.x)

abbrev pub decreases-loop-at : goal.decreases-loop-at
decreases-loop-at l = l.at
