use Rattle.std.proofs.Common.{◌-◌, length}
use Rattle.names.proofs.Rest.{Rest}
use Rattle.names.proofs.spelling.of_number.spelling.Given as goal

abbrev pub invariant-loop-rest : goal.invariant-loop-rest
invariant-loop-rest l = Rest l.initial.number l.name.bytes l.weight l.rest

abbrev pub decreases-loop-rest : goal.decreases-loop-rest
decreases-loop-rest l = 12 - length l.name.bytes
