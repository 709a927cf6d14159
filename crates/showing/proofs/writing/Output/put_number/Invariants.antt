use Rattle.std.proofs.Common.{take}
use Rattle.showing.specs.Writing.{Adds}
use Rattle.showing.proofs.writing.Output.put_number.Given as goal

abbrev pub invariant-loop-digit : goal.invariant-loop-digit
invariant-loop-digit g l = Adds (take l.digit-index l.digits) l.initial.self l.self
