use Rattle.meets.proofs.Meeting.{Going}
use Rattle.meets.proofs.meet_classes.Given as goal

abbrev pub invariant-loop-x : goal.invariant-loop-x
invariant-loop-x g l = Going g.K.Kind.laws l.fn.ends l.x l.initial.places l.places
