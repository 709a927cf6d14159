use Rattle.std.proofs.Common.{◌≡◌, length}
use Rattle.numbering.specs.Quotient.{at}
use Rattle.numbering.specs.Classes.{Listed}
use Rattle.numbering.proofs.classes.list_places.Given as goal

abbrev pub invariant-loop-x : goal.invariant-loop-x
invariant-loop-x l = record {
  listed : Listed (at l.ends) l.n l.x l.last l.previous;
  long_last : length l.last ≡ 1000;
  long_previous : length l.previous ≡ 1000;
}
