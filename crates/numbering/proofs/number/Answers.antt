use Rattle.numbering.proofs.Given.{nothing}
use Rattle.numbering.proofs.number.Goals as goal

pub list_places-requires-clause-blank : goal.list_places-requires-clause-blank
list_places-requires-clause-blank g c = λ v. nothing 1000 v
