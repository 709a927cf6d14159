use Rattle.unification.proofs.Working.{worked}
use Rattle.unification.proofs.worked_examples.Goals as goal

pub returns : goal.returns
returns g c = worked g.K.Kind.laws g.K.Kind.meets
