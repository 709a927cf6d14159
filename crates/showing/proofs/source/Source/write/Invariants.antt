use Rattle.showing.specs.Source.{held}
use Rattle.showing.specs.Progress.{Since, measure}
use Rattle.showing.proofs.source.Source.write.Given as goal

abbrev pub invariant-loop-progress : goal.invariant-loop-progress
invariant-loop-progress g l = Since g.K.Kind.laws g.V.Vocabulary.texts (held l.self) l.initial.progress l.progress l.initial.output l.output

abbrev pub decreases-loop-progress : goal.decreases-loop-progress
decreases-loop-progress g l = measure l.self.tables.slots.now l.progress
