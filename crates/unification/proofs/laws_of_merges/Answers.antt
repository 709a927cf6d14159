use Rattle.unification.proofs.Merging.{greatest, refused, one_merge, not_both}
use Rattle.unification.proofs.Making.{enough}
use Rattle.unification.proofs.Existing.{exists, only_merge, exact}
use Rattle.unification.proofs.laws_of_merges.Goals as goal

pub returns : goal.returns
returns g c =
    record {
      greatest = greatest g.K.Kind.laws;
      only = only_merge g.K.Kind.laws g.K.Kind.meets;
      refused = refused g.K.Kind.laws;
      single = one_merge g.K.Kind.laws;
      exists = exists g.K.Kind.laws g.K.Kind.meets;
      apart = not_both g.K.Kind.laws;
      exact = exact g.K.Kind.laws g.K.Kind.meets;
      enough = enough g.K.Kind.laws;
    }
