use Rattle.unification.proofs.Asking.{stands, one_standing, any_order}
use Rattle.unification.proofs.Existing.{decided, clash_any_order}
use Rattle.unification.proofs.laws_of_lists.Goals as goal

pub returns : goal.returns
returns g c =
    record {
      standing = stands g.K.Kind.laws;
      single = one_standing g.K.Kind.laws;
      ordered = any_order g.K.Kind.laws;
      clashing = clash_any_order g.K.Kind.laws g.K.Kind.meets;
      decided = decided g.K.Kind.laws g.K.Kind.meets;
    }
