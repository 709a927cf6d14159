-- What an optional value becomes that a function was mapped over.
use Rattle.std.proofs.Common.{◌≡◌, Some, None, Option, ap}
use Rattle.std.specs.Option.{MatchOption, IsSomeAnd, option_map}

pub mapped : {A B : Type 0} (f : A → B) (o : Option A) (r : Option B) → MatchOption o (r ≡ None) (λ x. IsSomeAnd r (λ y. y ≡ f x)) → r ≡ option_map f o
mapped f None r h = h
mapped f (Some x) None h = absurd h
mapped f (Some x) (Some y) h = ap Some h
