-- Two well formed sheets side by side: their tables are in order, and the closure of the roots joins the places that the sheets have
-- joined.
use Rattle.std.proofs.Common.{ℕ, ◌↔◌, List, refl, arith}
use Rattle.records.specs.Tables.{Edge}
use Rattle.records.specs.Sheets.{Sheet, size, Formed}
use Rattle.records.specs.Beside.{Beside, Joined}
use Rattle.records.specs.Beside.Joined.{roots, same as itself, back, trans, follow}
use Rattle.records.proofs.Sides.{Stands, beside_stands, block, rising, aims, from_side, to_side}
use Rattle.joining.specs.Closure.{Closure, Pair}
use Rattle.joining.specs.Closure.Closure.{given, same, turned, chained, stepped}
use Rattle.joining.specs.Ordered.{Ordered}
use Rattle.joining.specs.Forest.{Same}
use Rattle.joining.specs.Two.{EndsJoined}

module _ {F : Type 0} (s t w : Sheet F) (fs : Formed s) (ft : Formed t) (b : Beside s t w) where
  stood : Stands s t w
  stood = beside_stands b

  pub beside_ordered : Ordered w.places w.slots
  beside_ordered =
      record {
        inside = λ x h. block stood fs ft x;
        rising = λ x i j h from less upto.
            rising stood fs ft x i j less (record { place = h; from = from; upto = omega arith }) (record { place = h; from = omega arith; upto = upto });
        leading = aims stood fs ft;
      }

  -- ---- the closure of the roots

  abbrev Forced : ℕ → ℕ → Type 0
  Forced = Closure (Edge w.places w.slots) (Pair 0 (size s))

  to_joined : {x y : ℕ} → Forced x y → Joined s t x y
  to_joined (given {x = x} {y = y} e) = rw (e.0, e.1) roots
  to_joined (same x) = itself
  to_joined (turned j) = back (to_joined j)
  to_joined (chained j k) = trans (to_joined j) (to_joined k)
  to_joined (stepped {x = x} {y = y} {f = f} {p = p} {q = q} j e d) = follow f (to_joined j) (to_side stood fs ft x f p e) (to_side stood fs ft y f q d)

  from_joined : {x y : ℕ} → Joined s t x y → Forced x y
  from_joined roots = given (refl, refl)
  from_joined (itself {x = x}) = same x
  from_joined (back j) = turned (from_joined j)
  from_joined (trans j k) = chained (from_joined j) (from_joined k)
  from_joined (follow {x = x} {y = y} {x' = x'} {y' = y'} f j e d) = stepped {f = f} (from_joined j) (from_side stood fs ft x f x' e) (from_side stood fs ft y f y' d)

  pub joined_ends : (links : List ℕ) → ((x y : ℕ) → Same links x y ↔ Forced x y) → EndsJoined s t links
  joined_ends links h x y = (λ e. to_joined ((h x y).0 e), λ j. (h x y).1 (from_joined j))
