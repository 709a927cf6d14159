-- The fields of a table's records after one record is written.
use Rattle.std.proofs.Common.{◌≡◌, ℕ, ◌<◌, ◌≢◌, List, map, length, get_or, set, ap, ◌∙◌, arith}
use lib.ListN.{length-map}
use Rattle.std.proofs.lemmas.List.{map-set, get_or-set_same, get_or-set_other}

module _ {A B : Type 0} (f : A → B) (xs : List A) (p : ℕ) (y : A) where
  pub field_same : (d : B) → p < length xs → get_or (map f (set xs p y)) p d ≡ f y
  field_same d lt = ap (λ l. get_or l p d) (map-set f xs p y) ∙ get_or-set_same (map f xs) p (f y) d (omega (arith, length-map xs f))

  pub field_other : (d : B) (q : ℕ) → q ≢ p → get_or (map f (set xs p y)) q d ≡ get_or (map f xs) q d
  field_other d q ne = ap (λ l. get_or l q d) (map-set f xs p y) ∙ get_or-set_other (map f xs) p q (f y) d ne
