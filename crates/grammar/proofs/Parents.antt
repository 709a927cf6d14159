-- The parents of places, as one place more is described.
use Rattle.std.proofs.Common.{◌≡◌, ℕ, ◌<◌, List, [], ◌∷◌, ◌++◌, map, length, get_or, ap, ◌∙◌, arith}
use mathlib.Core.List.{map-append}
use lib.ListN.{length-map}
use Rattle.std.proofs.lemmas.List.{get_or_append_left, get_or_push}
use Rattle.reading.specs.declared.draft.Place.{Place}
use Rattle.reading.specs.Drafts.{parent_at}

pub parent_before : {K : Type 0} (ps more : List (Place K)) (q : ℕ) → q < length ps → parent_at (ps ++ more) q ≡ parent_at ps q
parent_before ps more q h =
    ap (λ l. get_or l q 0) (map-append (λ p. p.parent) ps more) ∙
    get_or_append_left (map (λ p. p.parent) ps) (map (λ p. p.parent) more) 0 q (omega (arith, length-map ps (λ p. p.parent)))

pub parent_new : {K : Type 0} (ps : List (Place K)) (x : Place K) → parent_at (ps ++ (x ∷ [])) (length ps) ≡ x.parent
parent_new ps x =
    ap (λ l. get_or l (length ps) 0) (map-append (λ p. p.parent) ps (x ∷ [])) ∙
    get_or_push (map (λ p. p.parent) ps) x.parent 0 (length ps) (length-map ps (λ p. p.parent))
