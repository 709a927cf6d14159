-- The numbers given so far.
use Rattle.std.proofs.Common.{◌≡◌, ℕ, ◌<◌, List, [], ◌∷◌, ◌++◌, length, replicate, set, sym, refl, ap, ◌∙◌, subst, ◌≢◌, arith}
use Rattle.std.specs.Prelude.{Option, Some, None}
use native.Mathlib.Decide.{dec_lt}
use Rattle.std.proofs.lemmas.List.{get_or_append_left, get_or_push, length_push, get_or-set_same, get_or-set_other, get_or-replicate, length-replicate, get_or_past}
use Rattle.numbering.specs.Quotient.{at}
use Rattle.numbering.specs.Classes.{link}
use Rattle.numbering.specs.Numbers.{Known, Only}
use Rattle.numbering.specs.Writing.{Order, Extended}
use Rattle.numbering.proofs.Numbering.{order_push, order_few}

module _ (o : List ℕ) (number : List (Option ℕ)) (known : Known o number) where
  pub extended_found : (v j : ℕ) → j < length o → at o j ≡ v → Extended o v j o
  extended_found v j h e =
      record {
        old = λ k l. refl;
        near = omega arith;
        size = omega arith;
        is = e;
        new = λ z. absurd (omega arith);
      }

  -- a table of n entries has the numbers of different ends below n
  ordered : (n : ℕ) → length number ≡ n → Order n o
  ordered n long =
      record {
        apart = λ i j l h e. grind (arith, known i, known j);
        inside = λ j h. grind (arith, known j, get_or_past number (at o j) None);
      }

  module _ (v : ℕ) (free : link number v ≡ None) where
    pub unknown : (k : ℕ) → k < length o → at o k ≢ v
    unknown k h e = let z : link number v ≡ Some k = ap (link number) (sym e) ∙ known k h in absurd cc

    pub room : (n : ℕ) → length number ≡ n → v < n → length o < n
    room n long h = omega (arith, order_few (order_push n o v (ordered n long) h unknown), length_push o v)

    pub known_more : v < length number → Known (o ++ v ∷ []) (set number v (Some (length o)))
    known_more h k l =
        grind (
          arith,
          length_push o v,
          get_or_append_left o (v ∷ []) 0 k,
          get_or_push o v 0 k,
          get_or-set_other number v (at o k) (Some (length o)) None,
          get_or-set_same number v (Some (length o)) None,
          unknown k,
          known k,
        )

    pub only_more : v < length number → Only o number → Only (o ++ v ∷ []) (set number v (Some (length o)))
    only_more h only u k s =
        let same = get_or-set_same number v (Some (length o)) None h in
        let other = get_or-set_other number v u (Some (length o)) None in (
          grind (arith, length_push o v, same, other, only u k),
          grind (arith, same, other, only u k, get_or_append_left o (v ∷ []) 0 k, get_or_push o v 0 k),
        )

-- a table of no numbers has none
pub nothing : (n u : ℕ) → link (replicate n None) u ≡ None
nothing n u =
    elim (dec_lt u n) [
      | yes lt ↦ get_or-replicate n u None None lt
      | no ge ↦ get_or_past (replicate n None) u None (omega (arith, length-replicate {A = Option ℕ} n None))
    ]

alone : (m v j : ℕ) → j ≡ 0 → at (m ∷ []) j ≡ v → m ≡ v
alone m v j e h = subst (λ k. at (m ∷ []) k ≡ v) e h

-- the first number that is given
pub extended_root : {o more : List ℕ} {v j : ℕ} → o ≡ [] → Extended o v j more → more ≡ v ∷ []
extended_root {more = []} e x = absurd (omega (arith, x.size))
extended_root {more = m ∷ []} {v = v} {j = j} e x = ap (λ k. k ∷ []) (alone m v j (omega (arith, x.near, ap length e)) x.is)
extended_root {more = m ∷ (n ∷ ns)} e x = absurd (omega (arith, x.size, x.near, ap length e))
