-- The lists of the classes, made from the first place up.
use Rattle.std.proofs.Common.{◌≡◌, ℕ, ◌+◌, ◌<◌, ◌≤◌, List, length, set, sym, refl, ap, ◌∙◌, subst, arith}
use Rattle.std.specs.Prelude.{Option, Some, None}
use native.Mathlib.Decide.{ℕ_discrete}
use Rattle.std.proofs.lemmas.List.{get_or-set_same, get_or-set_other}
use Rattle.numbering.specs.Classes.{link, past, Last, Listed}

module _ {c : ℕ → ℕ} where
  pub listed_none : {n : ℕ} {last previous : List (Option ℕ)} → ((v : ℕ) → v < n → link last v ≡ None) → Listed c n 0 last previous
  listed_none none =
      record {
        starts = λ v h. record { is = λ x e. let z = none v h in absurd cc; gap = λ y l e. omega arith };
        steps = λ x h. omega arith;
      }

  pub listed_more : {n x : ℕ} {last previous : List (Option ℕ)} → x < n → c x < n → n ≤ length last → n ≤ length previous → Listed c n x last previous
      → Listed c n (x + 1) (set last (c x) (Some x)) (set previous x (link last (c x)))
  listed_more {n = n} {x = x} {last = last} {previous = previous} x_in v_in long_l long_p g =
      record {
        starts = λ u h.
            let same = get_or-set_same last (c x) (Some x) None (omega arith) in
            let other = get_or-set_other last (c x) u (Some x) None in
            let old = g.starts u h in
            record {
              is = λ y s. (grind (arith, same, other, old.is y), grind (arith, same, other, old.is y));
              gap = λ y l s. grind (arith, same, other, old.gap y, past);
            };
        steps = λ y h.
            elim (ℕ_discrete y x) [
              | yes e ↦
                  let here : link (set previous x (link last (c x))) y ≡ link last (c x) =
                  ap (link (set previous x (link last (c x)))) e ∙ get_or-set_same previous x (link last (c x)) None (omega arith) in
                  subst (λ k. Last c (c k) k (link (set previous x (link last (c x))) y)) (sym e) (subst (Last c (c x) x) (sym here) (g.starts (c x) v_in))
              | no ne ↦ subst (Last c (c y) y) (sym (get_or-set_other previous x y (link last (c x)) None ne)) (g.steps y (omega (arith, ne)))
            ];
      }

  pub past_last : {v k : ℕ} {r : Option ℕ} → Last c v k r → past r ≤ k
  past_last {r = None} g = omega arith
  past_last {r = Some x} g = omega (arith, (g.is x refl).0)
