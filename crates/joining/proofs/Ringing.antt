-- A place put into the ring of its end, and the walk along a ring.
use Rattle.std.proofs.Common.{◌≡◌, ℕ, ◌+◌, ◌<◌, ◌≤◌, List, length, set, sym, ap, ◌∙◌, subst, ⊎_elim, arith, length-set}
use Rattle.std.proofs.lemmas.List.{get_or-set_same, get_or-set_other}
use Rattle.std.proofs.lemmas.Bool.{cases_eq, cases_lt}
use Rattle.joining.specs.Forest.{Forest, end, Same}
use Rattle.joining.specs.Rings.{next, Rings, Whole}
use Rattle.joining.proofs.Forests.{end_le, end_ends, end_stays}

module _ (links ring : List ℕ) (forest : Forest links) (x e : ℕ) (at : e ≡ end links x) (room : x < length ring) (rings : Rings links ring x) where
  -- the ring with x put in
  abbrev pub put_in : List ℕ
  put_in = set (set ring x (next ring e)) e x

  below : e ≤ x
  below = omega (arith, end_le links forest x)

  rests : end links e ≡ e
  rests = rw at (end_stays links forest (end links x) (end_ends links forest x))

  next_end : (z : ℕ) → z ≡ e → next put_in z ≡ x
  next_end z h = rw h (get_or-set_same (set ring x (next ring e)) e x 0 (simp length-set (omega (arith, below))))

  next_new : (z : ℕ) → (z ≡ e → ⊥) → z ≡ x → next put_in z ≡ next ring e
  next_new z ne h =
      get_or-set_other (set ring x (next ring e)) e z x 0 ne ∙ rw h (get_or-set_same ring x (next ring e) 0 room)

  next_old : (z : ℕ) → (z ≡ e → ⊥) → (z ≡ x → ⊥) → next put_in z ≡ next ring z
  next_old z ne nx = get_or-set_other (set ring x (next ring e)) e z x 0 ne ∙ get_or-set_other ring x z (next ring e) 0 nx

  -- z is the end of x, or x and not its own end, or a place before
  by_place : (P : ℕ → Type 0) → ((z : ℕ) → z ≡ e → P z) → ((z : ℕ) → (z ≡ e → ⊥) → z ≡ x → P z) → ((z : ℕ) → (z ≡ e → ⊥) → (z ≡ x → ⊥) → P z) → (z : ℕ) → P z
  by_place P a b c z = ⊎_elim (a z) (λ ne. ⊎_elim (b z ne) (c z ne) (cases_eq z x)) (cases_eq z e)

  pub put_rings : Rings links put_in (x + 1)
  put_rings = record {
    within =
        by_place (λ z. z < x + 1 → next put_in z < x + 1)
        (λ z h _. omega (arith, next_end z h))
        (λ z ne h _. omega (arith, next_new z ne h, below, rings.within e (omega (arith, below))))
        (λ z ne nx l. omega (arith, next_old z ne nx, rings.within z (omega arith)));
    joined =
        by_place (λ z. z < x + 1 → Same links z (next put_in z))
        (λ z h _. ap (end links) h ∙ rests ∙ at ∙ ap (end links) (sym (next_end z h)))
        (λ z ne h _. ap (end links) h ∙ sym at ∙ sym rests ∙ rings.joined e (omega (arith, below)) ∙ ap (end links) (sym (next_new z ne h)))
        (λ z ne nx l. rings.joined z (omega arith) ∙ ap (end links) (sym (next_old z ne nx)));
  }

  pub put_whole : Whole links ring x → Whole links put_in (x + 1)
  put_whole w = record {
    outer =
        by_place (λ z. z < x + 1 → end links z ≡ z → z ≤ next put_in z)
        (λ z h _ _. omega (arith, next_end z h, below))
        (λ z ne h _ s. absurd (ne (sym s ∙ ap (end links) h ∙ sym at)))
        (λ z ne nx l s. omega (arith, next_old z ne nx, w.outer z (omega arith) s));
    latest = λ z y.
        by_place (λ z. z < x + 1 → end links z ≡ z → next put_in z < y → y < x + 1 → Same links y z → ⊥)
        (λ z h _ _ m l _. omega (arith, next_end z h))
        (λ z ne h _ s _ _ _. ne (sym s ∙ ap (end links) h ∙ sym at))
        (λ z ne nx l s m u same.
        ⊎_elim
        (λ eq. ne (sym s ∙ sym same ∙ ap (end links) eq ∙ sym at))
        (λ ny. w.latest z y (omega arith) s (omega (arith, next_old z ne nx)) (omega arith) same)
        (cases_eq y x))
        z;
    inner =
        by_place (λ z. z < x + 1 → end links z < z → next put_in z < z)
        (λ z h _ s. absurd (omega (arith, ap (end links) h, rests)))
        (λ z ne h _ _. omega (arith, next_new z ne h, below, rings.within e (omega (arith, below))))
        (λ z ne nx l s. omega (arith, next_old z ne nx, w.inner z (omega arith) s));
    before = λ z y.
        by_place (λ z. z < x + 1 → end links z < z → next put_in z < y → y < z → Same links y z → ⊥)
        (λ z h _ s _ _ _. omega (arith, ap (end links) h, rests))
        (λ z ne h _ _ m u same.
        w.latest e y (omega (arith, below)) rests (omega (arith, next_new z ne h)) (omega arith) (same ∙ ap (end links) h ∙ sym at ∙ sym rests))
        (λ z ne nx l s m u same. w.before z y (omega arith) s (omega (arith, next_old z ne nx)) u same)
        z;
  }

pub rings_none : (links ring : List ℕ) → Rings links ring 0
rings_none links ring = record { within = λ x l. absurd (omega arith); joined = λ x l. absurd (omega arith) }

pub whole_none : (links ring : List ℕ) → Whole links ring 0
whole_none links ring = record {
  outer = λ x l s. absurd (omega arith);
  latest = λ x z l s. absurd (omega arith);
  inner = λ x l s. absurd (omega arith);
  before = λ x z l s. absurd (omega arith);
}

-- joined places stay joined, so rings stay rings
pub rings_grow : (old new ring : List ℕ) (k : ℕ) → ((x y : ℕ) → Same old x y → Same new x y) → Rings old ring k → Rings new ring k
rings_grow old new ring k keeps r = record { within = r.within; joined = λ x l. keeps x (next ring x) (r.joined x l) }

-- a place that leads down is not an end, and one that does not is
module _ (links ring : List ℕ) (forest : Forest links) (k : ℕ) (w : Whole links ring k) where
  -- what holds of each joined place from y on, and of the next, holds of each from the next on
  pub along : (P : ℕ → Type 0) (x y : ℕ) → y < k → Same links x y → next ring y < y
      → ((z : ℕ) → y ≤ z → z < x → Same links x z → P z) → (next ring y < x → P (next ring y)) → (z : ℕ) → next ring y ≤ z → z < x → Same links x z → P z
  along P x y in_k same down above here z l u s =
      ⊎_elim
      (λ eq. subst P eq (here (omega arith)))
      (λ ne. ⊎_elim (λ lt. absurd (w.before y z in_k lower (omega arith) lt (sym s ∙ same))) (λ ge. above z ge u s) (cases_lt z y))
      (cases_eq (next ring y) z)
    where
      lower : end links y < y
      lower = ⊎_elim (λ eq. absurd (omega (arith, w.outer y in_k eq))) (λ ne. omega (arith, end_le links forest y)) (cases_eq (end links y) y)

  -- where the ring leads down no more, no joined place is left
  pub at_last : (P : ℕ → Type 0) (x y : ℕ) → y < k → Same links x y → y ≤ next ring y
      → ((z : ℕ) → y ≤ z → z < x → Same links x z → P z) → (z : ℕ) → z < x → Same links x z → P z
  at_last P x y in_k same up above z u s = above z (omega (arith, last, end_le links forest z)) u s
    where
      last : y ≡ end links z
      last =
          ⊎_elim
          (λ eq. sym eq ∙ sym same ∙ s)
          (λ ne. absurd (omega (arith, w.inner y in_k (omega (arith, end_le links forest y)))))
          (cases_eq (end links y) y)
