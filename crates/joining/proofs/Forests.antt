-- The end of a place in a forest.
use Rattle.std.proofs.Common.{◌≡◌, ℕ, zero, suc, ◌<◌, ◌≤◌, min, max, cond, eqb, List, ◌≢◌, length, get_or, set, sum, sym, refl, ap, ◌∙◌, inl, inr, ⊎_elim, arith}
use native.Mathlib.Decide.{le_ind}
use Rattle.std.proofs.lemmas.List.{get_or-set_same, get_or-set_other, get_or_default}
use Rattle.std.proofs.lemmas.List.Sums.{sum_by-set}
use Rattle.std.proofs.lemmas.Bool.{eq-eqb, ne_eqb, cases_eq, cases_lt}
use Rattle.joining.specs.Forest.{Forest, link, walk, end, Merges}

module _ (links : List ℕ) (forest : Forest links) where
  walk_le : (k x : ℕ) → walk k links x ≤ x
  unfolding walk
  walk_le zero x = omega arith
  walk_le (suc k) x = omega (arith, walk_le k (link links x), forest x)

  -- a walk from an end stays there
  walk_stays : (k r : ℕ) → link links r ≡ r → walk k links r ≡ r
  unfolding walk
  walk_stays zero r e = refl
  walk_stays (suc k) r e = ap (walk k links) e ∙ walk_stays k r e

  -- as many steps as x has places below it lead to an end
  walk_ends : (k x : ℕ) → x ≤ k → link links (walk k links x) ≡ walk k links x
  unfolding walk
  walk_ends zero x h = omega (arith, forest x)
  walk_ends (suc k) x h =
      ⊎_elim
      (λ e. rw (ap (walk k links) e ∙ walk_stays k x e) e)
      (λ ne. walk_ends k (link links x) (omega (arith, forest x)))
      (cases_eq (link links x) x)

  pub end_le : (x : ℕ) → end links x ≤ x
  unfolding end
  end_le x = walk_le x x

  pub end_ends : (x : ℕ) → link links (end links x) ≡ end links x
  unfolding end
  end_ends x = walk_ends x x (omega arith)

  -- what a step keeps, and what is r at each end r, is the end
  module _ (e : ℕ → ℕ) (steps : (x : ℕ) → e (link links x) ≡ e x) (stays : (r : ℕ) → link links r ≡ r → e r ≡ r) where
    walk_keeps : (k x : ℕ) → e (walk k links x) ≡ e x
    unfolding walk
    walk_keeps zero x = refl
    walk_keeps (suc k) x = walk_keeps k (link links x) ∙ steps x

    pub end_unique : (x : ℕ) → end links x ≡ e x
    unfolding end
    end_unique x = sym (stays (walk x links x) (walk_ends x x (omega arith))) ∙ walk_keeps x x

  pub end_stays : (r : ℕ) → link links r ≡ r → end links r ≡ r
  unfolding end
  end_stays r h = walk_stays r r h

  -- more steps than x change nothing
  walk_more : (k x : ℕ) → walk (suc k) links x ≡ link links (walk k links x)
  unfolding walk
  walk_more zero x = refl
  walk_more (suc k) x = walk_more k (link links x)

  walk_enough : (k x : ℕ) → x ≤ k → walk (suc k) links x ≡ walk k links x
  walk_enough k x h = walk_more k x ∙ walk_ends k x h

  walk_end : (k x : ℕ) → x ≤ k → walk k links x ≡ end links x
  unfolding end
  walk_end k x h = le_ind (λ m. walk m links x ≡ walk x links x) refl (λ m l ih. walk_enough m x l ∙ ih) k h

  pub end_step : (x : ℕ) → end links (link links x) ≡ end links x
  unfolding end walk
  end_step x = sym (walk_end x (link links x) (forest x)) ∙ walk_enough x x (omega arith)

-- links and ends where the end hi is linked to the end lo
abbrev moved : ℕ → ℕ → ℕ → ℕ
moved lo hi e = cond (eqb e hi) lo e

moved_hi : (lo hi e : ℕ) → e ≡ hi → moved lo hi e ≡ lo
moved_hi lo hi e h = rw (eq-eqb e hi h)

moved_other : (lo hi e : ℕ) → (e ≡ hi → ⊥) → moved lo hi e ≡ e
moved_other lo hi e h = rw (ne_eqb e hi h)

module _ (links : List ℕ) (forest : Forest links) (lo hi : ℕ) (below : lo < hi) (within : hi < length links)
    (low : link links lo ≡ lo) (high : link links hi ≡ hi) where
  linked_at : (x : ℕ) → x ≡ hi → link (set links hi lo) x ≡ lo
  linked_at x e = rw e (get_or-set_same links hi lo hi within)

  linked_off : (x : ℕ) → (x ≡ hi → ⊥) → link (set links hi lo) x ≡ link links x
  linked_off x ne = get_or-set_other links hi x lo x ne

  linked_forest : Forest (set links hi lo)
  linked_forest x =
      ⊎_elim (λ e. omega (arith, linked_at x e)) (λ ne. omega (arith, linked_off x ne, forest x)) (cases_eq x hi)

  linked_end : (z : ℕ) → end (set links hi lo) z ≡ moved lo hi (end links z)
  linked_end = end_unique (set links hi lo) linked_forest (λ z. moved lo hi (end links z)) steps stays
    where
      steps : (x : ℕ) → moved lo hi (end links (link (set links hi lo) x)) ≡ moved lo hi (end links x)
      steps x =
          ⊎_elim
          (λ e. rw (linked_at x e, end_stays links forest lo low, moved_other lo hi lo (omega arith)) (sym (moved_hi lo hi (end links x) (rw e (end_stays links forest hi high)))))
          (λ ne. rw (linked_off x ne, end_step links forest x))
          (cases_eq x hi)

      stays : (r : ℕ) → link (set links hi lo) r ≡ r → moved lo hi (end links r) ≡ r
      stays r h =
          ⊎_elim
          (λ e. absurd (omega (arith, linked_at r e)))
          (λ ne. rw (end_stays links forest r (sym (linked_off r ne) ∙ h)) (moved_other lo hi r ne))
          (cases_eq r hi)

  pub linked_merges : (x y : ℕ) → end links x ≡ lo → end links y ≡ hi → Merges links (set links hi lo) x y
  linked_merges x y ex ey = record {
    forest = linked_forest;
    joined = λ z h. ⊎_elim
        (λ e. linked_end z ∙ moved_other lo hi (end links z) (omega arith) ∙ omega arith)
        (λ e. linked_end z ∙ moved_hi lo hi (end links z) (omega arith) ∙ omega arith) h;
    others = λ z nx ny. linked_end z ∙ moved_other lo hi (end links z) (λ e. ny (omega arith));
  }

  pub linked_less : sum (set links hi lo) < sum links
  linked_less = omega (arith, sum_by-set (λ x. x) links hi lo hi within)

pub merges_turned : {old new : List ℕ} {x y : ℕ} → Merges old new x y → Merges old new y x
merges_turned {old} {new} {x} {y} m = record {
  forest = m.forest;
  joined = λ z h. ⊎_elim (λ e. m.joined z (inr e) ∙ omega arith) (λ e. m.joined z (inl e) ∙ omega arith) h;
  others = λ z ny nx. m.others z nx ny;
}

-- one write makes the ends lo of x and hi of y one
pub link_up : (links : List ℕ) → Forest links → (x y lo hi : ℕ) → lo ≡ end links x → hi ≡ end links y → lo < hi → hi < length links
    → Merges links (set links hi (get_or links lo 0)) x y × (sum (set links hi (get_or links lo 0)) < sum links)
link_up links forest x y lo hi ex ey below within =
    let low : link links lo ≡ lo = rw ex (end_ends links forest x) in
    let high : link links hi ≡ hi = rw ey (end_ends links forest y) in
    let read : get_or links lo 0 ≡ lo = get_or_default links lo 0 lo (omega arith) ∙ low in
    rw read
    (linked_merges links forest lo hi below within low high x y (sym ex) (sym ey), linked_less links forest lo hi below within low high)

-- one write of the lower end over the higher makes two ends one
pub ends_joined : (links : List ℕ) → Forest links → (x y a b lo hi : ℕ) → a ≡ end links x → b ≡ end links y → a ≢ b → lo ≡ min a b → hi ≡ max a b → hi < length links
    → Merges links (set links hi (get_or links lo 0)) x y × (sum (set links hi (get_or links lo 0)) < sum links)
ends_joined links forest x y a b lo hi ea eb ne el eh within =
    ⊎_elim
    (λ less. link_up links forest x y lo hi (omega arith) (omega arith) (omega arith) within)
    (λ more.
    let h = link_up links forest y x lo hi (omega (arith, ne)) (omega (arith, ne)) (omega (arith, ne)) within in
    (merges_turned h.0, h.1))
    (cases_lt a b)
