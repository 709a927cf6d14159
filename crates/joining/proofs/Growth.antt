-- How a forest grows under joins, and what the closure of it is.
use Rattle.std.proofs.Common.{◌≡◌, ℕ, ◌+◌, ◌<◌, Bool, true, false, ◌||◌, ◌⊎◌, ◌↔◌, List, sym, refl, ap, ◌∙◌, subst, inl, inr, ⊎_elim, arith, below_more}
use Rattle.std.proofs.lemmas.Bool.{cases_eq, both_ways, or_parts}
use Rattle.joining.specs.Forest.{Forest, link, end, Same, Merges, Tells}
use Rattle.joining.specs.Closure.{Closure, Pair, Closed, Grows}
use Rattle.joining.specs.Closure.Closure.{given, same, turned, chained, stepped}
use Rattle.joining.proofs.Forests.{end_stays}

-- what is joined stays joined in any such equivalence
pub closure_bind : {E : ℕ → ℕ → ℕ → Type 0} {B C : ℕ → ℕ → Type 0} → ((x y : ℕ) → B x y → Closure E C x y) → {x y : ℕ} → Closure E B x y → Closure E C x y
closure_bind h (given {x = x} {y = y} b) = h x y b
closure_bind h (same x) = same x
closure_bind h (turned j) = turned (closure_bind h j)
closure_bind h (chained j k) = chained (closure_bind h j) (closure_bind h k)
closure_bind h (stepped j e d) = stepped (closure_bind h j) e d

-- a closed forest has the same end wherever the closure joins
pub closure_same : {E : ℕ → ℕ → ℕ → Type 0} {B : ℕ → ℕ → Type 0} (links : List ℕ) → Closed E links → ((x y : ℕ) → B x y → Same links x y)
    → {x y : ℕ} → Closure E B x y → Same links x y
closure_same links closed h (given {x = x} {y = y} b) = h x y b
closure_same links closed h (same x) = refl
closure_same links closed h (turned j) = sym (closure_same links closed h j)
closure_same links closed h (chained j k) = closure_same links closed h j ∙ closure_same links closed h k
closure_same links closed h (stepped {x = x} {y = y} {f = f} {p = p} {q = q} j e d) = closed x y (closure_same links closed h j) f p q e d

module _ (E : ℕ → ℕ → ℕ → Type 0) where
  pub grows_none : (old : List ℕ) → Forest old → Grows E old old
  grows_none old forest = record { forest = forest; keeps = λ x y h. h; only = λ x y h. given h }

  pub grows_then : {old mid new : List ℕ} → Grows E old mid → Grows E mid new → Grows E old new
  grows_then g h = record {
    forest = h.forest;
    keeps = λ x y s. h.keeps x y (g.keeps x y s);
    only = λ x y s. closure_bind g.only (h.only x y s);
  }

  -- a join keeps what had one end, and p and q come to one
  module _ (old new : List ℕ) (p q : ℕ) (m : Merges old new p q) where
    abbrev In : ℕ → Type 0
    In z = (end old z ≡ end old p) ⊎ (end old z ≡ end old q)

    abbrev Out : ℕ → Type 0
    Out z = (end old z ≡ end old p → ⊥) × (end old z ≡ end old q → ⊥)

    split : (z : ℕ) → In z ⊎ Out z
    split z =
        ⊎_elim (λ e. inl (inl e)) (λ ne. ⊎_elim (λ e. inl (inr e)) (λ nf. inr (ne, nf)) (cases_eq (end old z) (end old q))) (cases_eq (end old z) (end old p))

    pub merges_keeps : (x y : ℕ) → Same old x y → Same new x y
    merges_keeps x y s =
        ⊎_elim
        (λ i. m.joined x i ∙ sym (m.joined y (⊎_elim (λ e. inl (sym s ∙ e)) (λ e. inr (sym s ∙ e)) i)))
        (λ o. m.others x o.0 o.1 ∙ s ∙ sym (m.others y (λ e. o.0 (s ∙ e)) (λ e. o.1 (s ∙ e))))
        (split x)

    pub merges_one : Same new p q
    merges_one = m.joined p (inl refl) ∙ sym (m.joined q (inr refl))

    apart : (x y : ℕ) → Same new x y → In x → Out y → ⊥
    apart x y s i o = omega (arith, m.joined x i, m.others y o.0 o.1, o.0, o.1)

    -- and it joins nothing that was not to be joined
    pub merges_only : (B : ℕ → ℕ → Type 0) → ((x y : ℕ) → Same old x y → Closure E B x y) → Closure E B p q → (x y : ℕ) → Same new x y → Closure E B x y
    merges_only B h j x y s =
        ⊎_elim
        (λ i. ⊎_elim (λ k. chained (to_p x i) (turned (to_p y k))) (λ o. absurd (apart x y s i o)) (split y))
        (λ o. ⊎_elim (λ k. absurd (apart y x (sym s) k o)) (λ n. h x y (sym (m.others x o.0 o.1) ∙ s ∙ m.others y n.0 n.1)) (split y))
        (split x)
      where
        to_p : (z : ℕ) → In z → Closure E B z p
        to_p z = ⊎_elim (λ e. h z p e) (λ e. chained (h z q e) (turned j))

    pub grows_merges : Closure E (Same old) p q → Grows E old new
    grows_merges j = record { forest = m.forest; keeps = merges_keeps; only = merges_only (Same old) (λ x y s. given s) j }

  -- a closed forest that has grown from another is the closure of it
  pub closed_least : (old new : List ℕ) → Grows E old new → Closed E new → (x y : ℕ) → Same new x y ↔ Closure E (Same old) x y
  closed_least old new g closed x y = (g.only x y, closure_same new closed g.keeps)

  -- the closure of one join, where every place was its own end
  pub pair_closure : (own mid new : List ℕ) (a b : ℕ) → ((x : ℕ) → link own x ≡ x) → Merges own mid a b
      → ((x y : ℕ) → Same new x y ↔ Closure E (Same mid) x y) → (x y : ℕ) → Same new x y ↔ Closure E (Pair a b) x y
  pair_closure own mid new a b alone m h x y = (
    λ s. closure_bind (merges_only own mid a b m (Pair a b) lone (given (refl, refl))) ((h x y).0 s),
    λ j. (h x y).1 (closure_bind paired j),
  )
    where
      at_end : (z : ℕ) → end own z ≡ z
      at_end z = end_stays own (λ k. omega (arith, alone k)) z (alone z)

      lone : (u v : ℕ) → Same own u v → Closure E (Pair a b) u v
      lone u v s = let e : u ≡ v = sym (at_end u) ∙ s ∙ at_end v in subst (λ (z : ℕ). Closure E (Pair a b) u z) e (same u)

      paired : (u v : ℕ) → Pair a b u v → Closure E (Same mid) u v
      paired u v e = given (ap (end mid) e.0 ∙ merges_one own mid a b m ∙ ap (end mid) (sym e.1))

-- one answer after another
pub tells_then : (a b : Bool) (old mid new : List ℕ) → Tells a old mid → Tells b mid new → Tells (a || b) old new
tells_then true true old mid new g h = omega arith
tells_then true false old mid new g h = rw h g
tells_then false true old mid new g h = rw g at h
tells_then false false old mid new g h = h ∙ g

pub still : (r : Bool) (old new : List ℕ) → Tells r old new → r ≡ false → new ≡ old
still true old new t e = absurd (both_ways true e refl)
still false old new t e = t

-- what held below i while nothing changed, and now holds at i
pub quiet_more : (P : List ℕ → ℕ → Type 0) (a b : Bool) (mid new : List ℕ) (i : ℕ) → Tells b mid new
    → (a ≡ false → (k : ℕ) → k < i → P mid k) → (a ≡ false → b ≡ false → P new i) → (a || b) ≡ false → (k : ℕ) → k < i + 1 → P new k
quiet_more P a b mid new i t below here e =
    let parts = or_parts a b e in
    let e' : mid ≡ new = sym (still b mid new t parts.1) in
    below_more (P new) i (λ k l. subst (λ (ls : List ℕ). P ls k) e' (below parts.0 k l)) (here parts.0 parts.1)
