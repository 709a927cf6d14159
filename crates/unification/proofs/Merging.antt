-- The merge is the greatest sheet that satisfies both, so there is one; and where two sheets clash no sheet satisfies both.
use Rattle.std.proofs.Common.{◌≡◌, ℕ, ◌+◌, ◌-◌, ◌<◌, Option, sym, refl, ap, ◌∙◌, arith}
use mathlib.Core.Logic.{ite, if_pos, if_neg}
use native.Mathlib.Decide.{dec_lt}
use Rattle.kinds.specs.Laws.{KindLaws}
use Rattle.records.specs.Sheets.{Sheet, size, Slot, Formed, kind_of}
use Rattle.records.specs.Satisfaction.{Satisfies}
use Rattle.records.specs.Beside.{Side, left, right, Joined, roots, same, back, trans, follow}
use Rattle.records.proofs.Shape.{single, edge_in}
use Rattle.records.proofs.Unique.{moved, unique}
use Rattle.unification.specs.Merge.{Under, IsMerge}
use Rattle.unification.specs.Theorems.{Refused, OneMerge, NotBoth}

-- the ends of a slot of either sheet are places of the two
pub side_in : {K : Type 0} (s t : Sheet K) → Formed s → Formed t → (x f y : ℕ) → Side s t x f y → (x < size s + size t) × (y < size s + size t)
side_in s t ws wt x f y (left e) = (omega (arith, e.owns.place), omega (arith, edge_in s ws x f y e))
side_in s t ws wt x f y (right p q i j e) = (omega (arith, e.owns.place), omega (arith, edge_in t wt p f q e))

module _ {K F : Type 0} {below : K → K → Type 0} {top : K} {form : K → F} {kind : F → Option K} (laws : KindLaws below top form kind) where
  -- what satisfies s and t, on both side by side
  module _ (s t u : Sheet K) (ws : Formed s) (wt : Formed t) (wu : Formed u) (a : Satisfies laws u s) (b : Satisfies laws u t) where
    pub both : ℕ → ℕ
    both x = ite (dec_lt x (size s)) (a.image x) (b.image (x - size s))

    at_left : (x : ℕ) → x < size s → both x ≡ a.image x
    unfolding both
    at_left x h = if_pos (dec_lt x (size s)) h (a.image x) (b.image (x - size s))

    at_right : (x p : ℕ) → x ≡ size s + p → both x ≡ b.image p
    unfolding both
    at_right x p e =
        let d : x - size s ≡ p = omega arith in
        if_neg (dec_lt x (size s)) (omega arith) (a.image x) (b.image (x - size s)) ∙ ap b.image d

    both_in : (x : ℕ) → x < size s + size t → both x < size u
    both_in x h =
        elim (dec_lt x (size s)) [
          | yes lt ↦ rw (at_left x lt) (a.within x lt)
          | no ge ↦ rw (at_right x (x - size s) (omega arith)) (b.within (x - size s) (omega arith))
        ]

    both_edge : (x f y : ℕ) → Side s t x f y → Slot u (both x) f (both y)
    both_edge x f y (left e) =
        moved u (a.image x) (both x) f (a.image y) (both y) (sym (at_left x e.owns.place)) (sym (at_left y (edge_in s ws x f y e))) (a.slots x f y e)
    both_edge x f y (right p q i j e) =
        moved u (b.image p) (both x) f (b.image q) (both y) (sym (at_right x p i)) (sym (at_right y q j)) (b.slots p f q e)

    pub both_joined : {x y : ℕ} → Joined s t x y → both x ≡ both y
    both_joined roots = at_left 0 ws.rooted ∙ a.root ∙ sym b.root ∙ sym (at_right (size s) 0 (omega arith))
    both_joined same = refl
    both_joined (back j) = sym (both_joined j)
    both_joined (trans j k) = both_joined j ∙ both_joined k
    both_joined (follow {x} {y} {x'} {y'} f j e e') =
        single u wu (both y) f (both x') (both y')
        (moved u (both x) (both y) f (both x') (both x') (both_joined j) refl (both_edge x f x' e)) (both_edge y f y' e')

    pub both_under : (x y : ℕ) → both x ≡ both y → Under laws s t (kind_of laws u (both x)) y
    both_under x y e =
        record {
          if_left = λ h. rw (e ∙ at_left y h) (a.kinds y h);
          if_right = λ p i h. rw (e ∙ at_right y p i) (b.kinds p h);
        }

  pub refused : Refused laws
  refused s t u ws wt c wu a b =
      c.none (kind_of laws u (both s t u ws wt wu a b c.place))
      (λ x h j. both_under s t u ws wt wu a b c.place x (both_joined s t u ws wt wu a b j))

  module _ (s t m : Sheet K) (ws : Formed s) (wt : Formed t) (g : IsMerge laws s t m) where
    merge_left : Satisfies laws m s
    merge_left =
        record {
          image = g.class;
          root = g.root;
          within = λ p h. g.within p (omega arith);
          slots = λ p f q e. g.all p f q (left e);
          kinds = λ p h. (g.under p (omega arith)).if_left h;
        }

    merge_right : Satisfies laws m t
    merge_right =
        record {
          image = λ p. g.class (size s + p);
          root =
              let z : size s + 0 ≡ size s = omega arith in
              ap g.class z ∙ sym (g.one 0 (size s) (omega (arith, wt.rooted)) (omega (arith, wt.rooted)) roots) ∙ g.root;
          within = λ p h. g.within (size s + p) (omega arith);
          slots = λ p f q e. g.all (size s + p) f (size s + q) (right p q refl refl e);
          kinds = λ p h. (g.under (size s + p) (omega arith)).if_right p refl h;
        }

    -- a member of a class
    pick : (p : ℕ) → Dec (p < size m) → ℕ
    pick p (yes h) = (g.onto p h).0
    pick p (no h) = 0

    pick_in : (p : ℕ) (d : Dec (p < size m)) → p < size m → (pick p d < size s + size t) × (g.class (pick p d) ≡ p)
    unfolding pick
    pick_in p (yes h) k = ((g.onto p h).1, (g.onto p h).2)
    pick_in p (no h) k = absurd (h k)

    module _ (u : Sheet K) (wu : Formed u) (a : Satisfies laws u s) (b : Satisfies laws u t) where
      to : ℕ → ℕ
      to x = both s t u ws wt wu a b x

      -- a place of m is carried to where each member of its class is
      image : ℕ → ℕ
      image p = to (pick p (dec_lt p (size m)))

      image_is : (p x : ℕ) → p < size m → x < size s + size t → g.class x ≡ p → image p ≡ to x
      unfolding image to
      image_is p x h k e =
          let i = pick_in p (dec_lt p (size m)) h in
          both_joined s t u ws wt wu a b (g.apart (pick p (dec_lt p (size m))) x i.0 k (i.1 ∙ sym e))

      image_edge : (p f q : ℕ) → Slot m p f q → Slot u (image p) f (image q)
      unfolding to
      image_edge p f q e =
          let o = g.only p f q e in
          let i = side_in s t ws wt o.0 f o.1 o.4 in
          moved u (to o.0) (image p) f (to o.1) (image q) (sym (image_is p o.0 e.owns.place i.0 o.2))
          (sym (image_is q o.1 (edge_in m g.formed p f q e) i.1 o.3)) (both_edge s t u ws wt wu a b o.0 f o.1 o.4)

      merge_most : Satisfies laws u m
      unfolding image to
      merge_most =
          record {
            image = image;
            root = image_is 0 0 g.formed.rooted (omega (arith, ws.rooted)) g.root ∙ at_left s t u ws wt wu a b 0 ws.rooted ∙ a.root;
            within = λ p h. both_in s t u ws wt wu a b (pick p (dec_lt p (size m))) (pick_in p (dec_lt p (size m)) h).0;
            slots = image_edge;
            kinds = λ p h. g.greatest p (kind_of laws u (image p)) h (λ x k e. both_under s t u ws wt wu a b (pick p (dec_lt p (size m))) x (image_is p x h k e));
          }

    pub greatest : Satisfies laws m s × Satisfies laws m t × ((u : Sheet K) → Formed u → Satisfies laws u s → Satisfies laws u t → Satisfies laws u m)
    greatest = (merge_left, merge_right, merge_most)

  pub one_merge : OneMerge laws
  one_merge s t m m' ws wt g g' =
      let a = greatest s t m ws wt g in
      let b = greatest s t m' ws wt g' in
      unique laws m m' g.formed g'.formed (b.2 m g.formed a.0 a.1) (a.2 m' g'.formed b.0 b.1)

  pub not_both : NotBoth laws
  not_both s t m ws wt g c = let k = greatest s t m ws wt g in refused s t m ws wt c g.formed k.0 k.1
