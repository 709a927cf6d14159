-- Two sheets side by side, as a net of places and slots.
use Rattle.std.proofs.Common.{◌≡◌, ℕ, ◌+◌, ◌-◌, ◌<◌, Option, sym, refl, ap, ◌∙◌, subst, arith}
use mathlib.Core.Path.{subst₃}
use mathlib.Core.Logic.{ite, if_pos, if_neg}
use native.Mathlib.Decide.{dec_lt}
use Rattle.kinds.specs.Laws.{KindLaws}
use Rattle.records.specs.Sheets.{Sheet, size, width, Formed, kind_of}
use Rattle.records.specs.Beside.{Side, left, right, Joined, same, back, trans, follow}
use Rattle.records.proofs.Fields.{name_of, target_of}
use Rattle.records.proofs.Shape.{owner_at, edge_at, owner_is, slot_in}
use Rattle.unification.specs.Merge.{Under}
use Rattle.unification.proofs.Merging.{side_in}
use Rattle.unification.proofs.Closing.{Net, Rel}

-- f up to n, and then g from 0
side : {A : Type 0} → ℕ → (ℕ → A) → (ℕ → A) → ℕ → A
side n f g x = ite (dec_lt x n) (f x) (g (x - n))

side_left : {A : Type 0} (n : ℕ) (f g : ℕ → A) (x : ℕ) → x < n → side n f g x ≡ f x
unfolding side
side_left n f g x h = if_pos (dec_lt x n) h (f x) (g (x - n))

side_right : {A : Type 0} (n : ℕ) (f g : ℕ → A) (x p : ℕ) → x ≡ n + p → side n f g x ≡ g p
unfolding side
side_right n f g x p e =
    let d : x - n ≡ p = omega arith in
    if_neg (dec_lt x n) (omega arith) (f x) (g (x - n)) ∙ ap g d

module _ {K : Type 0} (s t : Sheet K) (ws : Formed s) (wt : Formed t) where
  -- the owner, the name and the target of the slot i, side by side
  pub side_owner : ℕ → ℕ
  side_owner = side (width s) (owner_at s ws) (λ i. size s + owner_at t wt i)

  pub side_name : ℕ → ℕ
  side_name = side (width s) (name_of s) (name_of t)

  pub side_target : ℕ → ℕ
  side_target = side (width s) (target_of s) (λ i. size s + target_of t i)

  -- each number is a slot, and each slot has a number
  pub side_of : (i : ℕ) → i < width s + width t → Side s t (side_owner i) (side_name i) (side_target i)
  unfolding side_owner side_name side_target
  side_of i h =
      elim (dec_lt i (width s)) [
        | yes lt ↦
            subst₃ (Side s t) (sym (side_left (width s) (owner_at s ws) (λ j. size s + owner_at t wt j) i lt)) (sym (side_left (width s) (name_of s) (name_of t) i lt))
            (sym (side_left (width s) (target_of s) (λ j. size s + target_of t j) i lt)) (left (edge_at s ws i lt))
        | no ge ↦
            let j : ℕ = i - width s in
            let e : i ≡ width s + j = omega arith in
            subst₃ (Side s t) (sym (side_right (width s) (owner_at s ws) (λ j. size s + owner_at t wt j) i j e)) (sym (side_right (width s) (name_of s) (name_of t) i j e))
            (sym (side_right (width s) (target_of s) (λ j. size s + target_of t j) i j e))
            (right (owner_at t wt j) (target_of t j) refl refl (edge_at t wt j (omega arith)))
      ]

  pub slot_of : (x f y : ℕ) → Side s t x f y → (i : ℕ) × (i < width s + width t) × (side_owner i ≡ x) × (side_name i ≡ f) × (side_target i ≡ y)
  unfolding side_owner side_name side_target
  slot_of x f y (left e) =
      let h = slot_in s ws x f y e in (
        e.slot,
        omega arith,
        side_left (width s) (owner_at s ws) (λ j. size s + owner_at t wt j) e.slot h ∙ owner_is s ws x f y e,
        side_left (width s) (name_of s) (name_of t) e.slot h ∙ e.named,
        side_left (width s) (target_of s) (λ j. size s + target_of t j) e.slot h ∙ e.leads,
      )
  slot_of x f y (right p q a b e) =
      let h = slot_in t wt p f q e in
      let i : ℕ = width s + e.slot in (
        i,
        omega arith,
        side_right (width s) (owner_at s ws) (λ j. size s + owner_at t wt j) i e.slot refl ∙ ap (λ z. size s + z) (owner_is t wt p f q e) ∙ sym a,
        side_right (width s) (name_of s) (name_of t) i e.slot refl ∙ e.named,
        side_right (width s) (target_of s) (λ j. size s + target_of t j) i e.slot refl ∙ ap (λ z. size s + z) e.leads ∙ sym b,
      )

  abbrev pub net : Net
  net =
      record {
        places = size s + size t;
        slots = width s + width t;
        owner = side_owner;
        name = side_name;
        target = side_target;
        owner_in = λ i h. (side_in s t ws wt (side_owner i) (side_name i) (side_target i) (side_of i h)).0;
        target_in = λ i h. (side_in s t ws wt (side_owner i) (side_name i) (side_target i) (side_of i h)).1;
      }

  -- joined places, as a relation that follows the slots
  abbrev pub joins : Rel net
  joins =
      record {
        R = Joined s t;
        self = λ x. same;
        flip = λ x y j. back j;
        chain = λ x y z j k. trans j k;
        follow = λ i j hi hj e r. follow (side_name j) r (subst (λ f. Side s t (side_owner i) f (side_target i)) e (side_of i hi)) (side_of j hj);
      }

module _ {K F : Type 0} {below : K → K → Type 0} {top : K} {form : K → F} {kind : F → Option K} (laws : KindLaws below top form kind)
    (s t : Sheet K) where
  -- the kind of a place, side by side
  pub side_kind : ℕ → K
  side_kind = side (size s) (kind_of laws s) (kind_of laws t)

  -- `Under` says just that
  pub to_under : (k : K) (x : ℕ) → below k (side_kind x) → Under laws s t k x
  unfolding side_kind
  to_under k x h =
      record {
        if_left = λ l. subst (below k) (side_left (size s) (kind_of laws s) (kind_of laws t) x l) h;
        if_right = λ p e l. subst (below k) (side_right (size s) (kind_of laws s) (kind_of laws t) x p e) h;
      }

  pub from_under : (k : K) (x : ℕ) → x < size s + size t → Under laws s t k x → below k (side_kind x)
  unfolding side_kind
  from_under k x h u =
      elim (dec_lt x (size s)) [
        | yes lt ↦ subst (below k) (sym (side_left (size s) (kind_of laws s) (kind_of laws t) x lt)) (u.if_left lt)
        | no ge ↦
            let e : x ≡ size s + (x - size s) = omega arith in
            subst (below k) (sym (side_right (size s) (kind_of laws s) (kind_of laws t) x (x - size s) e)) (u.if_right (x - size s) e (omega arith))
      ]
