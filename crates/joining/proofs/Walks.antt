-- The walk over the slots of two places, x and y, at i and j.
use Rattle.std.proofs.Common.{◌≡◌, ℕ, suc, ◌+◌, ◌-◌, ◌<◌, ◌≤◌, Bool, true, false, ◌||◌, ◌⊎◌, List, [], ◌∷◌, length, get_or, slice_index_or, take, drop, sym, refl, ap, ◌∙◌, subst, subst₂, inl, inr, ⊎_elim, arith}
use Rattle.std.proofs.Math.Seq.{drop-cons}
use Rattle.std.proofs.lemmas.List.{get_or-take, get_or_default, length-drop, length-take, length-take-le, take_all}
use Rattle.std.proofs.lemmas.Slice.{between_is}
use Rattle.std.proofs.lemmas.Bool.{cases_eq, cases_lt, cases_order, both_ways}
use Rattle.records.specs.declared.PlaceRecord.{PlaceRecord}
use Rattle.records.specs.declared.SlotRecord.{SlotRecord}
use Rattle.joining.specs.Forest.{Forest, end, Same, Merges, Tells}
use Rattle.joining.specs.Closure.{Agree, AgreeBelow, Covers, Closed, Grows}
use Rattle.joining.specs.Closure.Closure.{given, stepped}
use Rattle.records.specs.Tables.{first_at, count_at, blank_slot, name_at, target_at, Owns, Edge}
use Rattle.joining.specs.Ordered.{Ordered}
use Rattle.joining.proofs.Growth.{grows_none, grows_then, grows_merges, merges_one, tells_then}

-- xs is what is left of the list ss before the index `past`
pub record Rest {A : Type 0} (ss : List A) (past : ℕ) (xs : List A) : Type 0 where
  pub long : length xs ≤ past
  pub is : xs ≡ drop (past - length xs) (take past ss)

pub rest_all : {A : Type 0} (ss : List A) (from count : ℕ) → from + count ≤ length ss
    → Rest ss (from + count) (take count (drop from ss)) × (from + count - length (take count (drop from ss)) ≡ from)
rest_all ss from count h =
    let n : from + count - from ≡ count = omega arith in
    let m : length (take count (drop from ss)) ≡ count = omega (arith, length-take count (drop from ss), length-drop from ss) in
    let k : from + count - length (take count (drop from ss)) ≡ from = omega arith in (
      record {
        long = omega arith;
        is = ap (λ z. take z (drop from ss)) (sym n) ∙ between_is ss from (from + count) ∙ ap (λ z. drop z (take (from + count) ss)) (sym k);
      },
      k,
    )

-- a list that is not empty: its first item, and the rest as a pattern takes it
pub first_and_rest : {A : Type 0} (d : A) (xs : List A) → 1 ≤ length xs → xs ≡ slice_index_or xs 0 d ∷ take (length xs - 1) (drop 1 xs)
first_and_rest d [] h = absurd (omega arith)
first_and_rest d (x ∷ xs) h =
    let n : length (x ∷ xs) - 1 ≡ length xs = omega arith in
    ap (λ l. x ∷ l) (sym (take_all (length xs) xs (omega arith)) ∙ ap (λ k. take k xs) (sym n))

-- the first of what is left, and the rest of it
pub record Next {A : Type 0} (ss : List A) (past : ℕ) (x : A) (xs ys : List A) : Type 0 where
  pub within : past - length xs < past
  pub read : (d : A) → get_or ss (past - length xs) d ≡ x
  pub rest : Rest ss past ys
  pub at : past - length ys ≡ past - length xs + 1
  pub fewer : length ys < length xs

pub rest_next : {A : Type 0} (ss : List A) (past : ℕ) (x : A) (xs ys : List A) → past ≤ length ss → xs ≡ x ∷ ys → Rest ss past xs → Next ss past x xs ys
rest_next ss past x xs ys h e r =
    let i : ℕ = past - length xs in
    let n : length xs ≡ suc (length ys) = ap length e in
    let long : length (take past ss) ≡ past = length-take-le past ss h in
    let in_it : i < past = omega (arith, r.long) in
    let cut : x ∷ ys ≡ get_or (take past ss) i x ∷ drop (suc i) (take past ss) = sym e ∙ r.is ∙ drop-cons (take past ss) i x (omega arith) in
    let at : suc i ≡ past - length ys = omega (arith, r.long) in
    let rest : ys ≡ drop (suc i) (take past ss) = cc in
    let head : x ≡ get_or (take past ss) i x = cc in
    record {
      within = in_it;
      read = λ d. get_or_default ss i d x (omega arith) ∙ sym (head ∙ get_or-take past ss i x in_it);
      rest = record { long = omega (arith, r.long); is = rest ∙ ap (λ k. drop k (take past ss)) at };
      at = omega arith;
      fewer = omega arith;
    }

-- every common name with a slot behind i or behind j has its targets joined
pub record Walked {F : Type 0} (ps : List (PlaceRecord F)) (ss : List SlotRecord) (x y : ℕ) (old new : List ℕ) (changed all : Bool) (i j : ℕ) : Type 0 where
  pub from_x : first_at ps x ≤ i
  pub from_y : first_at ps y ≤ j
  pub grows : Grows (Edge ps ss) old new
  pub done : (f p q : ℕ) (e : Edge ps ss x f p) (d : Edge ps ss y f q) → (e.slot < i) ⊎ (d.slot < j) → Same new p q
  pub tells : Tells changed old new
  pub met : all ≡ true → (f p : ℕ) (e : Edge ps ss x f p) → e.slot < i → (q : ℕ) × Edge ps ss y f q

module _ {F : Type 0} (ps : List (PlaceRecord F)) (ss : List SlotRecord) (ordered : Ordered ps ss) where
  -- names do not fall, and one name stands once
  rises : (z i k : ℕ) → z < length ps → first_at ps z ≤ i → i ≤ k → k < first_at ps z + count_at ps z → name_at ss i ≤ name_at ss k
  rises z i k h a b c =
      ⊎_elim (λ e. rw e (omega arith)) (λ ne. omega (arith, ordered.rising z i k h a (omega arith) c)) (cases_eq i k)

  once : (z i k : ℕ) → z < length ps → first_at ps z ≤ i → i ≤ k → k < first_at ps z + count_at ps z → name_at ss i ≡ name_at ss k → k ≡ i
  once z i k h a b c e =
      ⊎_elim (λ e. sym e) (λ ne. absurd (omega (arith, ordered.rising z i k h a (omega arith) c))) (cases_eq i k)

  edge_once : (z f p q : ℕ) → Edge ps ss z f p → Edge ps ss z f q → p ≡ q
  edge_once z f p q e d =
      sym e.leads ∙ ap (target_at ss) at ∙ d.leads
    where
      at : e.slot ≡ d.slot
      at =
          ⊎_elim
          (λ l. sym (once z e.slot d.slot e.owns.place e.owns.from (omega arith) d.owns.upto (e.named ∙ sym d.named)))
          (λ ge. once z d.slot e.slot d.owns.place d.owns.from ge e.owns.upto (d.named ∙ sym e.named))
          (cases_lt e.slot d.slot)

  -- where y has every name of x, agrees with x and with each place before x, these agree with x
  pub covered_agree : (links : List ℕ) (u v : ℕ) → v < u → Covers (Edge ps ss) v u → Same links u v → Agree (Edge ps ss) links u v → AgreeBelow (Edge ps ss) links u
      → (z : ℕ) → z < u → Agree (Edge ps ss) links u z
  covered_agree links u v l covers together agree below z m s f p q e d =
      let c = covers f p e in
      agree together f p c.0 e c.1
      ∙ ⊎_elim
      (λ eq. ap (end links) (edge_once z f c.0 q (subst (λ (n : ℕ). Edge ps ss n f c.0) eq c.1) d))
      (⊎_elim
      (λ less. sym (below z m v less (sym s ∙ together) f q c.0 d c.1))
      (λ less. below v l z less (sym together ∙ s) f c.0 q c.1 d))
      (cases_order v z)

  -- where each place agrees with those before it, all agree
  pub closed_all : (links : List ℕ) → AgreeBelow (Edge ps ss) links (length ps) → Closed (Edge ps ss) links
  closed_all links h u v s f p q e d =
      ⊎_elim
      (λ eq. ap (end links) (edge_once v f p q (subst (λ (z : ℕ). Edge ps ss z f p) eq e) d))
      (⊎_elim
      (λ l. sym (h v d.owns.place u l (sym s) f q p d e))
      (λ l. h u e.owns.place v l s f p q e d))
      (cases_order u v)

module _ {F : Type 0} (ps : List (PlaceRecord F)) (ss : List SlotRecord) (ordered : Ordered ps ss) (x y : ℕ) (old : List ℕ) where
  pub walked_none : Forest old → Walked ps ss x y old old false true (first_at ps x) (first_at ps y)
  walked_none forest = record {
    from_x = omega arith;
    from_y = omega arith;
    grows = grows_none (Edge ps ss) old forest;
    done = λ f p q e d h. absurd (⊎_elim (λ l. omega (arith, e.owns.from)) (λ l. omega (arith, d.owns.from)) h);
    tells = refl;
    met = λ _ f p e l. absurd (omega (arith, e.owns.from));
  }

  pub walked_all : (new : List ℕ) (changed all : Bool) (i j : ℕ) → Walked ps ss x y old new changed all i j
      → (first_at ps x + count_at ps x ≤ i) ⊎ (first_at ps y + count_at ps y ≤ j) → Agree (Edge ps ss) new x y
  walked_all new changed all i j w h s f p q e d =
      w.done f p q e d (⊎_elim (λ l. inl (omega (arith, e.owns.upto))) (λ l. inr (omega (arith, d.owns.upto))) h)

  pub walked_covers : (new : List ℕ) (changed all : Bool) (i j : ℕ) → Walked ps ss x y old new changed all i j → first_at ps x + count_at ps x ≤ i → all ≡ true → Covers (Edge ps ss) y x
  walked_covers new changed all i j w h t f p e = w.met t f p e (omega (arith, e.owns.upto))

  module _ (new : List ℕ) (changed all : Bool) (i j : ℕ) (w : Walked ps ss x y old new changed all i j)
      (in_x : i < first_at ps x + count_at ps x) (in_y : j < first_at ps y + count_at ps y) where
    pub walked_left : name_at ss i < name_at ss j → Walked ps ss x y old new changed false (i + 1) j
    walked_left less = record {
      from_x = omega (arith, w.from_x);
      from_y = w.from_y;
      grows = w.grows;
      tells = w.tells;
      met = λ t. absurd (both_ways false refl t);
      done = λ f p q e d h.
          ⊎_elim
          (λ l. w.done f p q e d (inl l))
          (λ ge. ⊎_elim
          (λ l. w.done f p q e d (inr l))
          (λ ge'. absurd (
          let at : e.slot ≡ i = ⊎_elim (λ l. omega arith) (λ l. absurd (omega arith)) h in
          omega (arith, ap (name_at ss) at, rises ps ss ordered y j d.slot d.owns.place w.from_y ge' d.owns.upto, e.named, d.named)))
          (cases_lt d.slot j))
          (cases_lt e.slot i);
    }

    pub walked_right : name_at ss j < name_at ss i → Walked ps ss x y old new changed all i (j + 1)
    walked_right less = record {
      from_x = w.from_x;
      from_y = omega (arith, w.from_y);
      grows = w.grows;
      tells = w.tells;
      met = w.met;
      done = λ f p q e d h.
          ⊎_elim
          (λ l. w.done f p q e d (inr l))
          (λ ge. ⊎_elim
          (λ l. w.done f p q e d (inl l))
          (λ ge'. absurd (
          let at : d.slot ≡ j = ⊎_elim (λ l. absurd (omega arith)) (λ l. omega arith) h in
          omega (arith, ap (name_at ss) at, rises ps ss ordered x i e.slot e.owns.place w.from_x ge' e.owns.upto, e.named, d.named)))
          (cases_lt e.slot i))
          (cases_lt d.slot j);
    }

    pub walked_both : name_at ss i ≡ name_at ss j → x < length ps → y < length ps → Same old x y → (newer : List ℕ) (r : Bool)
        → Merges new newer (target_at ss i) (target_at ss j) → Tells r new newer → Walked ps ss x y old newer (changed || r) all (i + 1) (j + 1)
    walked_both eq x_in y_in together newer r m t = record {
      from_x = omega (arith, w.from_x);
      from_y = omega (arith, w.from_y);
      grows = grows_then (Edge ps ss) w.grows grown;
      tells = tells_then changed r old new newer w.tells t;
      met = λ t f p e l.
          ⊎_elim
          (λ less. w.met t f p e less)
          (λ ge.
          let at : e.slot ≡ i = omega arith in
          (target_at ss j, record { slot = j; owns = owns_y; named = sym eq ∙ ap (name_at ss) (sym at) ∙ e.named; leads = refl }))
          (cases_lt e.slot i);
      done = λ f p q e d h.
          ⊎_elim
          (λ l. grown.keeps p q (w.done f p q e d (inl l)))
          (λ ge. ⊎_elim
          (λ l. grown.keeps p q (w.done f p q e d (inr l)))
          (λ ge'.
          let at : (e.slot ≡ i) × (d.slot ≡ j) = both f p q e d ge ge' h in
          ap (end newer) (sym e.leads ∙ ap (target_at ss) at.0) ∙ one ∙ ap (end newer) (ap (target_at ss) (sym at.1) ∙ d.leads))
          (cases_lt d.slot j))
          (cases_lt e.slot i);
    }
      where
        owns_y : Owns ps y j
        owns_y = record { place = y_in; from = w.from_y; upto = in_y }

        grown : Grows (Edge ps ss) new newer
        grown =
            grows_merges (Edge ps ss) new newer (target_at ss i) (target_at ss j) m
            (stepped {f = name_at ss i} (given (w.grows.keeps x y together))
            (record { slot = i; owns = record { place = x_in; from = w.from_x; upto = in_x }; named = refl; leads = refl })
            (record { slot = j; owns = owns_y; named = sym eq; leads = refl }))

        one : Same newer (target_at ss i) (target_at ss j)
        one = merges_one (Edge ps ss) new newer (target_at ss i) (target_at ss j) m

        both : (f p q : ℕ) (e : Edge ps ss x f p) (d : Edge ps ss y f q) → i ≤ e.slot → j ≤ d.slot
            → (e.slot < i + 1) ⊎ (d.slot < j + 1) → (e.slot ≡ i) × (d.slot ≡ j)
        both f p q e d ge ge' =
            ⊎_elim
            (λ l. let at : e.slot ≡ i = omega arith in
            (at, once ps ss ordered y j d.slot d.owns.place w.from_y ge' d.owns.upto (sym eq ∙ ap (name_at ss) (sym at) ∙ e.named ∙ sym d.named)))
            (λ l. let at : d.slot ≡ j = omega arith in
            (once ps ss ordered x i e.slot e.owns.place w.from_x ge e.owns.upto (eq ∙ ap (name_at ss) (sym at) ∙ d.named ∙ sym e.named), at))

-- the walk as far as `left` is left of the slots of x, and `right` of those of y
pub record Walking {F : Type 0} (ps : List (PlaceRecord F)) (ss : List SlotRecord) (x y : ℕ) (old new : List ℕ) (changed all : Bool) (left right : List SlotRecord) : Type 0 where
  pub of_x : Rest ss (first_at ps x + count_at ps x) left
  pub of_y : Rest ss (first_at ps y + count_at ps y) right
  pub walked : Walked ps ss x y old new changed all (first_at ps x + count_at ps x - length left) (first_at ps y + count_at ps y - length right)

module _ {F : Type 0} (ps : List (PlaceRecord F)) (ss : List SlotRecord) (ordered : Ordered ps ss) (x y : ℕ) (x_in : x < length ps) (y_in : y < length ps) (old : List ℕ) where
  abbrev slots_of : ℕ → List SlotRecord
  slots_of p = take (count_at ps p) (drop (first_at ps p) ss)

  pub walking_none : Forest old → (left right : List SlotRecord) → left ≡ slots_of x → right ≡ slots_of y → Walking ps ss x y old old false true left right
  walking_none forest left right el er =
      let a = rest_all ss (first_at ps x) (count_at ps x) (ordered.inside x x_in) in
      let b = rest_all ss (first_at ps y) (count_at ps y) (ordered.inside y y_in) in
      subst₂ (λ (l r : List SlotRecord). Walking ps ss x y old old false true l r) (sym el) (sym er)
      (record {
        of_x = a.0;
        of_y = b.0;
        walked = subst₂ (λ (i j : ℕ). Walked ps ss x y old old false true i j) (sym a.1) (sym b.1) (walked_none ps ss ordered x y old forest);
      })

  module _ (new : List ℕ) (changed all : Bool) (left right : List SlotRecord) (w : Walking ps ss x y old new changed all left right) where
    pub walking_all : (length left ≡ 0) ⊎ (length right ≡ 0) → Agree (Edge ps ss) new x y
    walking_all h =
        walked_all ps ss ordered x y old new changed all _ _ w.walked (⊎_elim (λ e. inl (omega arith)) (λ e. inr (omega arith)) h)

    pub walking_covers : length left ≡ 0 → all ≡ true → Covers (Edge ps ss) y x
    walking_covers e = walked_covers ps ss ordered x y old new changed all _ _ w.walked (omega arith)

    module _ (s t : SlotRecord) (after_s after_t : List SlotRecord) (is_s : left ≡ s ∷ after_s) (is_t : right ≡ t ∷ after_t) where
      next_x : Next ss (first_at ps x + count_at ps x) s left after_s
      next_x = rest_next ss _ s left after_s (ordered.inside x x_in) is_s w.of_x

      next_y : Next ss (first_at ps y + count_at ps y) t right after_t
      next_y = rest_next ss _ t right after_t (ordered.inside y y_in) is_t w.of_y

      abbrev i : ℕ
      i = first_at ps x + count_at ps x - length left

      abbrev j : ℕ
      j = first_at ps y + count_at ps y - length right

      name_s : name_at ss i ≡ s.name
      name_s = ap (λ r. r.name) (next_x.read blank_slot)

      name_t : name_at ss j ≡ t.name
      name_t = ap (λ r. r.name) (next_y.read blank_slot)

      target_s : target_at ss i ≡ s.target
      target_s = ap (λ r. r.target) (next_x.read blank_slot)

      target_t : target_at ss j ≡ t.target
      target_t = ap (λ r. r.target) (next_y.read blank_slot)

      pub leads_in : (s.target < length ps) × (t.target < length ps)
      leads_in = (
        omega (arith, target_s, ordered.leading i (omega (arith, next_x.within, ordered.inside x x_in))),
        omega (arith, target_t, ordered.leading j (omega (arith, next_y.within, ordered.inside y y_in))),
      )

      pub walking_left : s.name < t.name → Walking ps ss x y old new changed false after_s right
      walking_left less = record {
        of_x = next_x.rest;
        of_y = w.of_y;
        walked = subst (λ (k : ℕ). Walked ps ss x y old new changed false k j) (sym next_x.at)
            (walked_left ps ss ordered x y old new changed all i j w.walked next_x.within next_y.within (omega (arith, name_s, name_t)));
      }

      pub walking_right : t.name < s.name → Walking ps ss x y old new changed all left after_t
      walking_right less = record {
        of_x = w.of_x;
        of_y = next_y.rest;
        walked = subst (λ (k : ℕ). Walked ps ss x y old new changed all i k) (sym next_y.at)
            (walked_right ps ss ordered x y old new changed all i j w.walked next_x.within next_y.within (omega (arith, name_s, name_t)));
      }

      pub walking_both : s.name ≡ t.name → Same old x y → (newer : List ℕ) (r : Bool) → Merges new newer s.target t.target → Tells r new newer
          → Walking ps ss x y old newer (changed || r) all after_s after_t
      walking_both eq together newer r m tells = record {
        of_x = next_x.rest;
        of_y = next_y.rest;
        walked = subst₂ (λ (k l : ℕ). Walked ps ss x y old newer (changed || r) all k l) (sym next_x.at) (sym next_y.at)
            (walked_both ps ss ordered x y old new changed all i j w.walked next_x.within next_y.within (name_s ∙ eq ∙ sym name_t) x_in y_in together newer r
            (subst₂ (λ (p q : ℕ). Merges new newer p q) (sym target_s) (sym target_t) m) tells);
      }
