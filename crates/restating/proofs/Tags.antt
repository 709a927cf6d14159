-- Tags: each tagged place has its own, in the order of writing, and there are no more of them than tagged places.
use Rattle.std.proofs.Common.{◌≡◌, ℕ, ◌+◌, ◌<◌, ◌≤◌, Bool, true, false, cond, eqb, leb, List, [], ◌∷◌, ◌++◌, length, get_or, take, drop, sum_by, count_by, sym, refl, ap, ◌∙◌, ⊎_elim, arith}
use Rattle.std.proofs.lemmas.List.{get_or-take, get_or-drop, length-take, length-drop}
use Rattle.std.proofs.lemmas.List.Sums.{sum_by-cons, sum_by-take-drop, get_or-le-sum_by}
use Rattle.std.proofs.lemmas.Bool.{eqb-true, eq-eqb, or_cases, or_parts, cases_Bool, cases_order, both_ways, cond-true, cond-false, le-leb}
use Rattle.records.specs.declared.SlotRecord.{SlotRecord}
use Rattle.records.specs.Tables.{target_at, blank_slot}
use Rattle.records.specs.Sheets.{Sheet, size, width}
use Rattle.showing.specs.Shown.{has, tagged, tags, tag_of, leading}
use Rattle.restating.proofs.Listed.{Listed, count_few}

-- what one element, or two, give to a sum
one_hit : {X : Type 0} (f : X → ℕ) (xs : List X) (i : ℕ) (d : X) → i < length xs → f (get_or xs i d) ≡ 1 → 1 ≤ sum_by f xs
one_hit f xs i d h e = omega (arith, get_or-le-sum_by f xs i d h)

in_order : {X : Type 0} (f : X → ℕ) (xs : List X) (i j : ℕ) (d : X) → i < j → j < length xs → f (get_or xs i d) ≡ 1 → f (get_or xs j d) ≡ 1 → 2 ≤ sum_by f xs
in_order f xs i j d h k e g =
    let a = one_hit f (take j xs) i d (omega (arith, length-take j xs)) (ap f (get_or-take j xs i d h) ∙ e) in
    let z : j + 0 ≡ j = omega arith in
    let b = one_hit f (drop j xs) 0 d (omega (arith, length-drop j xs)) (ap f (get_or-drop j xs 0 d ∙ ap (λ n. get_or xs n d) z) ∙ g) in
    omega (arith, sum_by-take-drop f xs j)

two_hits : {X : Type 0} (f : X → ℕ) (xs : List X) (i j : ℕ) (d : X) → (i ≡ j → ⊥) → i < length xs → j < length xs → f (get_or xs i d) ≡ 1 → f (get_or xs j d) ≡ 1 → 2 ≤ sum_by f xs
two_hits f xs i j d ne h k e g =
    ⊎_elim (λ same. absurd (ne same)) (⊎_elim (λ lt. in_order f xs i j d lt k e g) (λ gt. in_order f xs j i d gt h g e)) (cases_order i j)

module _ {K : Type 0} (s : Sheet K) where
  own : ℕ → ℕ
  own q = cond (tagged s q) 1 0

  many : List ℕ → ℕ
  many W = count_by (tagged s) W

  number : List ℕ → ℕ → ℕ
  number W p = tag_of s W p

  own_yes : (q : ℕ) → tagged s q ≡ true → own q ≡ 1
  unfolding own
  own_yes q e = cond-true (tagged s q) 1 0 e

  many_more : (q : ℕ) (W : List ℕ) → many (q ∷ W) ≡ own q + many W
  unfolding own many
  many_more q W = sum_by-cons (λ x. cond (tagged s x) 1 0) q W

  number_none : (p : ℕ) → number [] p ≡ 1
  unfolding number
  number_none p = refl

  number_here : (q : ℕ) (W : List ℕ) (p : ℕ) → eqb q p ≡ true → number (q ∷ W) p ≡ 1
  unfolding number
  number_here q W p e = cond-true (eqb q p) _ _ e

  number_past : (q : ℕ) (W : List ℕ) (p : ℕ) → eqb q p ≡ false → number (q ∷ W) p ≡ own q + number W p
  unfolding number own
  number_past q W p e = cond-false (eqb q p) _ _ e ∙ by (tagged s q) (tag_of s W p)
    where
      by : (b : Bool) (n : ℕ) → cond b (1 + n) n ≡ cond b 1 0 + n
      by true n = refl
      by false n = omega arith

  -- ---- one place more

  number_last : (W : List ℕ) (p : ℕ) → number (W ++ (p ∷ [])) p ≡ number W p
  number_last [] p = number_here p [] p (eq-eqb p p refl) ∙ sym (number_none p)
  number_last (q ∷ W) p =
      let h = number_last W p in
      ⊎_elim
      (λ e. number_here q (W ++ (p ∷ [])) p e ∙ sym (number_here q W p e))
      (λ e. omega (arith, number_past q (W ++ (p ∷ [])) p e, number_past q W p e))
      (cases_Bool (eqb q p))

  number_more : (W : List ℕ) (q p : ℕ) → has W p ≡ true → number (W ++ (q ∷ [])) p ≡ number W p
  number_more [] q p h = absurd (both_ways false refl h)
  number_more (x ∷ W) q p h =
      ⊎_elim
      (λ e. number_here x (W ++ (q ∷ [])) p e ∙ sym (number_here x W p e))
      (λ e. omega (arith, number_past x (W ++ (q ∷ [])) p e, number_past x W p e, number_more W q p (⊎_elim (λ t. absurd (both_ways (eqb x p) e t)) (λ t. t) (or_cases (eqb x p) (has W p) h))))
      (cases_Bool (eqb x p))

  -- ---- which numbers they are

  number_some : (W : List ℕ) (p : ℕ) → 1 ≤ number W p
  number_some [] p = omega (arith, number_none p)
  number_some (q ∷ W) p =
      let h = number_some W p in
      ⊎_elim (λ e. omega (arith, number_here q W p e)) (λ e. omega (arith, number_past q W p e)) (cases_Bool (eqb q p))

  past : (x : ℕ) (W : List ℕ) (p : ℕ) → has (x ∷ W) p ≡ true → eqb x p ≡ false → has W p ≡ true
  past x W p h e = ⊎_elim (λ t. absurd (both_ways (eqb x p) e t)) (λ t. t) (or_cases (eqb x p) (has W p) h)

  number_few : (W : List ℕ) (p : ℕ) → has W p ≡ true → tagged s p ≡ true → number W p ≤ many W
  number_few [] p h t = absurd (both_ways false refl h)
  number_few (q ∷ W) p h t =
      let m = many_more q W in
      ⊎_elim
      (λ e. omega (arith, number_here q W p e, ap own (eqb-true q p e), own_yes p t))
      (λ e. omega (arith, number_past q W p e, number_few W p (past q W p h e) t))
      (cases_Bool (eqb q p))

  number_less : (W : List ℕ) (a b : ℕ) → has W a ≡ true → tagged s a ≡ true → has W b ≡ false → number W a < number W b
  number_less [] a b h t n = absurd (both_ways false refl h)
  number_less (q ∷ W) a b h t n =
      let p = or_parts (eqb q b) (has W b) n in
      let f = number_past q W b p.0 in
      ⊎_elim
      (λ e. omega (arith, number_here q W a e, ap own (eqb-true q a e), own_yes a t, number_some W b))
      (λ e. omega (arith, number_past q W a e, number_less W a b (past q W a h e) t p.1))
      (cases_Bool (eqb q a))

  number_one : (W : List ℕ) (a b : ℕ) → has W a ≡ true → has W b ≡ true → tagged s a ≡ true → tagged s b ≡ true → number W a ≡ number W b → a ≡ b
  number_one [] a b h k t u e = absurd (both_ways false refl h)
  number_one (q ∷ W) a b h k t u same =
      ⊎_elim
      (λ e.
      ⊎_elim
      (λ f. sym (eqb-true q a e) ∙ eqb-true q b f)
      (λ f. absurd (omega (arith, number_here q W a e, number_past q W b f, ap own (eqb-true q a e), own_yes a t, number_some W b)))
      (cases_Bool (eqb q b)))
      (λ e.
      ⊎_elim
      (λ f. absurd (omega (arith, number_here q W b f, number_past q W a e, ap own (eqb-true q b f), own_yes b u, number_some W a)))
      (λ f. number_one W a b (past q W a h e) (past q W b k f) t u (omega (arith, number_past q W a e, number_past q W b f)))
      (cases_Bool (eqb q b)))
      (cases_Bool (eqb q a))

  -- ---- the same of tags

  pub tag_last : (W : List ℕ) (p : ℕ) → tag_of s (W ++ (p ∷ [])) p ≡ tag_of s W p
  unfolding number
  tag_last = number_last

  pub tag_more : (W : List ℕ) (q p : ℕ) → has W p ≡ true → tag_of s (W ++ (q ∷ [])) p ≡ tag_of s W p
  unfolding number
  tag_more = number_more

  pub tag_some : (W : List ℕ) (p : ℕ) → 1 ≤ tag_of s W p
  unfolding number
  tag_some = number_some

  pub tag_less : (W : List ℕ) (a b : ℕ) → has W a ≡ true → tagged s a ≡ true → has W b ≡ false → tag_of s W a < tag_of s W b
  unfolding number
  tag_less = number_less

  pub tag_one : (W : List ℕ) (a b : ℕ) → has W a ≡ true → has W b ≡ true → tagged s a ≡ true → tagged s b ≡ true → tag_of s W a ≡ tag_of s W b → a ≡ b
  unfolding number
  tag_one = number_one

  pub tag_few : {W : List ℕ} → Listed (size s) W → (p : ℕ) → has W p ≡ true → tagged s p ≡ true → tag_of s W p ≤ tags s
  unfolding number many
  tag_few {W} l p h t = omega (arith, number_few W p h t, count_few (tagged s) l)

  -- ---- which places have tags

  pub tagged_root : (i : ℕ) → i < width s → target_at s.slots i ≡ 0 → tagged s 0 ≡ true
  tagged_root i h e = le-leb 1 (leading s 0) (one_hit (λ x. cond (eqb x.target 0) 1 0) s.slots i blank_slot h (cond-true _ 1 0 (eq-eqb _ 0 e)))

  pub tagged_twice : (p i j : ℕ) → (i ≡ j → ⊥) → i < width s → j < width s → target_at s.slots i ≡ p → target_at s.slots j ≡ p → tagged s p ≡ true
  tagged_twice p i j ne h k e f =
      let hits = two_hits (λ (x : SlotRecord). cond (eqb x.target p) 1 0) s.slots i j blank_slot ne h k (cond-true _ 1 0 (eq-eqb _ p e)) (cond-true _ 1 0 (eq-eqb _ p f)) in
      by (eqb p 0) (leading s p) hits
    where
      by : (b : Bool) (n : ℕ) → 2 ≤ n → leb (cond b 1 2) n ≡ true
      by true n h = le-leb 1 n (omega arith)
      by false n h = le-leb 2 n h
