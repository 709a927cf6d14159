-- Lists of different numbers below a bound: where each stands, one more, and that there are no more of them than the bound.
use Rattle.std.proofs.Common.{◌≡◌, ℕ, zero, suc, ◌+◌, ◌<◌, ◌≤◌, Bool, true, false, cond, not, ◌&&◌, ◌||◌, eqb, ◌⊎◌, List, [], ◌∷◌, ◌++◌, length, get_or, count_by, sym, refl, ap, ◌∙◌, inl, inr, ⊎_elim, arith}
use native.Mathlib.Decide.{dec_lt}
use Rattle.std.specs.List.{range_with_len}
use Rattle.std.proofs.lemmas.List.FromFn.{map-range_with_len_more}
use Rattle.std.proofs.lemmas.List.{length_push, get_or_append_left, get_or_push, map-id}
use Rattle.std.proofs.lemmas.List.Sums.{sum_by-cons, sum_by_push}
use Rattle.std.proofs.lemmas.Bool.{eqb-true, eqb-false, eq-eqb, ne_eqb, or_cases, or_parts, or_from, or_left, or_right, cases_Bool, cases_eq, both_ways, cond-true, cond-false}
use Rattle.records.proofs.Pigeons.{pigeon}
use Rattle.showing.specs.Shown.{has}

-- the number that stands at k, and where p stands first
abbrev pub at : List ℕ → ℕ → ℕ
at W k = get_or W k 0

abbrev pub index : List ℕ → ℕ → ℕ
index [] p = 0
index (q ∷ W) p = cond (eqb q p) 0 (suc (index W p))

pub index_in : (W : List ℕ) (p : ℕ) → has W p ≡ true → (index W p < length W) × (at W (index W p) ≡ p)
index_in [] p h = absurd (both_ways false refl h)
index_in (q ∷ W) p h =
    ⊎_elim
    (λ e. rw e (omega arith, eqb-true q p e))
    (λ e. let r = index_in W p (⊎_elim (λ t. absurd (both_ways (eqb q p) e t)) (λ t. t) (or_cases (eqb q p) (has W p) h)) in rw e (omega (arith, r.0), r.1))
    (cases_Bool (eqb q p))

pub has_at : (W : List ℕ) (k : ℕ) → k < length W → has W (at W k) ≡ true
has_at [] k h = absurd (omega arith)
has_at (q ∷ W) zero h = or_left (eqb q q) (has W q) (eq-eqb q q refl)
has_at (q ∷ W) (suc k) h = or_right (eqb q (at W k)) (has W (at W k)) (has_at W k (omega arith))

pub has_push : (W : List ℕ) (q p : ℕ) → has (W ++ (q ∷ [])) p ≡ has W p || eqb q p
has_push [] q p = by (eqb q p)
  where
    by : (b : Bool) → b || false ≡ false || b
    by true = refl
    by false = refl
has_push (x ∷ W) q p = ap (λ b. eqb x p || b) (has_push W q p) ∙ by (eqb x p) (has W p) (eqb q p)
  where
    by : (a b c : Bool) → a || (b || c) ≡ (a || b) || c
    by true b c = refl
    by false b c = refl

pub has_more : (W : List ℕ) (q p : ℕ) → has W p ≡ true → has (W ++ (q ∷ [])) p ≡ true
has_more W q p h = has_push W q p ∙ or_left (has W p) (eqb q p) h

pub has_last : (W : List ℕ) (q : ℕ) → has (W ++ (q ∷ [])) q ≡ true
has_last W q = has_push W q q ∙ or_right (has W q) (eqb q q) (eq-eqb q q refl)

-- p is the last, or stood there before
pub has_cases : (W : List ℕ) (q p : ℕ) → has (W ++ (q ∷ [])) p ≡ true → (has W p ≡ true) ⊎ (q ≡ p)
has_cases W q p h = ⊎_elim (λ t. inl t) (λ t. inr (eqb-true q p t)) (or_cases (has W p) (eqb q p) (sym (has_push W q p) ∙ h))

pub has_not : (W : List ℕ) (q p : ℕ) → has (W ++ (q ∷ [])) p ≡ false → has W p ≡ false
has_not W q p h = (or_parts (has W p) (eqb q p) (sym (has_push W q p) ∙ h)).0

-- no number stands twice
abbrev pub Apart : List ℕ → Type 0
Apart [] = Unit {0}
Apart (x ∷ xs) = (has xs x ≡ false) × Apart xs

apart_push : (W : List ℕ) (q : ℕ) → Apart W → has W q ≡ false → Apart (W ++ (q ∷ []))
apart_push [] q a h = (refl, tt)
apart_push (x ∷ W) q a h =
    let p = or_parts (eqb x q) (has W q) h in
    (has_push W q x ∙ or_from (has W x) (eqb q x) a.0 (ne_eqb q x (λ e. eqb-false x q p.0 (sym e))), apart_push W q a.1 p.1)

apart_index : (W : List ℕ) (k : ℕ) → Apart W → k < length W → index W (at W k) ≡ k
apart_index [] k a h = absurd (omega arith)
apart_index (x ∷ W) zero a h = cond-true (eqb x x) _ _ (eq-eqb x x refl)
apart_index (x ∷ W) (suc k) a h =
    let ne : eqb x (at W k) ≡ false =
    ne_eqb x (at W k) (λ e. both_ways (has W x) a.0 (ap (has W) e ∙ has_at W k (omega arith))) in
    cond-false (eqb x (at W k)) _ _ ne ∙ ap suc (apart_index W k a.1 (omega arith))

-- different numbers below n
pub record Listed (n : ℕ) (W : List ℕ) : Type 0 where
  pub apart : Apart W
  pub below : (k : ℕ) → k < length W → at W k < n

module _ {n : ℕ} {W : List ℕ} (l : Listed n W) where
  pub index_at : (k : ℕ) → k < length W → index W (at W k) ≡ k
  index_at k h = apart_index W k l.apart h

  pub at_one : (i j : ℕ) → i < length W → j < length W → at W i ≡ at W j → i ≡ j
  at_one i j h k e = sym (index_at i h) ∙ ap (index W) e ∙ index_at j k

  pub few : length W ≤ n
  few = pigeon (length W) n (at W) l.below (λ i j h k e. omega (arith, at_one i j (omega arith) k e))

  pub listed_push : (q : ℕ) → q < n → has W q ≡ false → Listed n (W ++ (q ∷ []))
  listed_push q h new = record {
    apart = apart_push W q l.apart new;
    below = λ k b.
        elim (dec_lt k (length W)) [
          | yes lt ↦ rw (get_or_append_left W (q ∷ []) 0 k lt) (l.below k lt)
          | no ge ↦ rw (get_or_push W q 0 k (omega (arith, length_push W q))) h
        ];
  }

-- ---- how many of them pass a test

score : (ℕ → Bool) → ℕ → ℕ
score t q = cond (t q) 1 0

tally : (ℕ → Bool) → List ℕ → ℕ
tally t W = count_by t W

rank : (ℕ → Bool) → ℕ → ℕ
rank t n = count_by t (range_with_len 0 n)

tally_none : (t : ℕ → Bool) → tally t [] ≡ 0
unfolding tally
tally_none t = refl

rank_none : (t : ℕ → Bool) → rank t 0 ≡ 0
unfolding rank
rank_none t = refl

tally_more : (t : ℕ → Bool) (q : ℕ) (W : List ℕ) → tally t (q ∷ W) ≡ score t q + tally t W
unfolding score tally
tally_more t q W = sum_by-cons (λ x. cond (t x) 1 0) q W

rank_more : (t : ℕ → Bool) (n : ℕ) → rank t (suc n) ≡ rank t n + score t n
unfolding rank score
rank_more t n =
    let m : suc n ≡ n + 1 = omega arith in
    ap (λ k. count_by t (range_with_len 0 k)) m ∙ ap (count_by t) (sym (map-id (range_with_len 0 (n + 1))) ∙ map-range_with_len_more (λ x. x) 0 n n (omega arith) ∙ ap (λ l. l ++ (n ∷ [])) (map-id (range_with_len 0 n)))
    ∙ sum_by_push (λ x. cond (t x) 1 0) (range_with_len 0 n) n

-- the test, but for x
but : (ℕ → Bool) → ℕ → ℕ → Bool
but t x q = t q && not (eqb q x)

but_other : (t : ℕ → Bool) (x q : ℕ) → (q ≡ x → ⊥) → score (but t x) q ≡ score t q
unfolding score but
but_other t x q n = ap (λ b. cond (t q && not b) 1 0) (ne_eqb q x n) ∙ by (t q)
  where
    by : (b : Bool) → ◌≡◌ {A = ℕ} (cond (b && true) 1 0) (cond b 1 0)
    by true = refl
    by false = refl

but_same : (t : ℕ → Bool) (x q : ℕ) → q ≡ x → score (but t x) q ≡ 0
unfolding score but
but_same t x q e = ap (λ b. cond (t q && not b) 1 0) (eq-eqb q x e) ∙ by (t q)
  where
    by : (b : Bool) → ◌≡◌ {A = ℕ} (cond (b && false) 1 0) 0
    by true = refl
    by false = refl

tally_but : (t : ℕ → Bool) (x : ℕ) (W : List ℕ) → has W x ≡ false → tally (but t x) W ≡ tally t W
tally_but t x [] h = tally_none (but t x) ∙ sym (tally_none t)
tally_but t x (q ∷ W) h =
    let p = or_parts (eqb q x) (has W x) h in
    tally_more (but t x) q W ∙ (λ i. but_other t x q (eqb-false q x p.0) i + tally_but t x W p.1 i) ∙ sym (tally_more t q W)

rank_but : (t : ℕ → Bool) (x n : ℕ) → ((n ≤ x) × (rank (but t x) n ≡ rank t n)) ⊎ ((x < n) × (rank (but t x) n + score t x ≡ rank t n))
rank_but t x zero = inl (omega arith, rank_none (but t x) ∙ sym (rank_none t))
rank_but t x (suc n) =
    let a = rank_more t n in
    let b = rank_more (but t x) n in
    ⊎_elim
    (λ p.
    ⊎_elim (λ e. inr (omega arith, omega (arith, p.1, but_same t x n e, ap (score t) e))) (λ ne. inl (omega arith, omega (arith, p.1, but_other t x n ne))) (cases_eq n x))
    (λ p. inr (omega arith, omega (arith, p.1, but_other t x n (λ e. omega arith))))
    (rank_but t x n)

tally_few : (n : ℕ) (W : List ℕ) (t : ℕ → Bool) → Apart W → ((k : ℕ) → k < length W → at W k < n) → tally t W ≤ rank t n
tally_few n [] t a b = omega (arith, tally_none t)
tally_few n (x ∷ W) t a b =
    let h = tally_few n W (but t x) a.1 (λ k l. b (suc k) (omega arith)) in
    let in_n : x < n = b 0 (omega arith) in
    ⊎_elim
    (λ p. absurd (omega arith))
    (λ p. omega (arith, tally_more t x W, tally_but t x W a.0, p.1))
    (rank_but t x n)

pub count_few : {n : ℕ} {W : List ℕ} (t : ℕ → Bool) → Listed n W → count_by t W ≤ count_by t (range_with_len 0 n)
unfolding tally rank
count_few {n} {W} t l = tally_few n W t l.apart l.below
