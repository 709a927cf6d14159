-- What is written is read: the bytes of a word or of a number, with a byte after them that does not go on with it.
use Rattle.std.proofs.Common.{subst, inl, inr, ◌≡◌, ℕ, zero, suc, ◌+◌, ◌-◌, ◌*◌, ◌^◌, ◌<◌, ◌≤◌, Bool, true, false, not, ◌&&◌, eqb, leb, List, [], ◌∷◌, ◌++◌, length, get_or, take, ℤ, pos, negsuc, neg_ℤ, Some, decimal, fold, refl, ap, ◌∙◌, arith, rules}
use Rattle.std.specs.Char.{is_ascii_digit}
use Rattle.std.specs.Str.{all_ascii_digits}
use Rattle.std.proofs.lemmas.List.{take_at}
use Rattle.std.proofs.lemmas.Bool.{cases_Bool, cond-true, cond-false, and_parts, and_from, le-leb, ne_eqb, or_left}
use Rattle.std.proofs.lemmas.Str.Parse.{IsNumeralModel, numerals_by_fold, tells_all_ascii_digits}
use Rattle.std.proofs.lemmas.Fmt.{digits_decimal, digits_value-decimal, decimal_nonempty, first_decimal, decimal_digit}
use Rattle.tokens.specs.declared.token.class.Class.{Class}
use Rattle.tokens.specs.declared.token.class.Class.TheVariants.{Digit, WordByte}
use Rattle.tokens.specs.Tokens.{word, number, token, member, run, value, well_formed, in_range, number_of, number_token, number_at, word_at}

-- all bytes are of the class
abbrev pub all_in : Class → List ℕ → Bool
all_in c [] = true
all_in c (b ∷ bs) = member c b && all_in c bs

-- a run ends where a byte is of another class
pub run_none : (c : Class) (b : ℕ) (bs : List ℕ) → member c b ≡ false → run c (b ∷ bs) ≡ 0
run_none c b bs e = cond-false (member c b) (1 + run c bs) 0 e

pub run_append : (c : Class) (xs rest : List ℕ) → all_in c xs ≡ true → run c rest ≡ 0 → run c (xs ++ rest) ≡ length xs
run_append c [] rest h e = e
run_append c (x ∷ xs) rest h e =
    let p = and_parts (member c x) (all_in c xs) h in
    cond-true (member c x) (1 + run c (xs ++ rest)) 0 p.0 ∙ omega (arith, run_append c xs rest p.1 e)

pub word_back : (w rest : List ℕ) (i : ℕ) → all_in WordByte w ≡ true → length w ≤ 24 → run WordByte rest ≡ 0 → word_at (w ++ rest) i ≡ token (word w) i (i + length w)
word_back w rest i h short e =
    let r = run_append WordByte w rest h e in
    cond-true (leb (run WordByte (w ++ rest)) 24) _ _ (le-leb _ 24 (omega arith)) ∙
    (λ k. token (word (take (r k) (w ++ rest))) i (i + r k)) ∙
    ap (λ l. token (word l) i (i + length w)) (take_at w rest (length w) refl)

pub own : IsNumeralModel (λ ds. all_ascii_digits ds ≡ true) value
own = numerals_by_fold _ tells_all_ascii_digits (λ n ds. fold (λ n d. n * 10 + (d - 48)) n ds) (search rules)

digits_in : (ds : List ℕ) → all_ascii_digits ds ≡ true → all_in Digit ds ≡ true
digits_in [] h = refl
digits_in (d ∷ ds) h = let p = and_parts (is_ascii_digit d) (all_ascii_digits ds) h in and_from (member Digit d) (all_in Digit ds) p.0 (digits_in ds p.1)

-- the bytes of a run of digits are digits
pub digits_run : (bs : List ℕ) → all_ascii_digits (take (run Digit bs) bs) ≡ true
digits_run [] = refl
digits_run (b ∷ bs) =
    let more : suc (run Digit bs) ≡ 1 + run Digit bs = omega arith in
    elim (cases_Bool (member Digit b)) [
      | inl t ↦ simp t (subst (λ n. all_ascii_digits (take n (b ∷ bs)) ≡ true) more (and_from (is_ascii_digit b) (all_ascii_digits (take (run Digit bs) bs)) t (digits_run bs)))
      | inr f ↦ simp f
    ]

pub digits_written : (n : ℕ) → n < 2 ^ 64 → all_ascii_digits (decimal n) ≡ true
digits_written n h = digits_decimal own n h

formed : (minus : Bool) (ds : List ℕ) → 0 < length ds → 48 < get_or ds 0 0 → well_formed minus ds ≡ true
formed minus [] some h = absurd (omega arith)
formed minus (d ∷ ds) some h = or_left (not (eqb d 48)) _ (ap not (ne_eqb d 48 (omega arith)))

formed_decimal : (n : ℕ) → n < 2 ^ 64 → well_formed false (decimal n) ≡ true
formed_decimal n h = by n h refl
  where
    by : (k : ℕ) → k < 2 ^ 64 → k ≡ n → well_formed false (decimal k) ≡ true
    by zero h e = ap (well_formed false) (decimal_digit 0 (omega arith))
    by (suc k) h e = formed false (decimal (suc k)) (decimal_nonempty (suc k) h) (first_decimal (suc k) (omega arith) h)

pub number_of_decimal : (n : ℕ) → n ≤ 2147483647 → number_of false (decimal n) ≡ Some (pos n)
number_of_decimal n le =
    let v = digits_value-decimal own n (omega arith) in
    cond-true _ _ _ (and_from (well_formed false (decimal n)) (in_range false (value (decimal n))) (formed_decimal n (omega arith)) (le-leb _ 2147483647 (omega arith))) ∙ ap (λ k. Some (pos k)) v

pub number_of_minus : (n : ℕ) → n ≤ 2147483647 → number_of true (decimal (suc n)) ≡ Some (negsuc n)
number_of_minus n le =
    let v = digits_value-decimal own (suc n) (omega arith) in
    let f = formed true (decimal (suc n)) (decimal_nonempty (suc n) (omega arith)) (first_decimal (suc n) (omega arith) (omega arith)) in
    cond-true _ _ _ (and_from (well_formed true (decimal (suc n))) (in_range true (value (decimal (suc n)))) f (le-leb _ 2147483648 (omega arith))) ∙ ap (λ k. Some (neg_ℤ (pos k))) v

-- the digits of n stand at place j, and the number that they belong to begins at place i
number_at_lem : (minus : Bool) (n : ℕ) (z : ℤ) (rest : List ℕ) (i j : ℕ) → n < 2 ^ 64 → number_of minus (decimal n) ≡ Some z → run Digit rest ≡ 0 → number_at minus (decimal n ++ rest) i j ≡ token (number z) i (j + length (decimal n))
number_at_lem minus n z rest i j small o e =
    let r = run_append Digit (decimal n) rest (digits_in (decimal n) (digits_written n small)) e in
    (λ k. number_token (number_of minus (take (r k) (decimal n ++ rest))) i (j + r k)) ∙
    ap (λ l. number_token (number_of minus l) i (j + length (decimal n))) (take_at (decimal n) rest _ refl) ∙
    ap (λ o. number_token o i (j + length (decimal n))) o

pub number_back : (n : ℕ) (rest : List ℕ) (i : ℕ) → n ≤ 2147483647 → run Digit rest ≡ 0 → number_at false (decimal n ++ rest) i i ≡ token (number (pos n)) i (i + length (decimal n))
number_back n rest i le e = number_at_lem false n (pos n) rest i i (omega arith) (number_of_decimal n le) e

pub minus_back : (n : ℕ) (rest : List ℕ) (i : ℕ) → n ≤ 2147483647 → run Digit rest ≡ 0 → number_at true (decimal (suc n) ++ rest) i (i + 1) ≡ token (number (negsuc n)) i (i + 1 + length (decimal (suc n)))
minus_back n rest i le e = number_at_lem true (suc n) (negsuc n) rest i (i + 1) (omega arith) (number_of_minus n le) e
