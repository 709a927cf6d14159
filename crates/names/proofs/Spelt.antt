-- What numbers spell: each name is what its number spells, and one figure more.
use Rattle.std.proofs.Common.{◌≡◌, ℕ, zero, suc, ◌+◌, ◌-◌, ◌*◌, ◌/◌, ◌%◌, ◌^◌, ◌<◌, ◌≤◌, List, [], ◌∷◌, ◌++◌, length, sym, refl, ap, ◌∙◌, subst, inl, inr, ⊎_elim, mod-lt, div-lt_iff_lt-mul, div-add-mod', arith}
use native.Mathlib.Nat.{pow-succ'}
use lib.Arith.{digits_div, digits_mod}
use Rattle.std.specs.List.{AllByRecursion as All}
use Rattle.std.proofs.lemmas.Bool.{ne_eqb, cases_eq}
use Rattle.names.specs.Names.{Name, NameByte, figure, reading, number, IsName}
use Rattle.names.specs.Spellings.{byte, spelt_from, spelt, ThereAndBack}
use Rattle.names.proofs.Figures.{byte_figure, figure_byte}
use Rattle.names.proofs.Readings.{power_some, weight_more, reading_lt, reading_some, bytes_of, named}

-- a reading is spelt as its bytes
spelt_reading : (k : ℕ) (xs : List ℕ) → length xs ≤ k → All NameByte xs → spelt_from k (reading k xs) ≡ xs
spelt_reading zero [] few a = refl
spelt_reading zero (x ∷ xs) few a = absurd (omega arith)
spelt_reading (suc k) [] few a = refl
spelt_reading (suc k) (x ∷ xs) few a =
    let r = reading_lt k xs (omega arith) a.1 in
    let s = reading_some k x (reading k xs) a.0 in
    let p = power_some k in
    let z = ne_eqb (reading (suc k) (x ∷ xs)) 0 (omega arith) in
    let q = digits_div (figure x) r in
    let m = digits_mod (figure x) r in
    let h = spelt_reading k xs (omega arith) a.1 in
    rw (z, q, m, h, byte_figure x a.0)

-- a name is what its number spells
spelt_number : (bs : List ℕ) → Name bs → spelt (number bs) ≡ bs
unfolding spelt
spelt_number bs n = spelt_reading 12 bs n.few (bytes_of bs n)

pub spelt_name : (n : ℕ) (is : IsName n) → spelt n ≡ is.bytes
spelt_name n is = ap spelt (sym is.numbered) ∙ spelt_number is.bytes is.name

pub one_name : (bs cs : List ℕ) → Name bs → Name cs → number bs ≡ number cs → bs ≡ cs
one_name bs cs n m e = sym (spelt_number bs n) ∙ ap spelt e ∙ spelt_number cs m

pub there_and_back : ThereAndBack
there_and_back = record {
  back = spelt_number;
  name = λ n is. subst Name (sym (spelt_name n is)) is.name;
  there = λ n is. ap number (spelt_name n is) ∙ is.numbered;
}

-- at first all figures are left
pub spelt_start : (n : ℕ) → spelt_from 12 n ≡ spelt n
unfolding spelt
spelt_start n = refl

-- where nothing is left, nothing is spelt
pub spelt_none : (k : ℕ) → spelt_from k 0 ≡ []
spelt_none zero = refl
spelt_none (suc k) = refl

-- where something is left, its first figure is spelt
spelt_some : (k n : ℕ) → 0 < n → spelt_from (suc k) n ≡ byte (n / 38 ^ k) ∷ spelt_from k (n % 38 ^ k)
spelt_some k n some = let z = ne_eqb n 0 (omega arith) in rw z

pub spelt_more : (xs : List ℕ) (i n w : ℕ) → i < 12 → 0 < n → w ≡ 38 ^ (12 - i) → xs ++ spelt_from (12 - i) n ≡ xs ++ (byte (n / (w / 38)) ∷ spelt_from (12 - (i + 1)) (n % (w / 38)))
spelt_more xs i n w h some e =
    let m : 12 - i ≡ suc (12 - (i + 1)) = omega arith in
    rw (weight_more i w h e, m, spelt_some (12 - (i + 1)) n some)

-- no byte of a name has the figure 0
no_zero : NameByte (byte 0) → ⊥
no_zero (inl l) = omega arith
no_zero (inr (inl d)) = omega arith
no_zero (inr (inr e)) = omega arith

pub some_figure : (f : ℕ) → NameByte (byte f) → 0 < f
some_figure f h = ⊎_elim (λ none. absurd (no_zero (subst (λ (g : ℕ). NameByte (byte g)) none h))) (λ some. omega arith) (cases_eq f 0)

pub first_figure : (k n : ℕ) → n < 38 ^ suc k → n / 38 ^ k ≤ 37
first_figure k n h =
    let p = pow-succ' 38 k in
    let q = (div-lt_iff_lt-mul {x = n} {y = 38} (power_some k)).1 (omega arith) in
    omega arith

-- bytes of names that a number spells have this number
reading_spelt : (k n : ℕ) → n < 38 ^ k → All NameByte (spelt_from k n) → reading k (spelt_from k n) ≡ n
reading_spelt zero n h a = omega arith
reading_spelt (suc k) n h a =
    ⊎_elim
    (λ none. rw none)
    (λ some.
    let e = spelt_some k n (omega arith) in
    let b = subst (All NameByte) e a in
    let f = figure_byte (n / 38 ^ k) (some_figure (n / 38 ^ k) b.0) (first_figure k n h) in
    let r = reading_spelt k (n % 38 ^ k) (mod-lt n (power_some k)) b.1 in
    ap (reading (suc k)) e ∙ (λ i. f i * 38 ^ k + r i) ∙ div-add-mod' n (38 ^ k))
    (cases_eq n 0)

-- bytes of names that a number spells are a name with this number, if its first figure is 1 to 26
pub spelt_all : (xs : List ℕ) (n : ℕ) → length xs ≤ 12 → All NameByte xs → xs ≡ spelt n → 38 ^ 11 ≤ n → n < 27 * 38 ^ 11 → Name xs × (number xs ≡ n)
unfolding spelt
spelt_all xs n few a e low high =
    let m = ap number e ∙ reading_spelt 12 n (omega arith) (subst (All NameByte) e a) in
    (named xs few a (omega arith) (omega arith), m)
