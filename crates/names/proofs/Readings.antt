-- Readings of bytes as figures in base 38: their bounds, and one more byte.
use Rattle.std.proofs.Common.{◌≡◌, ℕ, zero, suc, ◌+◌, ◌-◌, ◌*◌, ◌/◌, ◌^◌, ◌<◌, ◌≤◌, List, [], ◌∷◌, ◌++◌, length, get_or, take, sym, refl, ap, ◌∙◌, ⊎_elim, mul-le-mul_right, pow-suc, mul-div_cancel, arith}
use native.Mathlib.Nat.{pow-succ', one-le-pow}
use Rattle.std.specs.List.{AllByRecursion as All}
use Rattle.std.proofs.ByRecursion.{All-from_get_or, All-get_or}
use Rattle.std.proofs.lemmas.List.{take_more, length-take-le}
use Rattle.std.proofs.lemmas.Bool.{cases_lt}
use Rattle.names.specs.Names.{Name, NameByte, figure, reading, number}
use Rattle.names.proofs.Figures.{figure_some, figure_few, figure_letter, letter_figure}

pub power_some : (k : ℕ) → 0 < 38 ^ k
power_some k = one-le-pow k 38 (omega arith)

-- the weight of the figure at i, from that of the one before
pub weight_more : (i w : ℕ) → i < 12 → w ≡ 38 ^ (12 - i) → w / 38 ≡ 38 ^ (12 - (i + 1))
weight_more i w h e =
    let m : 12 - i ≡ suc (12 - (i + 1)) = omega arith in
    ap (λ (x : ℕ). x / 38) (e ∙ ap (λ (j : ℕ). 38 ^ j) m ∙ pow-suc 38 (12 - (i + 1))) ∙ mul-div_cancel (38 ^ (12 - (i + 1))) (omega arith)

reading_none : (k : ℕ) → reading k [] ≡ 0
reading_none zero = refl
reading_none (suc k) = refl

-- the bytes leave room for m more figures
reading_room : (k m : ℕ) (xs : List ℕ) → length xs + m ≡ k → All NameByte xs → reading k xs + 38 ^ m ≤ 38 ^ k
reading_room k m [] e a =
    let q : m ≡ k = omega arith in
    omega (arith, reading_none k, ap (λ (j : ℕ). 38 ^ j) q)
reading_room zero m (x ∷ xs) e a = absurd (omega arith)
reading_room (suc k) m (x ∷ xs) e a =
    let h = reading_room k m xs (omega arith) a.1 in
    let p = pow-succ' 38 k in
    let f = mul-le-mul_right (38 ^ k) (figure_few x a.0) in
    omega arith

pub reading_lt : (k : ℕ) (xs : List ℕ) → length xs ≤ k → All NameByte xs → reading k xs < 38 ^ k
reading_lt k xs few a = let p = power_some (k - length xs) in omega (arith, reading_room k (k - length xs) xs (omega arith) a)

-- the first byte of a name makes up at least 1 at its weight
pub reading_some : (k b r : ℕ) → NameByte b → 38 ^ k ≤ figure b * 38 ^ k + r
reading_some k b r n = omega (arith, mul-le-mul_right (38 ^ k) (figure_some b n))

-- one more byte
reading_push : (k m : ℕ) (xs : List ℕ) (b : ℕ) → length xs + suc m ≡ k → reading k (xs ++ (b ∷ [])) ≡ reading k xs + figure b * 38 ^ m
reading_push zero m xs b e = absurd (omega arith)
reading_push (suc k) m [] b e =
    let q : m ≡ k = omega arith in
    omega (arith, reading_none k, ap (λ (j : ℕ). figure b * 38 ^ j) q)
reading_push (suc k) m (x ∷ xs) b e = let h = reading_push k m xs b (omega arith) in omega arith

number_push : (xs : List ℕ) (b i w : ℕ) → length xs ≡ i → i < 12 → w ≡ 38 ^ (12 - i) → number (xs ++ (b ∷ [])) ≡ number xs + figure b * (w / 38)
number_push xs b i w l h e = rw (weight_more i w h e) (reading_push 12 (12 - (i + 1)) xs b (omega arith))

-- the number of the first bytes with the byte at i
pub number_more : (bs : List ℕ) (i n f w : ℕ) → i < length bs → length bs ≤ 12 → n ≡ number (take i bs) → f ≡ figure (get_or bs i 0) → w ≡ 38 ^ (12 - i) → n + f * (w / 38) ≡ number (take (i + 1) bs)
number_more bs i n f w h few p q e =
    (λ j. p j + q j * (w / 38))
    ∙ sym (number_push (take i bs) (get_or bs i 0) i w (length-take-le i bs (omega arith)) (omega arith) e)
    ∙ ap number (sym (take_more bs i 0 h))

pub bytes_of : (bs : List ℕ) → Name bs → All NameByte bs
bytes_of bs n = All-from_get_or NameByte bs 0 n.others

-- the first figure of a name is 1 to 26
pub number_bounds : (bs : List ℕ) → Name bs → (38 ^ 11 ≤ number bs) × (number bs < 27 * 38 ^ 11)
number_bounds [] n = absurd (omega arith)
number_bounds (b ∷ bs) n =
    let a = bytes_of (b ∷ bs) n in
    let s = reading_some 11 b (reading 11 bs) a.0 in
    let r = reading_lt 11 bs (omega (arith, n.few)) a.1 in
    let f = mul-le-mul_right (38 ^ 11) (figure_letter b n.first) in
    (omega arith, omega arith)

-- bytes of names whose number has a first figure of 1 to 26 are a name
pub named : (bs : List ℕ) → length bs ≤ 12 → All NameByte bs → 38 ^ 11 ≤ number bs → number bs < 27 * 38 ^ 11 → Name bs
named [] few a low high = absurd (omega arith)
named (b ∷ bs) few a low high = record {
  some = omega arith;
  few = few;
  first =
      letter_figure b a.0
      (⊎_elim (λ less. omega arith) (λ more. absurd (omega (arith, mul-le-mul_right (38 ^ 11) more))) (cases_lt (figure b) 27));
  others = λ i h. All-get_or NameByte (b ∷ bs) i 0 h a;
}
