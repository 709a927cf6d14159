-- Words and numbers that read back, told without the classes of bytes, which other crates do not see.
use Rattle.std.proofs.Common.{◌≡◌, ℕ, ◌+◌, ◌≤◌, Bool, true, false, ◌||◌, eqb, ◌⊎◌, List, [], ◌∷◌, ◌++◌, length, get_or, drop, ℤ, pos, negsuc, ◌≤ℤ◌, refl, inl, inr, arith}
use Rattle.std.specs.Int.{IsInRange}
use Rattle.std.specs.Fmt.{signed_decimal}
use Rattle.std.specs.List.{AllByRecursion as All}
use Rattle.std.proofs.lemmas.Bool.{and_from}
use Rattle.std.proofs.lemmas.Bool.Decides.{nat_tests}
use Rattle.tokens.specs.declared.token.class.Class.TheVariants.{Digit, WordByte}
use Rattle.tokens.specs.Tokens.{word, number, token, member, run, next_token}
use Rattle.tokens.proofs.Back.{all_in, run_none}
use Rattle.tokens.proofs.Next.{next_word, next_number}

-- the bytes end, or go on with a space, a bracket that ends or a dot
abbrev pub stop : ℕ → Bool
stop b = (eqb b 32 || eqb b 41) || (eqb b 46 || eqb b 93)

abbrev pub Stops : List ℕ → Type 0
Stops [] = Unit {0}
Stops (b ∷ bs) = stop b ≡ true

-- a byte that a word may have
abbrev pub WordLike : ℕ → Type 0
WordLike b = IsInRange 97 122 b ⊎ (IsInRange 48 57 b ⊎ (b ≡ 95))

no_word : (b : ℕ) → stop b ≡ true → member WordByte b ≡ false
no_word b h = grind (arith, nat_tests)

no_digit : (b : ℕ) → stop b ≡ true → member Digit b ≡ false
no_digit b h = grind (arith, nat_tests)

word_stops : (rest : List ℕ) → Stops rest → run WordByte rest ≡ 0
word_stops [] h = refl
word_stops (b ∷ bs) h = run_none WordByte b bs (no_word b h)

digit_stops : (rest : List ℕ) → Stops rest → run Digit rest ≡ 0
digit_stops [] h = refl
digit_stops (b ∷ bs) h = run_none Digit b bs (no_digit b h)

word_like : (b : ℕ) → WordLike b → member WordByte b ≡ true
word_like b (inl l) = grind (arith, nat_tests)
word_like b (inr (inl d)) = grind (arith, nat_tests)
word_like b (inr (inr e)) = grind (arith, nat_tests)

all_like : (w : List ℕ) → All WordLike w → all_in WordByte w ≡ true
all_like [] a = refl
all_like (b ∷ w) a = and_from (member WordByte b) (all_in WordByte w) (word_like b a.0) (all_like w a.1)

module _ (line : List ℕ) (i : ℕ) (rest : List ℕ) (stops : Stops rest) where
  pub at_word : (w : List ℕ) → IsInRange 97 122 (get_or w 0 0) → All WordLike w → length w ≤ 24 → drop i line ≡ w ++ rest → next_token line i ≡ token (word w) i (i + length w)
  at_word w letter all short e = next_word line i w rest letter (all_like w all) short (word_stops rest stops) e

  pub at_number : (z : ℤ) → negsuc 2147483647 ≤ℤ z → z ≤ℤ pos 2147483647 → drop i line ≡ signed_decimal z ++ rest → next_token line i ≡ token (number z) i (i + length (signed_decimal z))
  at_number z low high e = next_number line i z rest low high (digit_stops rest stops) e
