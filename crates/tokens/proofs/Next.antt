-- What is written is read, at any place of a line: what stands next, told from the bytes that stand there.
use Rattle.std.proofs.Common.{◌≡◌, ℕ, suc, ◌+◌, ◌<◌, ◌≤◌, true, false, List, [], ◌∷◌, ◌++◌, length, get_or, drop, ℤ, pos, negsuc, ◌≤ℤ◌, decimal, sym, refl, ap, ◌∙◌, add-zero, arith}
use lib.Signed.{mag}
use Rattle.std.specs.Int.{IsInRange}
use Rattle.std.specs.Char.{is_ascii_digit}
use Rattle.std.specs.Fmt.{signed_decimal}
use Rattle.std.specs.Str.{all_ascii_digits}
use Rattle.std.proofs.lemmas.List.{drop-drop, drop_at}
use Rattle.std.proofs.lemmas.Bool.{cond-true, and_parts}
use Rattle.std.proofs.lemmas.Fmt.{decimal_nonempty}
use Rattle.std.proofs.lemmas.Int.{ints}
use Rattle.std.proofs.lemmas.Bool.Decides.{nat_tests}
use Rattle.tokens.specs.declared.token.class.Class.TheVariants.{Space, Digit, WordByte}
use Rattle.tokens.specs.Tokens.{mark, word, number, finish, token, run, number_at, is_mark, first_token, next_token}
use Rattle.tokens.proofs.Firsts.{digit_first, letter_first}
use Rattle.tokens.proofs.Back.{all_in, word_back, number_back, minus_back, digits_written}

-- past what stands at a place stands the rest
pub drop_past : (line : List ℕ) (i : ℕ) (xs rest : List ℕ) → drop i line ≡ xs ++ rest → drop (i + length xs) line ≡ rest
drop_past line i xs rest e = sym (drop-drop (length xs) i line) ∙ ap (drop (length xs)) e ∙ drop_at xs rest (length xs) refl

-- where no space stands, the token begins
next_first : (line : List ℕ) (i : ℕ) (bs : List ℕ) → drop i line ≡ bs → run Space bs ≡ 0 → next_token line i ≡ first_token bs i
next_first line i bs at none =
    let here : i + run Space (drop i line) ≡ i = ap (λ l. i + run Space l) at ∙ ap (λ k. i + k) none ∙ add-zero i in
    ap (λ k. first_token (drop k line) k) here ∙ ap (λ l. first_token l i) at

pub next_end : (line : List ℕ) (i : ℕ) → drop i line ≡ [] → next_token line i ≡ finish
next_end line i at = next_first line i [] at refl

pub next_space : (line : List ℕ) (i : ℕ) (rest : List ℕ) → drop i line ≡ 32 ∷ rest → next_token line i ≡ next_token line (i + 1)
next_space line i rest at =
    let after : drop (i + 1) line ≡ rest = drop_past line i (32 ∷ []) rest at in
    let here : i + run Space (drop i line) ≡ i + 1 + run Space (drop (i + 1) line) =
    ap (λ l. i + run Space l) at ∙ omega arith ∙ ap (λ l. i + 1 + run Space l) (sym after) in
    ap (λ k. first_token (drop k line) k) here

-- a bracket or a hash sign
pub next_mark : (line : List ℕ) (i b : ℕ) (rest : List ℕ) → is_mark b ≡ true → drop i line ≡ b ∷ rest → next_token line i ≡ token (mark b) i (i + 1)
next_mark line i b rest m at =
    next_first line i (b ∷ rest) at (grind (arith, nat_tests)) ∙ cond-true (is_mark b) _ _ m

pub next_dots : (line : List ℕ) (i : ℕ) (rest : List ℕ) → drop i line ≡ 46 ∷ 46 ∷ rest → next_token line i ≡ token (mark 46) i (i + 2)
next_dots line i rest at = next_first line i (46 ∷ 46 ∷ rest) at refl

-- a word of at most 24 bytes that begins with a letter, where no word byte follows
pub next_word : (line : List ℕ) (i : ℕ) (w rest : List ℕ) → IsInRange 97 122 (get_or w 0 0) → all_in WordByte w ≡ true → length w ≤ 24 → run WordByte rest ≡ 0 → drop i line ≡ w ++ rest → next_token line i ≡ token (word w) i (i + length w)
next_word line i [] rest letter all short e at = absurd (omega arith)
next_word line i (b ∷ bs) rest letter all short e at =
    next_first line i (b ∷ bs ++ rest) at (grind (arith, nat_tests)) ∙ letter_first b (bs ++ rest) i letter ∙ word_back (b ∷ bs) rest i all short e

-- where digits stand, a number begins
digits_first : (line : List ℕ) (i : ℕ) (ds rest : List ℕ) → all_ascii_digits ds ≡ true → 0 < length ds → drop i line ≡ ds ++ rest → next_token line i ≡ number_at false (ds ++ rest) i i
digits_first line i [] rest all some at = absurd (omega arith)
digits_first line i (d ∷ ds) rest all some at =
    let p = (and_parts (is_ascii_digit d) (all_ascii_digits ds) all).0 in
    next_first line i (d ∷ ds ++ rest) at (grind (arith, nat_tests)) ∙ digit_first d (ds ++ rest) i (grind (arith, nat_tests))

by_size : (line : List ℕ) (i : ℕ) (z : ℤ) (rest : List ℕ) → mag z ≤ 2147483647 → run Digit rest ≡ 0 → drop i line ≡ signed_decimal z ++ rest → next_token line i ≡ token (number z) i (i + length (signed_decimal z))
by_size line i (pos n) rest small e at =
    digits_first line i (decimal n) rest (digits_written n (omega arith)) (decimal_nonempty n (omega arith)) at ∙ number_back n rest i small e
by_size line i (negsuc n) rest small e at =
    next_first line i (45 ∷ decimal (suc n) ++ rest) at refl ∙ minus_back n rest i small e ∙ ap (λ k. token (number (negsuc n)) i k) (omega arith)

-- a number of 32 bits in base ten, where no digit follows
pub next_number : (line : List ℕ) (i : ℕ) (z : ℤ) (rest : List ℕ) → negsuc 2147483647 ≤ℤ z → z ≤ℤ pos 2147483647 → run Digit rest ≡ 0 → drop i line ≡ signed_decimal z ++ rest → next_token line i ≡ token (number z) i (i + length (signed_decimal z))
next_number line i z rest low high e at = by_size line i z rest (size z low high) e at
  where
    size : (z : ℤ) → negsuc 2147483647 ≤ℤ z → z ≤ℤ pos 2147483647 → mag z ≤ 2147483647
    size (pos n) low high = omega (arith, ints)
    size (negsuc n) low high = omega (arith, ints)
