-- What the first byte of a token says, as the code reads it from the line.
use Rattle.std.proofs.Common.{◌≡◌, ℕ, false, List, ◌∷◌, arith}
use Rattle.std.specs.Int.{IsInRange}
use Rattle.std.proofs.lemmas.Bool.Decides.{nat_tests}
use Rattle.tokens.specs.Tokens.{token_at, number_at, word_at}

pub digit_first : (b : ℕ) (bs : List ℕ) (i : ℕ) → IsInRange 48 57 b → token_at b bs i ≡ number_at false (b ∷ bs) i i
digit_first b bs i h = grind (arith, nat_tests)

pub letter_first : (b : ℕ) (bs : List ℕ) (i : ℕ) → IsInRange 97 122 b → token_at b bs i ≡ word_at (b ∷ bs) i
letter_first b bs i h = grind (arith, nat_tests)
