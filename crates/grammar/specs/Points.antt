-- What stands at the byte of a refusal.
use Rattle.std.specs.Prelude.{◌≡◌, ℕ, ◌≤◌, ◌⊎◌, List, length, ℤ, Option}
use Rattle.tokens.specs.Tokens as tokens
use Rattle.tokens.specs.Tokens.{Tok, mark, number, token, next_token}
use Rattle.reading.specs.Steps.{fault, read_place}
use Rattle.grammar.specs.Lines.{Upto}

-- the token x begins at byte b of the line
pub record Stands (line : List ℕ) (x : Tok) (b : ℕ) : Type 0 where
  pub front : List Tok
  pub from : ℕ
  pub upto : Upto line 0 front from
  pub end : ℕ
  pub at : next_token line from ≡ token x b end

-- the tokens that a number can refuse: [ is 91
pub data Refusable : ℕ → Tok → Type 0 where
  stray : {x : Tok} → Refusable 20 x
  kind_word : {w : List ℕ} → Refusable 21 (tokens.word w)
  kind_range : Refusable 21 (mark 91)
  high : {h : ℤ} → Refusable 22 (number h)
  long_name : {w : List ℕ} → Refusable 23 (tokens.word w)
  name_twice : {w : List ℕ} → Refusable 24 (tokens.word w)
  described_twice : {g : ℤ} → Refusable 25 (number g)
  never_described : {g : ℤ} → Refusable 26 (number g)
  no_tag : {g : ℤ} → Refusable 27 (number g)
  one_word_too_many : {w : List ℕ} → Refusable 28 (tokens.word w)
  one_range_too_many : Refusable 28 (mark 91)

-- a token that the number can refuse stands at b, or the line ends there too early
abbrev pub Pointed : List ℕ → ℕ → ℕ → Type 0
Pointed line n b = ((x : Tok) × Stands line x b × Refusable n x) ⊎ ((n ≡ 20) × (b ≡ length line))

-- a refusal of a number from 20 on points at the token that it refuses
abbrev pub Points : Type 0 → Type 0
Points K = (words : List ℕ → Option K) (ranges : ℤ → ℤ → Option K) (pl sl : ℕ) (line : List ℕ) (n b : ℕ) → read_place words ranges pl sl line ≡ fault n b → 20 ≤ n → Pointed line n b
