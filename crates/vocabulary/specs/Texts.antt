-- How kinds are written, and what holds of every vocabulary.
use Rattle.std.specs.Prelude.{◌≡◌, ℕ, ◌<◌, ◌≤◌, List, ◌++◌, length, ℤ, pos, negsuc, ◌≤ℤ◌, Some, codes, Option, slice_index}
use Rattle.std.specs.Fmt.{signed_decimal}
use Rattle.names.specs.Names.{Letter, NameByte}

-- the text of a kind: a word, or a range from a low to a high end
pub data Text : Type 0 where
  word : List ℕ → Text
  range : ℤ → ℤ → Text

-- the bytes of a text, with no spaces: a word as it is; a range as its ends in base ten with two dots between, in square brackets
abbrev pub bytes : Text → List ℕ
bytes (word w) = w
bytes (range low high) = codes "[" ++ (signed_decimal low ++ (codes ".." ++ (signed_decimal high ++ codes "]")))

-- a word of a line: 1 to 24 bytes, first a to z, then a to z, 0 to 9 or underscore
pub record Word (bytes : List ℕ) : Type 0 where
  pub some : 0 < length bytes
  pub few : length bytes ≤ 24
  pub first : Letter (slice_index bytes 0)
  pub others : (i : ℕ) → i < length bytes → NameByte (slice_index bytes i)

-- the ends of a range of a line: from -2,147,483,648 to 2,147,483,647, the low one not above the high one
pub record Ends (low high : ℤ) : Type 0 where
  pub least : negsuc 2147483647 ≤ℤ low
  pub rise : low ≤ℤ high
  pub most : high ≤ℤ pos 2147483647

-- the text can stand in a line as the grammar has it
abbrev pub Writable : Text → Type 0
Writable (word w) = Word w
Writable (range low high) = Ends low high

module _ {K : Type 0} (words : List ℕ → Option K) (ranges : ℤ → ℤ → Option K) where
  -- the kind that a text reads as
  abbrev pub reading : Text → Option K
  reading (word w) = words w
  reading (range low high) = ranges low high

  pub record VocabularyLaws (texts : K → Text) : Type 0 where
    -- every kind has a text of the grammar, and it reads as that kind
    pub writable : (k : K) → Writable (texts k)
    pub reads : (k : K) → reading (texts k) ≡ Some k
