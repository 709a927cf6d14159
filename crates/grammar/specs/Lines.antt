-- What a line that is accepted is, and one that is refused for its grammar.
use Rattle.std.specs.Prelude.{◌≡◌, ℕ, ◌≤◌, ◌⊎◌, List, [], ◌∷◌, ◌++◌, length, ℤ, Option}
use Rattle.tokens.specs.Tokens.{Tok, finish, token, next_token}
use Rattle.reading.specs.Drafts.{Draft}
use Rattle.reading.specs.Steps.{go, fault, read_place}
use Rattle.grammar.specs.Terms.{Term, spell}
use Rattle.grammar.specs.Spelt.{Spelt, Opens}
use Rattle.grammar.specs.Described.{listed, described_by}
use Rattle.grammar.specs.Good.{Good}

-- from a byte on the tokens of the line are xs, up to a byte from which the next one is looked for
pub data Upto (line : List ℕ) : ℕ → List Tok → ℕ → Type 0 where
  here : {i : ℕ} → Upto line i [] i
  next : {from : ℕ} {x : Tok} {i j : ℕ} {xs : List Tok} {k : ℕ} → next_token line from ≡ token x i j → Upto line j xs k → Upto line from (x ∷ xs) k

-- the line's tokens are xs, all of them
abbrev pub Whole : List ℕ → List Tok → Type 0
Whole line xs = (j : ℕ) × Upto line 0 xs j × (next_token line j ≡ finish)

-- the line ends at b, and front is no place; or the token at b cannot stand after front
abbrev pub Barred : List ℕ → List Tok → ℕ → ℕ → Type 0
Barred line front j b =
    ((next_token line j ≡ finish) × (b ≡ length line) × (Spelt front → ⊥))
    ⊎ ((x : Tok) × (k : ℕ) × (next_token line j ≡ token x b k) × (Opens (front ++ (x ∷ [])) → ⊥))

-- the first tokens of the line can be continued to a place, but not by what stands at b
pub record Stuck (line : List ℕ) (b : ℕ) : Type 0 where
  pub front : List Tok
  pub from : ℕ
  pub upto : Upto line 0 front from
  pub opens : Opens front
  pub barred : Barred line front from b

-- the line has at most 60,000 bytes, and its tokens are those of the term, which is good
pub record Means {K : Type 0} (words : List ℕ → Option K) (ranges : ℤ → ℤ → Option K) (pl sl : ℕ) (line : List ℕ) (t : Term) : Type 0 where
  pub short : length line ≤ 60000
  pub whole : Whole line (spell t [])
  pub good : Good words ranges pl sl t

-- a line is accepted exactly if it means a place
pub record Accepts (K : Type 0) : Type 0 where
  pub accepted : (words : List ℕ → Option K) (ranges : ℤ → ℤ → Option K) (pl sl : ℕ) (line : List ℕ) (d : Draft K) → read_place words ranges pl sl line ≡ go d → (t : Term) × Means words ranges pl sl line t
  pub accepts : (words : List ℕ → Option K) (ranges : ℤ → ℤ → Option K) (pl sl : ℕ) (line : List ℕ) (t : Term) → Means words ranges pl sl line t → (d : Draft K) × (read_place words ranges pl sl line ≡ go d)
  -- the place is one only, and the draft is what it describes
  pub one : (line : List ℕ) (t u : Term) → Whole line (spell t []) → Whole line (spell u []) → t ≡ u
  pub lists : (words : List ℕ → Option K) (ranges : ℤ → ℤ → Option K) (pl sl : ℕ) (line : List ℕ) (d : Draft K) (t : Term) → read_place words ranges pl sl line ≡ go d → Whole line (spell t []) → listed d ≡ described_by words ranges t

-- 20 is answered where the line cannot be continued to a place any more, and where it ends before the place does
abbrev pub Refuses : Type 0 → Type 0
Refuses K = (words : List ℕ → Option K) (ranges : ℤ → ℤ → Option K) (pl sl : ℕ) (line : List ℕ) (b : ℕ) → read_place words ranges pl sl line ≡ fault 20 b → Stuck line b
