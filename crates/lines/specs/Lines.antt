-- The lines of an input, and what is given for a line.
use Rattle.std.specs.Prelude.{◌≡◌, ℕ, Bool, true, false, cond, List, [], ◌∷◌, ◌++◌, length, ◌==◌, ◌≢◌, nat_le}
use Rattle.std.specs.List.{flat_map, AllByRecursion}

-- the byte before an input with these lines, where it is no newline: it begins the first of them, or the only one
abbrev pub begin : ℕ → List (List ℕ) → List (List ℕ)
begin b [] = (b ∷ []) ∷ []
begin b (line ∷ more) = (b ∷ line) ∷ more

-- the lines of an input: each ends at a newline, which is no part of it, or at the end of the input
abbrev pub lines : List ℕ → List (List ℕ)
lines [] = []
lines (b ∷ bs) = cond (b == 10) ([] ∷ lines bs) (begin b (lines bs))

-- what is given for a line
pub data Given : Type 0 where
  whole : List ℕ → Given
  too_long : Given

-- a line of at most `limit` bytes is given whole, and any other is too long
abbrev pub given_for : ℕ → List ℕ → Given
given_for limit line = cond (nat_le (length line) limit) (whole line) too_long

-- the bytes before the first newline, and all of them where there is none
abbrev pub front : List ℕ → List ℕ
front [] = []
front (b ∷ bs) = cond (b == 10) [] (b ∷ front bs)

-- whether there is a newline
abbrev pub has_newline : List ℕ → Bool
has_newline [] = false
has_newline (b ∷ bs) = cond (b == 10) true (has_newline bs)

-- no byte of it is a newline
abbrev pub Plain : List ℕ → Type 0
Plain line = AllByRecursion (λ b. b ≢ 10) line

-- a line with the newline that ends it
abbrev pub closed : List ℕ → List ℕ
closed line = line ++ 10 ∷ []

-- an input is these lines, each with a newline that ends it, and then a rest with no newline
pub record CutInto (input : List ℕ) (ended : List (List ℕ)) (rest : List ℕ) : Type 0 where
  pub plain : AllByRecursion Plain ended
  pub open_end : Plain rest
  pub together : input ≡ flat_map closed ended ++ rest

-- what follows the last newline is a line if it has at least one byte
abbrev pub last : List ℕ → List (List ℕ)
last [] = []
last (b ∷ bs) = (b ∷ bs) ∷ []

-- what holds of the lines of inputs
pub record LineLaws : Type 0 where
  -- every input is lines that newlines end, and a rest
  pub every : (input : List ℕ) → (ended : List (List ℕ)) × ((rest : List ℕ) × CutInto input ended rest)
  -- those lines are the input's, and the rest is one too if it has at least one byte
  pub are : (input : List ℕ) (ended : List (List ℕ)) (rest : List ℕ) → CutInto input ended rest → lines input ≡ ended ++ last rest
