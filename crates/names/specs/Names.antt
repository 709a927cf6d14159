-- Names of slots, and their numbers.
use Rattle.std.specs.Prelude.{◌≡◌, ℕ, zero, suc, ◌+◌, ◌-◌, ◌*◌, ◌^◌, ◌<◌, ◌≤◌, cond, ◌⊎◌, List, [], ◌∷◌, length, Some, None, Option, ◌==◌, nat_le, slice_index}

-- a to z
pub record Letter (b : ℕ) : Type 0 where
  pub low : 97 ≤ b
  pub high : b ≤ 122

-- 0 to 9
pub record Digit (b : ℕ) : Type 0 where
  pub low : 48 ≤ b
  pub high : b ≤ 57

-- a byte that a name may have: a to z, 0 to 9 or underscore
abbrev pub NameByte : ℕ → Type 0
NameByte b = Letter b ⊎ (Digit b ⊎ (b ≡ 95))

-- a name: 1 to 12 bytes, first a to z, then a to z, 0 to 9 or underscore
pub record Name (bytes : List ℕ) : Type 0 where
  pub some : 0 < length bytes
  pub few : length bytes ≤ 12
  pub first : Letter (slice_index bytes 0)
  pub others : (i : ℕ) → i < length bytes → NameByte (slice_index bytes i)

-- the figure of a byte: letters are 1 to 26, digits 27 to 36, underscore 37
abbrev pub figure : ℕ → ℕ
figure b = cond (nat_le 97 b) (b - 96) (cond (b == 95) 37 (b - 21))

-- the bytes as k figures in base 38, padded with zeros on the right
abbrev pub reading : ℕ → List ℕ → ℕ
reading zero bytes = 0
reading (suc k) [] = 0
reading (suc k) (b ∷ bs) = figure b * 38 ^ k + reading k bs

-- the number of a name: its bytes as twelve figures
abbrev pub number : List ℕ → ℕ
number bytes = reading 12 bytes

-- n is the number of a name
pub record IsName (n : ℕ) : Type 0 where
  pub bytes : List ℕ
  pub name : Name bytes
  pub numbered : number bytes ≡ n

-- what is answered for the number of these bytes: that number where they are a name, and none where they are not
abbrev pub NumberOf : List ℕ → Option ℕ → Type 0
NumberOf bytes (Some n) = Name bytes × (n ≡ number bytes)
NumberOf bytes None = Name bytes → ⊥

-- the order of names as texts: the first figure that differs decides, and a name stands before those that it begins
abbrev pub Before : List ℕ → List ℕ → Type 0
Before [] [] = ⊥
Before [] (y ∷ ys) = Unit {0}
Before (x ∷ xs) [] = ⊥
Before (x ∷ xs) (y ∷ ys) = (figure x < figure y) ⊎ ((x ≡ y) × Before xs ys)

-- what holds of the numbers of names
pub record NumberLaws : Type 0 where
  -- two names with one number are the same bytes
  pub one : (bytes others : List ℕ) → Name bytes → Name others → number bytes ≡ number others → bytes ≡ others
  -- the order of names as texts is that of their numbers
  pub rising : (bytes others : List ℕ) → Name bytes → Name others → Before bytes others → number bytes < number others
  pub before : (bytes others : List ℕ) → Name bytes → Name others → number bytes < number others → Before bytes others

-- the number of the name `a`
abbrev pub Example : Type 0
Example = number (97 ∷ []) ≡ 238572050223552512
