-- From numbers back to names.
use Rattle.std.specs.Prelude.{◌≡◌, ℕ, zero, suc, ◌+◌, ◌/◌, ◌%◌, ◌^◌, cond, List, [], ◌∷◌, Some, None, Option, ◌==◌, nat_le}
use Rattle.names.specs.declared.spelling.Spelling.{Spelling}
use Rattle.names.specs.Names.{Name, number, IsName}

-- the byte of a figure: 1 to 26 are letters, 27 to 36 digits, 37 is the underscore
abbrev pub byte : ℕ → ℕ
byte f = cond (nat_le f 26) (f + 96) (cond (f == 37) 95 (f + 21))

-- the bytes of the first of k figures in base 38 on, up to where only zeros are left
abbrev pub spelt_from : ℕ → ℕ → List ℕ
spelt_from zero n = []
spelt_from (suc k) n = cond (n == 0) [] (byte (n / 38 ^ k) ∷ spelt_from k (n % 38 ^ k))

-- the bytes of the name that has the number n
unfoldable pub spelt : ℕ → List ℕ
spelt n = spelt_from 12 n

-- the bytes that a spelling shows
abbrev pub shown : Spelling → List ℕ
shown s = s.name.bytes

-- what is answered for the spelling of n: a name that has this number, and none where no name has it
abbrev pub Spells : ℕ → Option Spelling → Type 0
Spells n (Some s) = Name (shown s) × (number (shown s) ≡ n)
Spells n None = IsName n → ⊥

-- the bytes shown are those that n spells
abbrev pub SpeltAs : ℕ → Option Spelling → Type 0
SpeltAs n (Some s) = shown s ≡ spelt n
SpeltAs n None = Unit {0}

-- there and back
pub record ThereAndBack : Type 0 where
  -- each name is what its number spells
  pub back : (bytes : List ℕ) → Name bytes → spelt (number bytes) ≡ bytes
  -- each number of a name spells a name
  pub name : (n : ℕ) → IsName n → Name (spelt n)
  -- and that name has the number
  pub there : (n : ℕ) → IsName n → number (spelt n) ≡ n
