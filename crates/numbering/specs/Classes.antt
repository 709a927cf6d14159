-- The places of each class as lists: from the class to its last place, and from each place to the one before it of its class.
use Rattle.std.specs.Prelude.{◌≡◌, ℕ, ◌+◌, ◌<◌, List, Option, Some, None, slice_index_or}

-- the place that a table of places has at x, if it has one
abbrev pub link : List (Option ℕ) → ℕ → Option ℕ
link table x = slice_index_or table x None

-- the number past a place, and 0 for none
abbrev pub past : Option ℕ → ℕ
past None = 0
past (Some x) = x + 1

-- r is the last of the places below k whose class is v
pub record Last (c : ℕ → ℕ) (v k : ℕ) (r : Option ℕ) : Type 0 where
  pub is : (x : ℕ) → r ≡ Some x → (x < k) × (c x ≡ v)
  pub gap : (y : ℕ) → y < k → c y ≡ v → y < past r

-- of the n places, those below k are listed
pub record Listed (c : ℕ → ℕ) (n k : ℕ) (last previous : List (Option ℕ)) : Type 0 where
  pub starts : (v : ℕ) → v < n → Last c v k (link last v)
  pub steps : (x : ℕ) → x < k → Last c (c x) x (link previous x)
