-- The numbers that the classes have got so far: o has the ends of the numbered classes by number.
use Rattle.std.specs.Prelude.{◌≡◌, ℕ, ◌<◌, List, Option, Some, length}
use Rattle.numbering.specs.Quotient.{at}
use Rattle.numbering.specs.Classes.{link}

-- a table has the number of each class of the order, by its end
abbrev pub Known : List ℕ → List (Option ℕ) → Type 0
Known o number = (k : ℕ) → k < length o → link number (at o k) ≡ Some k

-- and it has no other number
abbrev pub Only : List ℕ → List (Option ℕ) → Type 0
Only o number = (v k : ℕ) → link number v ≡ Some k → (k < length o) × (at o k ≡ v)
