-- What a table of a job holds.
use Rattle.std.specs.Prelude.{◌≡◌, ℕ, zero, suc, ◌<◌, ◌≤◌, List, ◌++◌, drop, replicate, slice_index, slice_index_or}
use Rattle.std.specs.List.{range_with_len}

-- ---- what a write leaves

-- the first n records are x, and all past them is as it was
abbrev pub filled : {X : Type 0} → ℕ → X → List X → List X
filled n x xs = replicate n x ++ drop n xs

-- the first n links are 0, 1, 2 and so on, and all past them is as it was
abbrev pub numbered : ℕ → List ℕ → List ℕ
numbered n xs = range_with_len 0 n ++ drop n xs

-- what open leaves in a table of which a job with room for p places uses n records: with no room for a place, what it held
abbrev pub blanked : {X : Type 0} → (p n : ℕ) → X → List X → List X
blanked zero n x xs = xs
blanked (suc p) n x xs = filled n x xs

-- ---- what holds between calls

-- the records from one number on, up to another, are x
abbrev pub Blank : {X : Type 0} → X → List X → (from upto : ℕ) → Type 0
Blank x xs from upto = (k : ℕ) → from ≤ k → k < upto → slice_index_or xs k x ≡ x

-- each link below n holds its own number
abbrev pub OwnLinks : List ℕ → ℕ → Type 0
OwnLinks xs n = (k : ℕ) → k < n → slice_index xs k ≡ k
