-- The places of each class in a ring: from the end of the class to its latest place, and from each other place to the one before it.
use Rattle.std.specs.Prelude.{◌≡◌, ℕ, ◌<◌, ◌≤◌, List, slice_index}
use Rattle.joining.specs.Forest.{end, Same}

-- where the ring leads from x
abbrev pub next : List ℕ → ℕ → ℕ
next ring x = slice_index ring x

-- the places below k are in rings: each leads to one of them that is joined with it
pub record Rings (links ring : List ℕ) (k : ℕ) : Type 0 where
  pub within : (x : ℕ) → x < k → next ring x < k
  pub joined : (x : ℕ) → x < k → Same links x (next ring x)

-- and the rings leave no place out: from an end to the latest place, and from any other to the one before it
pub record Whole (links ring : List ℕ) (k : ℕ) : Type 0 where
  pub outer : (x : ℕ) → x < k → end links x ≡ x → x ≤ next ring x
  pub latest : (x z : ℕ) → x < k → end links x ≡ x → next ring x < z → z < k → Same links z x → ⊥
  pub inner : (x : ℕ) → x < k → end links x < x → next ring x < x
  pub before : (x z : ℕ) → x < k → end links x < x → next ring x < z → z < x → Same links z x → ⊥
