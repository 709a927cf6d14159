-- A forest of links: each link goes to a place that is not later, and a place that links to itself is an end.
use Rattle.std.specs.Prelude.{◌≡◌, ℕ, zero, suc, ◌<◌, ◌≤◌, min, Bool, true, false, ◌⊎◌, List, sum, ◌≢◌, slice_index_or}

-- where x links to: a number past the table links to itself
abbrev pub link : List ℕ → ℕ → ℕ
link links x = slice_index_or links x x

-- every link holds its own number
abbrev pub Own : List ℕ → Type 0
Own links = (x : ℕ) → link links x ≡ x

-- no link goes up
abbrev pub Forest : List ℕ → Type 0
Forest links = (x : ℕ) → link links x ≤ x

-- where k steps from x lead
unfoldable pub walk : ℕ → List ℕ → ℕ → ℕ
walk zero links x = x
walk (suc k) links x = walk k links (link links x)

-- the end of x: in a forest x steps are enough, and a step at an end stays there
unfoldable pub end : List ℕ → ℕ → ℕ
end links x = walk x links x

-- x and y have the same end
abbrev pub Same : List ℕ → ℕ → ℕ → Type 0
Same links x y = end links x ≡ end links y

-- `new` is `old` with the ends of x and y made one, the smaller of the two, and every other end as it was
pub record Merges (old new : List ℕ) (x y : ℕ) : Type 0 where
  pub forest : Forest new
  pub joined : (z : ℕ) → (end old z ≡ end old x) ⊎ (end old z ≡ end old y) → end new z ≡ min (end old x) (end old y)
  pub others : (z : ℕ) → (end old z ≢ end old x) → (end old z ≢ end old y) → end new z ≡ end old z

-- what an answer says of a table of links: whether anything changed, and then the links' sum fell
abbrev pub Tells : Bool → List ℕ → List ℕ → Type 0
Tells true old new = sum new < sum old
Tells false old new = new ≡ old
