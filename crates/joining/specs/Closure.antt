-- The least equivalence that contains given pairs and is closed under edges of one name.
use Rattle.std.specs.Prelude.{◌≡◌, ℕ, ◌<◌, List}
use Rattle.joining.specs.Forest.{Forest, Same}

-- E x f p: an edge of name f from x to p. B x y: x and y are given as joined
pub data Closure (E : ℕ → ℕ → ℕ → Type 0) (B : ℕ → ℕ → Type 0) : ℕ → ℕ → Type 0 where
  given : {x y : ℕ} → B x y → Closure E B x y
  same : (x : ℕ) → Closure E B x x
  turned : {x y : ℕ} → Closure E B x y → Closure E B y x
  chained : {x y z : ℕ} → Closure E B x y → Closure E B y z → Closure E B x z
  stepped : {x y f p q : ℕ} → Closure E B x y → E x f p → E y f q → Closure E B p q

-- the one pair a, b
abbrev pub Pair : ℕ → ℕ → ℕ → ℕ → Type 0
Pair a b x y = (x ≡ a) × (y ≡ b)

-- where x and y have the same end, so have the targets of their edges of one name
abbrev pub Agree : (ℕ → ℕ → ℕ → Type 0) → List ℕ → ℕ → ℕ → Type 0
Agree E links x y = Same links x y → (f p q : ℕ) → E x f p → E y f q → Same links p q

-- and so for every two places below k
abbrev pub AgreeBelow : (ℕ → ℕ → ℕ → Type 0) → List ℕ → ℕ → Type 0
AgreeBelow E links k = (x : ℕ) → x < k → (y : ℕ) → y < x → Agree E links x y

-- and so for any two places
abbrev pub Closed : (ℕ → ℕ → ℕ → Type 0) → List ℕ → Type 0
Closed E links = (x y : ℕ) → Agree E links x y

-- y has an edge of every name that x has one of
abbrev pub Covers : (ℕ → ℕ → ℕ → Type 0) → ℕ → ℕ → Type 0
Covers E y x = (f p : ℕ) → E x f p → (q : ℕ) × E y f q

-- `new` has every two places that had the same end still at one, and no other but those that the closure of `old` joins
pub record Grows (E : ℕ → ℕ → ℕ → Type 0) (old new : List ℕ) : Type 0 where
  pub forest : Forest new
  pub keeps : (x y : ℕ) → Same old x y → Same new x y
  pub only : (x y : ℕ) → Same new x y → Closure E (Same old) x y
