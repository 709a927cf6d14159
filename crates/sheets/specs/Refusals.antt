-- The checks of a call and its answer: the number of the first check whose condition holds, or acceptance where none does.
use Rattle.std.specs.Prelude.{◌≡◌, ℕ, ◌⊎◌, List, [], ◌∷◌, Some, None, Ok, Err, Option, Result}

-- a call's checks in the order in which they are made: each has a number, and the condition under which it refuses
abbrev pub Checks : Type 1
Checks = List (ℕ × Type 0)

-- the answer to these checks: `Some` of the number of the first that holds, and `None` where none holds
abbrev pub Answered : Checks → Option ℕ → Type 0
Answered [] answer = answer ≡ None
Answered (check ∷ others) answer = (check.1 × (answer ≡ Some check.0)) ⊎ ((check.1 → ⊥) × Answered others answer)

-- what a call answers, with the numbers of its faults: the number of its refusal, if it is one
abbrev pub refusal : {A E : Type 0} → (E → ℕ) → Result A E → Option ℕ
refusal number (Ok a) = None
refusal number (Err e) = Some (number e)

-- what stands after a call: `new` where it is accepted, and `old` where it is refused
abbrev pub after : {A E X : Type 0} → Result A E → X → X → X
after (Ok a) new old = new
after (Err e) new old = old
