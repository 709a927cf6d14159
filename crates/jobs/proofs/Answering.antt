-- The answer to a list of checks with one more at its end.
use Rattle.std.proofs.Common.{◌≡◌, ℕ, [], ◌∷◌, ◌++◌, Some, None, Option, refl, inl, inr}
use Rattle.sheets.specs.Refusals.{Checks, Answered}

none≢some : {Y : Type 0} (n : ℕ) → ◌≡◌ {A = Option ℕ} None (Some n) → Y
none≢some n e = cc

-- where none refused, the last does if its condition holds, and else none does
pub last_refuses : (checks : Checks) (n : ℕ) (X : Type 0) → Answered checks None → X → Answered (checks ++ (n, X) ∷ []) (Some n)
last_refuses [] n X e x = inl (x, refl)
last_refuses (check ∷ others) n X (inl h) x = none≢some check.0 h.1
last_refuses (check ∷ others) n X (inr h) x = inr (h.0, last_refuses others n X h.1 x)

pub none_refuses : (checks : Checks) (n : ℕ) (X : Type 0) → Answered checks None → (X → ⊥) → Answered (checks ++ (n, X) ∷ []) None
none_refuses [] n X e out = inr (out, refl)
none_refuses (check ∷ others) n X (inl h) out = none≢some check.0 h.1
none_refuses (check ∷ others) n X (inr h) out = inr (h.0, none_refuses others n X h.1 out)
