-- Answers that decide a fact.
use Rattle.std.proofs.Common.{◌≡◌, ◌≤◌, ℕ, Bool, true, false, leb, ◌⊎◌, Decides, sym, ◌∙◌, inl, inr}
use Rattle.std.proofs.lemmas.Bool.{false≢true, leb-true}
use borrow.Author.Tests.{le-leb}

pub decides_no : {P : Type 0} → (P → ⊥) → Decides false P
decides_no n = (λ e. absurd (false≢true e), λ p. absurd (n p))

pub decides_le : (a b : ℕ) → Decides (leb a b) (a ≤ b)
decides_le a b = (leb-true a b, le-leb a b)

-- where a is true, v decides Q, and else it is false too
abbrev pub Then : Bool → Bool → Type 0 → Type 0
Then a v Q = ((a ≡ true) × Decides v Q) ⊎ ((a ≡ false) × (v ≡ a))

pub decides_both : {P Q : Type 0} (a v : Bool) → Decides a P → Then a v Q → Decides v (P × Q)
decides_both a v d (inl h) = (λ e. (d.0 h.0, h.1.0 e), λ both. h.1.1 both.1)
decides_both a v d (inr h) = (λ e. absurd (false≢true (sym h.0 ∙ sym h.1 ∙ e)), λ both. absurd (false≢true (sym h.0 ∙ d.1 both.0)))
