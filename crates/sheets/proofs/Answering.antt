-- Checks have one answer.
use Rattle.std.proofs.Common.{◌≡◌, ℕ, Bool, true, false, [], ◌∷◌, None, Decides, MatchBool, Option, sym, refl, ◌∙◌, inl, inr, arith}
use Rattle.std.proofs.lemmas.Bool.{false≢true}
use Rattle.sheets.specs.Refusals.{Checks, Answered}

pub one_answer : (cs : Checks) (a b : Option ℕ) → Answered cs a → Answered cs b → a ≡ b
one_answer [] a b p q = p ∙ sym q
one_answer (check ∷ cs) a b p q =
    elim p [
      | inl x ↦ elim q [ inl y ↦ x.1 ∙ sym y.1 | inr y ↦ absurd (y.0 x.0) ]
      | inr x ↦ elim q [ inl y ↦ absurd (x.0 y.0) | inr y ↦ one_answer cs a b x.1 y.1 ]
    ]

pub decides_no : {P : Type 0} → (P → ⊥) → Decides false P
decides_no n = (λ e. absurd (false≢true e), λ p. absurd (n p))

-- acceptance says of each check that its condition does not hold
abbrev pub NoneHolds : Checks → Type 0
NoneHolds [] = Unit {0}
NoneHolds (check ∷ others) = (check.1 → ⊥) × NoneHolds others

pub none_holds : (cs : Checks) → Answered cs None → NoneHolds cs
none_holds [] a = tt
none_holds (check ∷ others) (inl x) = let e = x.1 in let z : ◌≡◌ {A = ℕ} 0 1 = cc in absurd (omega arith)
none_holds (check ∷ others) (inr y) = (y.0, none_holds others y.1)

pub when_so : {P Q : Type 0} (b : Bool) → (b ≡ true → P) → (b ≡ false → Q) → MatchBool b P Q
when_so true p q = p refl
when_so false p q = q refl
