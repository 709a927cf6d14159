-- Whether a number is that of a name is decided, so a name that there is merely is there.
use Rattle.std.proofs.Common.{ℕ, zero, suc, ◌<◌, ◌≤◌, ◌⊎◌, List, length, get_or, inl, inr, arith, below_more}
use mathlib.Core.Logic.{∥∥₁_elim}
use Rattle.std.proofs.lemmas.Bool.{cases_eq, cases_lt}
use Rattle.names.specs.Names.{Letter, Digit, Name, IsName, number}
use Rattle.names.specs.Spellings.{spelt}
use Rattle.names.proofs.Spelt.{there_and_back}

abbrev pub Decided : Type 0 → Type 0
Decided P = P ⊎ (P → ⊥)

pub stable : {P : Type 0} → Decided P → ∥ P ∥₁ → P
stable (inl p) t = p
stable (inr no') t = absurd (∥∥₁_elim t (λ x y. absurd x) no')

either : {P Q : Type 0} → Decided P → Decided Q → Decided (P ⊎ Q)
either (inl p) q = inl (inl p)
either (inr n) (inl q) = inl (inr q)
either (inr n) (inr m) = inr (λ x. elim x [ inl p ↦ n p | inr q ↦ m q ])

at_most : (a b : ℕ) → Decided (a ≤ b)
at_most a b = elim (cases_lt b a) [ inl lt ↦ inr (λ le. omega arith) | inr ge ↦ inl ge ]

letter : (b : ℕ) → Decided (Letter b)
letter b =
    elim (at_most 97 b) [
      | inl l ↦ elim (at_most b 122) [ inl h ↦ inl (record { low = l; high = h }) | inr n ↦ inr (λ x. n x.high) ]
      | inr n ↦ inr (λ x. n x.low)
    ]

digit : (b : ℕ) → Decided (Digit b)
digit b =
    elim (at_most 48 b) [
      | inl l ↦ elim (at_most b 57) [ inl h ↦ inl (record { low = l; high = h }) | inr n ↦ inr (λ x. n x.high) ]
      | inr n ↦ inr (λ x. n x.low)
    ]

every : (P : ℕ → Type 0) → ((i : ℕ) → Decided (P i)) → (n : ℕ) → Decided ((i : ℕ) → i < n → P i)
every P d zero = inl (λ i h. absurd (omega arith))
every P d (suc n) =
    elim (every P d n) [
      | inl all ↦
          elim (d n) [
            | inl here ↦ inl (λ i h. below_more P n all here i (omega arith))
            | inr none ↦ inr (λ x. none (x n (omega arith)))
          ]
      | inr some ↦ inr (λ x. some (λ i h. x i (omega arith)))
    ]

name : (bs : List ℕ) → Decided (Name bs)
name bs =
    elim (at_most 1 (length bs)) [
      | inr n ↦ inr (λ x. n x.some)
      | inl some ↦
          elim (at_most (length bs) 12) [
            | inr n ↦ inr (λ x. n x.few)
            | inl few ↦
                elim (letter (get_or bs 0 0)) [
                  | inr n ↦ inr (λ x. n x.first)
                  | inl first ↦
                      elim (every _ (λ i. either (letter (get_or bs i 0)) (either (digit (get_or bs i 0)) (cases_eq (get_or bs i 0) 95))) (length bs)) [
                        | inr n ↦ inr (λ x. n x.others)
                        | inl others ↦ inl (record { some = some; few = few; first = first; others = others })
                      ]
                ]
          ]
    ]

pub is_name : (n : ℕ) → Decided (IsName n)
is_name n =
    elim (name (spelt n)) [
      | inl is ↦
          elim (cases_eq (number (spelt n)) n) [
            | inl e ↦ inl (record { bytes = spelt n; name = is; numbered = e })
            | inr ne ↦ inr (λ x. ne (there_and_back.there n x))
          ]
      | inr none ↦ inr (λ x. none (there_and_back.name n x))
    ]
