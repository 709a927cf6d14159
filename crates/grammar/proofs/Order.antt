-- Rules in the order of their bytes and numbers: the first that is broken is the least.
use Rattle.std.proofs.Common.{◌≡◌, ℕ, ◌≤◌, true, false, ◌⊎◌, List, [], ◌∷◌, refl, ◌∙◌, inl, inr, ⊎_elim, arith}
use Rattle.std.proofs.lemmas.Bool.{both_ways, cond-true, cond-false, cases_Bool, cases_lt}
use Rattle.reading.specs.Steps.{Step, fault}
use Rattle.grammar.specs.Rules.{Rule, Broken, Kept, first}
use Rattle.grammar.specs.Least.{NotAfter}

pub from_le : (b n c m : ℕ) → b ≤ c → n ≤ m → NotAfter b n c m
from_le b n c m p q = ⊎_elim (λ lt. inl lt) (λ ge. inr (omega arith, q)) (cases_lt b c)

pub after_trans : (b n c m e k : ℕ) → NotAfter b n c m → NotAfter c m e k → NotAfter b n e k
after_trans b n c m e k (inl p) (inl q) = inl (omega arith)
after_trans b n c m e k (inl p) (inr q) = inl (omega arith)
after_trans b n c m e k (inr p) (inl q) = inl (omega arith)
after_trans b n c m e k (inr p) (inr q) = inr (omega arith, omega arith)

-- none comes before number n at byte b, nor before one that stands in front of it
abbrev pub Rising : ℕ → ℕ → List Rule → Type 0
Rising b n [] = Unit {0}
Rising b n (r ∷ rs) = NotAfter b n r.byte r.answer × Rising r.byte r.answer rs

pub rising_all : (rs : List Rule) (b n c m : ℕ) → Rising b n rs → Broken rs m c → NotAfter b n c m
rising_all [] b n c m h x = absurd x
rising_all (r ∷ rs) b n c m h (inl e) = after_trans b n r.byte r.answer c m h.0 (inr (e.2, omega arith))
rising_all (r ∷ rs) b n c m h (inr x) = after_trans b n r.byte r.answer c m h.0 (rising_all rs r.byte r.answer c m h.1 x)

module _ {K : Type 0} where
  abbrev pub Firsts : List Rule → Step K → Type 0
  Firsts rs s = (Kept rs × (first rs s ≡ s)) ⊎ ((n : ℕ) × (b : ℕ) × Broken rs n b × (first rs s ≡ fault n b))

  pub first_cases : (rs : List Rule) (s : Step K) → Firsts rs s
  first_cases [] s = inl (tt, refl)
  first_cases (r ∷ rs) s = on (cases_Bool r.broken) (first_cases rs s)
    where
      on : (r.broken ≡ true) ⊎ (r.broken ≡ false) → Firsts rs s → Firsts (r ∷ rs) s
      on (inl e) ih = inr (r.answer, r.byte, inl (e, refl, refl), cond-true r.broken _ _ e)
      on (inr e) (inl h) = inl ((e, h.0), cond-false r.broken _ _ e ∙ h.1)
      on (inr e) (inr h) = inr (h.0, h.1, inr h.2, cond-false r.broken _ _ e ∙ h.3)

  abbrev pub FirstLeast : List Rule → Step K → ℕ → ℕ → Type 0
  FirstLeast rs s m c = (n : ℕ) × (b : ℕ) × (first rs s ≡ fault n b) × NotAfter b n c m × NotAfter 0 20 b n

  pub first_least : (rs : List Rule) (s : Step K) (b₀ n₀ m c : ℕ) → NotAfter 0 20 b₀ n₀ → Rising b₀ n₀ rs → Broken rs m c → FirstLeast rs s m c
  first_least [] s b₀ n₀ m c z h x = absurd x
  first_least (r ∷ rs) s b₀ n₀ m c z h x = on (cases_Bool r.broken) x (λ y. first_least rs s r.byte r.answer m c z₂ h.1 y)
    where
      z₂ : NotAfter 0 20 r.byte r.answer
      z₂ = after_trans 0 20 b₀ n₀ r.byte r.answer z h.0

      on : (r.broken ≡ true) ⊎ (r.broken ≡ false) → Broken (r ∷ rs) m c → (Broken rs m c → FirstLeast rs s m c) → FirstLeast (r ∷ rs) s m c
      on (inl e) (inl y) ih = (r.answer, r.byte, cond-true r.broken _ _ e, inr (y.2, omega arith), z₂)
      on (inl e) (inr y) ih = (r.answer, r.byte, cond-true r.broken _ _ e, rising_all rs r.byte r.answer c m h.1 y, z₂)
      on (inr e) (inl y) ih = absurd (both_ways r.broken e y.0)
      on (inr e) (inr y) ih = let k = ih y in (k.0, k.1, cond-false r.broken _ _ e ∙ k.2, k.3, k.4)
