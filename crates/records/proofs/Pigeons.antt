-- A search below a bound, and that there are no more different numbers below n than n.
use Rattle.std.proofs.Common.{◌≡◌, ℕ, zero, suc, ◌-◌, ◌<◌, ◌≤◌, Bool, true, false, cond, eqb, ◌≢◌, ◌⊎◌, sym, refl, ◌∙◌, subst, inl, inr, arith}
use native.Mathlib.Decide.{dec_lt}
use Rattle.std.proofs.lemmas.Bool.{eqb-true, eqb-false}

-- a number below n at which P holds, or none
pub look : (P : ℕ → Type 0) → ((i : ℕ) → Dec (P i)) → (n : ℕ) → ((i : ℕ) × (i < n) × P i) ⊎ ((i : ℕ) → i < n → P i → ⊥)
look P d zero = inr (λ i h p. omega arith)
look P d (suc n) =
    elim (look P d n) [
      | inl f ↦ inl (f.0, omega (arith, f.1), f.2)
      | inr none ↦
          elim (d n) [
            | yes p ↦ inl (n, omega arith, p)
            | no np ↦
                inr (λ i h p.
                elim (dec_lt i n) [
                  | yes lt ↦ none i lt p
                  | no ge ↦
                      let e : i ≡ n = omega arith in
                      np (subst P e p)
                ])
          ]
    ]

-- put u for v
pub swap : ℕ → ℕ → ℕ → ℕ
swap u v x = cond (eqb x v) u x

pub swap_cases : (u v x : ℕ) → ((x ≡ v) × (swap u v x ≡ u)) ⊎ ((x ≢ v) × (swap u v x ≡ x))
unfolding swap
swap_cases u v x = go (eqb x v) refl
  where
    go : (b : Bool) → eqb x v ≡ b → ((x ≡ v) × (cond (eqb x v) u x ≡ u)) ⊎ ((x ≢ v) × (cond (eqb x v) u x ≡ x))
    go true e = inl (eqb-true x v e, rw e refl)
    go false e = inr (eqb-false x v e, rw e refl)

pub pigeon : (m n : ℕ) (f : ℕ → ℕ) → ((i : ℕ) → i < m → f i < n) → ((i j : ℕ) → i < j → j < m → f i ≢ f j) → m ≤ n
pigeon zero n f low apart = omega arith
pigeon (suc m) n f low apart =
    let last = low m (omega arith) in
    omega (
      arith,
      pigeon m (n - 1) (λ i. swap (f m) (n - 1) (f i))
          (λ i h.
          elim (swap_cases (f m) (n - 1) (f i)) [
            | inl e ↦ rw e.1 (omega (arith, e.0, apart i m h (omega arith)))
            | inr e ↦ rw e.1 (omega (arith, e.0, low i (omega arith)))
          ])
          (λ i j h k e.
          elim (swap_cases (f m) (n - 1) (f i)) [
            | inl a ↦
                elim (swap_cases (f m) (n - 1) (f j)) [
                  | inl b ↦ apart i j h (omega arith) (a.0 ∙ sym b.0)
                  | inr b ↦ apart j m k (omega arith) (sym b.1 ∙ sym e ∙ a.1)
                ]
            | inr a ↦
                elim (swap_cases (f m) (n - 1) (f j)) [
                  | inl b ↦ apart i m (omega arith) (omega arith) (sym a.1 ∙ e ∙ b.1)
                  | inr b ↦ apart i j h (omega arith) (sym a.1 ∙ e ∙ b.1)
                ]
          ]),
    )
