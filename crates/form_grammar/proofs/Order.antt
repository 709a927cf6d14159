-- The first of a form's rules that is broken is the least, as it is with the rules of a place.
use Rattle.std.proofs.Common.{◌≡◌, ℕ, Bool, true, false, cond, ◌⊎◌, List, [], ◌∷◌, refl, ap, ◌∙◌, inl, inr, arith}
use Rattle.reading.specs.Drafts.{nothing}
use Rattle.reading.specs.Steps.{Step, go, fault}
use Rattle.reading.specs.Forms.{FormStep, refused}
use Rattle.grammar.specs.Rules as places
use Rattle.grammar.specs.Rules.{Rule, Broken, Kept}
use Rattle.grammar.specs.Least.{NotAfter}
use Rattle.grammar.proofs.Order as orders
use Rattle.grammar.proofs.Order.{Rising}
use Rattle.form_grammar.specs.FormRules.{first}

module _ {K : Type 0} where
  -- a refusal as it is, and else s
  abbrev lift : Step K → FormStep K → FormStep K
  lift (go d) s = s
  lift (fault n b) s = refused n b

  first_lift : (rs : List Rule) (s : FormStep K) → first rs s ≡ lift (places.first rs (go nothing)) s
  first_lift [] s = refl
  first_lift (r ∷ rs) s = by r.broken (first_lift rs s)
    where
      by : (q : Bool) → first rs s ≡ lift (places.first rs (go nothing)) s → cond q (refused r.answer r.byte) (first rs s) ≡ lift (cond q (fault r.answer r.byte) (places.first rs (go nothing))) s
      by true e = refl
      by false e = e

  abbrev pub Firsts : List Rule → FormStep K → Type 0
  Firsts rs s = (Kept rs × (first rs s ≡ s)) ⊎ ((n : ℕ) × (b : ℕ) × Broken rs n b × (first rs s ≡ refused n b))

  pub first_cases : (rs : List Rule) (s : FormStep K) → Firsts rs s
  first_cases rs s = on (orders.first_cases rs (go nothing))
    where
      on : orders.Firsts {K = K} rs (go nothing) → Firsts rs s
      on (inl h) = inl (h.0, first_lift rs s ∙ ap (λ y. lift y s) h.1)
      on (inr h) = inr (h.0, h.1, h.2, first_lift rs s ∙ ap (λ y. lift y s) h.3)

  abbrev pub FirstLeast : List Rule → FormStep K → ℕ → ℕ → Type 0
  FirstLeast rs s m c = (n : ℕ) × (b : ℕ) × (first rs s ≡ refused n b) × NotAfter b n c m × NotAfter 0 20 b n

  pub first_least : (rs : List Rule) (s : FormStep K) (m c : ℕ) → Rising 0 20 rs → Broken rs m c → FirstLeast rs s m c
  first_least rs s m c h x =
      let l : orders.FirstLeast {K = K} rs (go nothing) m c = orders.first_least rs (go nothing) 0 20 m c (inr (refl, omega arith)) h x in
      (l.0, l.1, first_lift rs s ∙ ap (λ y. lift y s) l.2, l.3, l.4)
