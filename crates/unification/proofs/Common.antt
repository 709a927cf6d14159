-- The members of a class have a greatest common kind, or they have no common kind.
use mathlib.Core.Path.{◌≡◌, refl, sym, ap, ◌∙◌, subst}
use mathlib.Core.Logic.{◌⊎◌, inl, inr}
use Prim.Native.Nat.{ℕ, zero, suc, ◌<◌}
use native.Mathlib.Omega.{arith}
use native.Mathlib.Decide.{dec_lt, ℕ_discrete}
use Rattle.std.specs.declared.option.Option.{Option}
use Rattle.std.specs.declared.option.Option.TheVariants.{Some, None}
use Rattle.kinds.specs.Laws.{KindLaws, MeetLaws}

module _ {K F : Type 0} {below : K → K → Type 0} {top : K} {form : K → F} {kind : F → Option K} (laws : KindLaws below top form kind)
    (kind_at : ℕ → K) (c : ℕ → ℕ) where
  -- the greatest kind at or below those of the class v, of the places below n
  pub record Glb (v n : ℕ) : Type 0 where
    pub k : K
    pub lower : (x : ℕ) → x < n → c x ≡ v → below k (kind_at x)
    pub most : (l : K) → ((x : ℕ) → x < n → c x ≡ v → below l (kind_at x)) → below l k

  -- no kind is
  pub record NoKind (v n : ℕ) : Type 0 where
    pub none : (l : K) → ((x : ℕ) → x < n → c x ≡ v → below l (kind_at x)) → ⊥

  module _ {common : K → K → Option K} (meets : MeetLaws below common) where
    glb : (v n : ℕ) → Glb v n ⊎ NoKind v n
    glb v zero = inl (record { k = top; lower = λ x h. absurd (omega arith); most = λ l h. laws.greatest l })
    glb v (suc n) =
        elim (glb v n) [
          | inr z ↦ inr (record { none = λ l all. z.none l (λ x h. all x (omega arith)) })
          | inl g ↦
              elim (ℕ_discrete (c n) v) [
                | no ne ↦
                    inl (record {
                      k = g.k;
                      lower = λ x h e.
                          elim (dec_lt x n) [
                            | yes lt ↦ g.lower x lt e
                            | no ge ↦ let z : x ≡ n = omega arith in absurd (ne (ap c (sym z) ∙ e))
                          ];
                      most = λ l all. g.most l (λ x h. all x (omega arith));
                    })
                | yes eq ↦ go g eq (common g.k (kind_at n)) refl
              ]
        ]
      where
        go : (g : Glb v n) → c n ≡ v → (m : Option K) → common g.k (kind_at n) ≡ m → Glb v (suc n) ⊎ NoKind v (suc n)
        go g eq None e =
            inr (record { none = λ l all. meets.none g.k (kind_at n) l e (g.most l (λ x h. all x (omega arith))) (all n (omega arith) eq) })
        go g eq (Some m) e =
            inl (record {
              k = m;
              lower = λ x h f.
                  elim (dec_lt x n) [
                    | yes lt ↦ laws.transitive m g.k (kind_at x) (meets.left g.k (kind_at n) m e) (g.lower x lt f)
                    | no ge ↦ let z : x ≡ n = omega arith in rw z (meets.right g.k (kind_at n) m e)
                  ];
              most = λ l all. meets.most g.k (kind_at n) m l e (g.most l (λ x h. all x (omega arith))) (all n (omega arith) eq);
            })

    -- at each place, or none at some
    pub glbs : (n m : ℕ) → ((x : ℕ) → x < m → Glb (c x) n) ⊎ ((x : ℕ) × (x < m) × NoKind (c x) n)
    glbs n zero = inl (λ x h. absurd (omega arith))
    glbs n (suc m) =
        elim (glbs n m) [
          | inr z ↦ inr (z.0, omega (arith, z.1), z.2)
          | inl all ↦
              elim (glb (c m) n) [
                | inr z ↦ inr (m, omega arith, z)
                | inl g ↦
                    inl (λ x h.
                    elim (dec_lt x m) [
                      | yes lt ↦ all x lt
                      | no ge ↦ let e : m ≡ x = omega arith in subst (λ y. Glb (c y) n) e g
                    ])
              ]
        ]

  module _ (n : ℕ) (all : (x : ℕ) → x < n → Glb (c x) n) where
    pick : (v : ℕ) → Dec (v < n) → K
    pick v (yes h) = (all v h).k
    pick v (no h) = top

    -- the kind of the class of v, and the greatest past the places
    pub kind_for : ℕ → K
    kind_for v = pick v (dec_lt v n)

    pick_lower : (v : ℕ) (d : Dec (v < n)) → v < n → (x : ℕ) → x < n → c x ≡ c v → below (pick v d) (kind_at x)
    unfolding pick
    pick_lower v (yes h) l x k e = (all v h).lower x k e
    pick_lower v (no h) l x k e = absurd (h l)

    pick_most : (v : ℕ) (d : Dec (v < n)) → v < n → (l : K) → ((x : ℕ) → x < n → c x ≡ c v → below l (kind_at x)) → below l (pick v d)
    unfolding pick
    pick_most v (yes h) l = (all v h).most
    pick_most v (no h) l = absurd (h l)

    pub for_lower : (v : ℕ) → v < n → (x : ℕ) → x < n → c x ≡ c v → below (kind_for v) (kind_at x)
    unfolding kind_for
    for_lower v = pick_lower v (dec_lt v n)

    pub for_most : (v : ℕ) → v < n → (l : K) → ((x : ℕ) → x < n → c x ≡ c v → below l (kind_at x)) → below l (kind_for v)
    unfolding kind_for
    for_most v = pick_most v (dec_lt v n)
