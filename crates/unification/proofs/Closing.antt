-- The classes of joined places can be found: join what has to be joined until nothing has.
use Rattle.std.proofs.Common.{◌≡◌, ℕ, zero, suc, ◌+◌, ◌<◌, ◌≤◌, Bool, true, false, cond, T, eqb, ◌≢◌, sym, refl, ap, ◌∙◌, subst, inl, inr, arith, eqb→eq}
use native.Mathlib.Decide.{dec_lt, ℕ_discrete}
use lib.Dec.{eqb_refl}
use Rattle.records.proofs.Pigeons.{look, swap, swap_cases}

pub found? : (P : ℕ → Type 0) → ((i : ℕ) → Dec (P i)) → (n : ℕ) → Dec ((i : ℕ) × (i < n) × P i)
found? P d n = elim (look P d n) [ inl f ↦ yes f | inr none ↦ no (λ f. none f.0 f.1 f.2) ]

-- how many numbers below n pass a test
pub count : (ℕ → Bool) → ℕ → ℕ
count t zero = 0
count t (suc n) = count t n + cond (t n) 1 0

bit_le : (a b : Bool) → (T a → T b) → cond a 1 0 ≤ cond b 1 0
bit_le true true h = omega arith
bit_le true false h = absurd (h tt)
bit_le false true h = omega arith
bit_le false false h = omega arith

bit_lt : (a b : Bool) → T b → (T a → ⊥) → cond a 1 0 < cond b 1 0
bit_lt true b h k = absurd (k tt)
bit_lt false true h k = omega arith
bit_lt false false h k = absurd h

pub count_le : (t u : ℕ → Bool) (n : ℕ) → ((x : ℕ) → x < n → T (t x) → T (u x)) → count t n ≤ count u n
unfolding count
count_le t u zero h = omega arith
count_le t u (suc n) h = omega (arith, count_le t u n (λ x k. h x (omega arith)), bit_le (t n) (u n) (h n (omega arith)))

pub count_lt : (t u : ℕ → Bool) (n z : ℕ) → ((x : ℕ) → x < n → T (t x) → T (u x)) → z < n → T (u z) → (T (t z) → ⊥) → count t n < count u n
unfolding count
count_lt t u zero z h k yes_u no_t = absurd (omega arith)
count_lt t u (suc n) z h k yes_u no_t =
    elim (dec_lt z n) [
      | yes lt ↦ omega (arith, count_lt t u n z (λ x l. h x (omega arith)) lt yes_u no_t, bit_le (t n) (u n) (h n (omega arith)))
      | no ge ↦
          let e : z ≡ n = omega arith in
          omega (arith, count_le t u n (λ x l. h x (omega arith)), bit_lt (t n) (u n) (subst (λ x. T (u x)) e yes_u) (subst (λ x. T (t x) → ⊥) e no_t))
    ]

pub count_all : (t : ℕ → Bool) (n : ℕ) → count t n ≤ n
unfolding count
count_all t zero = omega arith
count_all t (suc n) = omega (arith, count_all t n, bit_le (t n) true (λ h. tt))

swap_off : (u v x : ℕ) → x ≢ v → swap u v x ≡ x
swap_off u v x h = elim (swap_cases u v x) [ inl e ↦ absurd (h e.0) | inr e ↦ e.1 ]

swap_at : (u v : ℕ) → swap u v v ≡ u
swap_at u v = elim (swap_cases u v v) [ inl e ↦ e.1 | inr e ↦ absurd (e.0 refl) ]

-- places and slots by their numbers: each slot with the place that it belongs to, its name and its target
pub record Net : Type 0 where
  pub places : ℕ
  pub slots : ℕ
  pub owner : ℕ → ℕ
  pub name : ℕ → ℕ
  pub target : ℕ → ℕ
  pub owner_in : (i : ℕ) → i < slots → owner i < places
  pub target_in : (i : ℕ) → i < slots → target i < places

-- an equivalence that follows the slots
pub record Rel (N : Net) : Type 1 where
  pub R : ℕ → ℕ → Type 0
  pub self : (x : ℕ) → R x x
  pub flip : (x y : ℕ) → R x y → R y x
  pub chain : (x y z : ℕ) → R x y → R y z → R x z
  pub follow : (i j : ℕ) → i < N.slots → j < N.slots → N.name i ≡ N.name j → R (N.owner i) (N.owner j) → R (N.target i) (N.target j)

pub record Closed (N : Net) (c : ℕ → ℕ) : Type 0 where
  pub follows : (i j : ℕ) → i < N.slots → j < N.slots → N.name i ≡ N.name j → c (N.owner i) ≡ c (N.owner j) → c (N.target i) ≡ c (N.target j)

-- c x is one of the class of x, the same for all of the class
pub record Classes (N : Net) (ρ : Rel N) (c : ℕ → ℕ) : Type 0 where
  pub inside : (x : ℕ) → x < N.places → c x < N.places
  pub rep : (x : ℕ) → x < N.places → c (c x) ≡ c x
  pub sound : (x y : ℕ) → x < N.places → y < N.places → c x ≡ c y → ρ.R x y

module _ (N : Net) (ρ : Rel N) where
  join : (c : ℕ → ℕ) (a b : ℕ) → Classes N ρ c → a < N.places → b < N.places → c a ≢ c b → ρ.R a b → Classes N ρ (λ x. swap (c a) (c b) (c x))
  join c a b k ha hb ne r =
      record {
        inside = λ x h. elim (swap_cases (c a) (c b) (c x)) [
          | inl e ↦ rw e.1 (k.inside a ha)
          | inr e ↦ rw e.1 (k.inside x h)
        ];
        rep = λ x h. elim (swap_cases (c a) (c b) (c x)) [
          | inl e ↦ rw (e.1, k.rep a ha) (keeps (c a) ne)
          | inr e ↦ rw (e.1, k.rep x h) (keeps (c x) e.0)
        ];
        sound = λ x y hx hy e.
            elim (swap_cases (c a) (c b) (c x)) [
              | inl f ↦
                  elim (swap_cases (c a) (c b) (c y)) [
                    | inl g ↦ k.sound x y hx hy (f.0 ∙ sym g.0)
                    | inr g ↦ ρ.chain x b y (k.sound x b hx hb f.0) (ρ.chain b a y (ρ.flip a b r) (k.sound a y ha hy (sym f.1 ∙ e ∙ g.1)))
                  ]
              | inr f ↦
                  elim (swap_cases (c a) (c b) (c y)) [
                    | inl g ↦ ρ.chain x a y (k.sound x a hx ha (sym f.1 ∙ e ∙ g.1)) (ρ.chain a b y r (k.sound b y hb hy (sym g.0)))
                    | inr g ↦ k.sound x y hx hy (sym f.1 ∙ e ∙ g.1)
                  ]
            ];
      }
    where
      keeps : (v : ℕ) → v ≢ c b → swap (c a) (c b) v ≡ v
      keeps = swap_off (c a) (c b)

  -- each join leaves fewer that stand for their class
  fewer : (c : ℕ → ℕ) (a b : ℕ) → Classes N ρ c → a < N.places → b < N.places → c a ≢ c b
      → count (λ x. eqb (swap (c a) (c b) (c x)) x) N.places < count (λ x. eqb (c x) x) N.places
  fewer c a b k ha hb ne =
      count_lt (λ x. eqb (swap (c a) (c b) (c x)) x) (λ x. eqb (c x) x) N.places (c b)
      (λ x h t.
      let e = eqb→eq (swap (c a) (c b) (c x)) x t in
      elim (swap_cases (c a) (c b) (c x)) [
        | inl f ↦ absurd (ne (sym (k.rep a ha) ∙ ap c (sym f.1 ∙ e) ∙ f.0))
        | inr f ↦ subst (λ y. T (eqb y x)) (sym (sym f.1 ∙ e)) (eqb_refl x)
      ])
      (k.inside b hb)
      (subst (λ y. T (eqb y (c b))) (sym (k.rep b hb)) (eqb_refl (c b)))
      (λ t.
      let e = eqb→eq (swap (c a) (c b) (c (c b))) (c b) t in
      elim (swap_cases (c a) (c b) (c (c b))) [
        | inl f ↦ ne (sym f.1 ∙ e)
        | inr f ↦ f.0 (k.rep b hb)
      ])

  pub record Found (a b : ℕ) : Type 0 where
    pub c : ℕ → ℕ
    pub classes : Classes N ρ c
    pub roots : c a ≡ c b
    pub closed : Closed N c

  Breach : (ℕ → ℕ) → ℕ → ℕ → Type 0
  Breach c i j = (N.name i ≡ N.name j) × (c (N.owner i) ≡ c (N.owner j)) × (c (N.target i) ≢ c (N.target j))

  breach? : (c : ℕ → ℕ) (i j : ℕ) → Dec (Breach c i j)
  unfolding Breach
  breach? c i j =
      elim (ℕ_discrete (N.name i) (N.name j)) [
        | no h ↦ no (λ b. h b.0)
        | yes e ↦
            elim (ℕ_discrete (c (N.owner i)) (c (N.owner j))) [
              | no h ↦ no (λ b. h b.1)
              | yes f ↦
                  elim (ℕ_discrete (c (N.target i)) (c (N.target j))) [
                    | yes g ↦ no (λ b. b.2 g)
                    | no h ↦ yes (e, f, h)
                  ]
            ]
      ]

  close : (fuel a b : ℕ) (c : ℕ → ℕ) → Classes N ρ c → c a ≡ c b → count (λ x. eqb (c x) x) N.places < fuel → Found a b
  unfolding Breach
  close zero a b c k e h = absurd (omega arith)
  close (suc fuel) a b c k e h =
      elim (look (λ i. (j : ℕ) × (j < N.slots) × Breach c i j) (λ i. found? (Breach c i) (breach? c i) N.slots) N.slots) [
        | inr none ↦
            record {
              c = c;
              classes = k;
              roots = e;
              closed = record {
                follows = λ i j hi hj same own.
                    elim (ℕ_discrete (c (N.target i)) (c (N.target j))) [
                      | yes g ↦ g
                      | no ne ↦ absurd (none i hi (j, hj, (same, own, ne)))
                    ];
              };
            }
        | inl f ↦
            let i : ℕ = f.0 in
            let j : ℕ = f.2.0 in
            let hi : i < N.slots = f.1 in
            let hj : j < N.slots = f.2.1 in
            let v = f.2.2 in
            let ti = N.target_in i hi in
            let tj = N.target_in j hj in
            let r = ρ.follow i j hi hj v.0 (k.sound (N.owner i) (N.owner j) (N.owner_in i hi) (N.owner_in j hj) v.1) in
            close fuel a b (λ x. swap (c (N.target i)) (c (N.target j)) (c x)) (join c (N.target i) (N.target j) k ti tj v.2 r)
            (ap (swap (c (N.target i)) (c (N.target j))) e) (omega (arith, fewer c (N.target i) (N.target j) k ti tj v.2))
      ]

  -- the classes of the least such equivalence that joins a and b
  pub find : (a b : ℕ) → a < N.places → b < N.places → a ≢ b → ρ.R a b → Found a b
  find a b ha hb ne r =
      close (suc N.places) a b (λ x. swap a b x) (join (λ x. x) a b start ha hb ne r) (swap_off a b a ne ∙ sym (swap_at a b))
      (omega (arith, count_all (λ x. eqb (swap a b x) x) N.places))
    where
      start : Classes N ρ (λ x. x)
      start = record { inside = λ x h. h; rep = λ x h. refl; sound = λ x y h k e. subst (ρ.R x) e (ρ.self x) }
