-- The laws of the catalogue, shown. (A proof, and nothing that a reader has to believe: it stands here because the trait takes
-- it as a ghost member.) What holds of all kinds, or of all pairs, is one test that antt computes over the list.
use Rattle.std.specs.Prelude.{◌≡◌, ℕ, zero, suc, ◌<◌, Bool, true, false, cond, ◌&&◌, ◌||◌, T, ltb, ◌⊎◌, List, [], ◌∷◌, get_or, is_some, Some, None, Option, ◌==◌, ◌≢◌, bit_and, nat_eq, nat_lt, slice_index_or, refl}
use Rattle.std.proofs.Common.{sym, ap, ◌∙◌, subst, inl, inr, arith, ltb→lt}
use Rattle.std.proofs.Math.Facts.{eqb_yes}
use Rattle.std.specs.Int.Bits.{and_self, and_zero_r}
use Rattle.std.proofs.lemmas.Nat.{and_comm, and_assoc}
use Rattle.std.proofs.lemmas.Bool.{eqb-true, ltb-true, cases_eq}
use Rattle.std.specs.Option.{unwrap_or}
use Rattle.kinds.specs.declared.catalogue.Catalogue.{Catalogue}
use Rattle.kinds.specs.declared.catalogue.Catalogue.TheVariants.{Thing, Ware, Electrical, Mover, Striking, Outdoor, OutdoorMover, OutdoorStriker, SwingMotor, InsideStriker, OutsideStriker, ChimeHammer, Controller, Bell, Headstock, Tune}
use Rattle.kinds.specs.Laws.{KindLaws, MeetLaws}
use Rattle.kinds.specs.Catalogue.{listed, code, index, kind_at, Within, MeetRule, coded, shared}

-- ---- tests over the whole catalogue

pub is_true : (b : Bool) → T b → b ≡ true
is_true true t = refl
is_true false t = absurd t

and_left : (a b : Bool) → T (a && b) → T a
and_left true b t = tt
and_left false b t = t

and_right : (a b : Bool) → T (a && b) → T b
and_right true b t = t
and_right false b t = absurd t

abbrev pub every : (Catalogue → Bool) → List Catalogue → Bool
every f [] = true
every f (k ∷ ks) = f k && every f ks

every_at : (f : Catalogue → Bool) (d : Catalogue) → T (f d) → (ks : List Catalogue) → T (every f ks) → (n : ℕ) → T (f (slice_index_or ks n d))
every_at f d h [] t n = h
every_at f d h (k ∷ ks) t zero = and_left (f k) (every f ks) t
every_at f d h (k ∷ ks) t (suc n) = every_at f d h ks (and_right (f k) (every f ks) t) n

-- each kind stands in the list at its number
pub placed : (k : Catalogue) → slice_index_or listed (index k) Thing ≡ k
placed Thing = refl
placed Ware = refl
placed Electrical = refl
placed Mover = refl
placed Striking = refl
placed Outdoor = refl
placed OutdoorMover = refl
placed OutdoorStriker = refl
placed SwingMotor = refl
placed InsideStriker = refl
placed OutsideStriker = refl
placed ChimeHammer = refl
placed Controller = refl
placed Bell = refl
placed Headstock = refl
placed Tune = refl

-- what passes at each of the sixteen passes at any kind, and what passes at each pair passes at any two
pub all_kinds : (f : Catalogue → Bool) → T (every f listed) → (k : Catalogue) → T (f k)
all_kinds f t k = subst (λ (x : Catalogue). T (f x)) (placed k) (every_at f Thing (and_left (f Thing) _ t) listed t (index k))

pub all_pairs : (f : Catalogue → Catalogue → Bool) → T (every (λ a. every (f a) listed) listed) → (a b : Catalogue) → T (f a b)
all_pairs f t a b = all_kinds (f a) (all_kinds (λ x. every (f x) listed) t a) b

-- a kind is known by its number
pub by_index : (a b : Catalogue) → T (index a == index b) → a ≡ b
by_index a b t = sym (placed a) ∙ ap (λ n. get_or listed n Thing) (eqb_yes t) ∙ placed b

-- ---- the order and the stored form

-- a kind is known by its code
by_code : (k : Catalogue) → unwrap_or (coded (code k) listed) Thing ≡ k
by_code k =
    by_index (unwrap_or (coded (code k) listed) Thing) k
    (all_kinds (λ x. nat_eq (index (unwrap_or (coded (code x) listed) Thing)) (index x)) tt k)

within_equal : (a b : Catalogue) → Within a b → Within b a → a ≡ b
within_equal a b p q =
    let e : code a ≡ code b = sym p ∙ and_comm (code a) (code b) ∙ q in
    sym (by_code a) ∙ ap (λ n. unwrap_or (coded n listed) Thing) e ∙ by_code b

form_reads : (k : Catalogue) → kind_at (index k) ≡ Some k
form_reads k =
    let below : ltb (index k) 16 ≡ true = is_true (nat_lt (index k) 16) (all_kinds (λ x. ltb (index x) 16) tt k) in
    λ i. cond (below i) (Some (placed k i)) None

-- the kind at each number below 16 has that number
abbrev all_below : (ℕ → Bool) → ℕ → Bool
all_below f zero = true
all_below f (suc n) = f n && all_below f n

at_below : (f : ℕ → Bool) (n : ℕ) → T (all_below f n) → (k : ℕ) → k < n → T (f k)
at_below f zero t k h = absurd (omega arith)
at_below f (suc n) t k h = by (cases_eq k n) (at_below f n (and_right (f n) (all_below f n) t) k)
  where
    by : (k ≡ n) ⊎ (k ≢ n) → (k < n → T (f k)) → T (f k)
    by (inl e) rest = subst (λ (x : ℕ). T (f x)) (sym e) (and_left (f n) (all_below f n) t)
    by (inr ne) rest = rest (omega arith)

numbered : (n : ℕ) → n < 16 → index (slice_index_or listed n Thing) ≡ n
numbered n h = eqb_yes (at_below (λ m. nat_eq (index (slice_index_or listed m Thing)) m) 16 tt n h)

form_own : (n : ℕ) (k : Catalogue) → kind_at n ≡ Some k → index k ≡ n
form_own n k e = go (nat_lt n 16) refl
  where
    go : (b : Bool) → nat_lt n 16 ≡ b → index k ≡ n
    go true h =
        let f : cond true (Some (slice_index_or listed n Thing)) None ≡ Some k = ap (λ x. cond x (Some (slice_index_or listed n Thing)) None) (sym h) ∙ e in
        let g : get_or listed n Thing ≡ k = cc in
        ap index (sym g) ∙ numbered n (ltb-true n 16 h)
    go false h =
        let f : cond false (Some (slice_index_or listed n Thing)) None ≡ Some k = ap (λ x. cond x (Some (slice_index_or listed n Thing)) None) (sym h) ∙ e in
        let z : ◌≡◌ {A = ℕ} 0 1 = cc in
        absurd (omega arith)

pub catalogue_laws : KindLaws Within Thing index kind_at
catalogue_laws = record {
  reflexive = λ a. and_self (code a);
  transitive = λ a b c p q. ap (λ x. bit_and x (code c)) (sym p) ∙ and_assoc (code c) (code a) (code b) ∙ ap (λ x. bit_and (code a) x) q ∙ p;
  antisymmetric = within_equal;
  decided = λ a b. cases_eq (bit_and (code a) (code b)) (code a);
  greatest = λ a. eqb_yes (all_kinds (λ x. nat_eq (bit_and (code x) 0xFF) (code x)) tt a);
  reads = form_reads;
  own = form_own;
}

-- ---- the meet

found : (n : ℕ) (ks : List Catalogue) (m : Catalogue) → coded n ks ≡ Some m → code m ≡ n
found n [] m e = let z : ◌≡◌ {A = ℕ} 0 1 = cc in absurd (omega arith)
found n (k ∷ ks) m e = go (code k == n) refl (found n ks m)
  where
    go : (b : Bool) → (code k == n) ≡ b → (coded n ks ≡ Some m → code m ≡ n) → code m ≡ n
    go true h rest =
        let f : cond true (Some k) (coded n ks) ≡ Some m = ap (λ x. cond x (Some k) (coded n ks)) (sym h) ∙ e in
        let g : k ≡ m = cc in
        ap code (sym g) ∙ eqb-true (code k) n h
    go false h rest = rest (ap (λ x. cond x (Some k) (coded n ks)) (sym h) ∙ e)

-- two kinds share a kind, or no bit
closed : (a b : Catalogue) → T (is_some (shared a b) || bit_and (code a) (code b) == 0)
closed = all_pairs (λ a b. is_some (shared a b) || bit_and (code a) (code b) == 0) tt

apart : (a b : Catalogue) → shared a b ≡ None → bit_and (code a) (code b) ≡ 0
apart a b e =
    let t : T (is_some {T = Catalogue} None || bit_and (code a) (code b) == 0) = subst (λ (o : Option Catalogue). T (is_some o || bit_and (code a) (code b) == 0)) e (closed a b) in
    eqb_yes t

-- what two kinds share keeps the rule of the meet
pub shared_rule : (a b : Catalogue) → MeetRule a b (shared a b)
shared_rule a b = go (shared a b) refl
  where
    go : (o : Option Catalogue) → shared a b ≡ o → MeetRule a b o
    go (Some m) e = found (bit_and (code a) (code b)) listed m e
    go None e = apart a b e

-- no kind's code is 0
positive : (k : Catalogue) → code k ≢ 0
positive k e =
    let t : T (nat_lt 0 (code k)) = all_kinds (λ x. ltb 0 (code x)) tt k in
    let h : 0 < code k = ltb→lt 0 (code k) t in
    omega arith

module _ (a b : Catalogue) where
  shared_left : (m : Catalogue) → shared a b ≡ Some m → Within m a
  shared_left m e =
      let f : code m ≡ bit_and (code a) (code b) = found (bit_and (code a) (code b)) listed m e in
      ap (λ x. bit_and x (code a)) (f ∙ and_comm (code a) (code b))
      ∙ and_assoc (code a) (code b) (code a)
      ∙ ap (λ x. bit_and (code b) x) (and_self (code a))
      ∙ and_comm (code b) (code a) ∙ sym f

  shared_right : (m : Catalogue) → shared a b ≡ Some m → Within m b
  shared_right m e =
      let f : code m ≡ bit_and (code a) (code b) = found (bit_and (code a) (code b)) listed m e in
      ap (λ x. bit_and x (code b)) f
      ∙ and_assoc (code b) (code a) (code b)
      ∙ ap (λ x. bit_and (code a) x) (and_self (code b))
      ∙ sym f

  -- what is within both is within the bits that both have
  within_both : (c : Catalogue) → Within c a → Within c b → bit_and (code c) (bit_and (code a) (code b)) ≡ code c
  within_both c p q = sym (and_assoc (code b) (code c) (code a)) ∙ ap (λ x. bit_and x (code b)) p ∙ q

  shared_most : (m c : Catalogue) → shared a b ≡ Some m → Within c a → Within c b → Within c m
  shared_most m c e p q = ap (λ x. bit_and (code c) x) (found (bit_and (code a) (code b)) listed m e) ∙ within_both c p q

  shared_none : (c : Catalogue) → shared a b ≡ None → Within c a → Within c b → ⊥
  shared_none c e p q =
      positive c (sym (within_both c p q) ∙ ap (λ x. bit_and (code c) x) (apart a b e) ∙ and_zero_r (code c))

pub catalogue_meets : MeetLaws Within shared
catalogue_meets = record { left = shared_left; right = shared_right; most = shared_most; none = shared_none }
