-- The laws of either of two types of kind, shown from the laws of each. (A proof, and nothing that a reader has to believe: it
-- stands here because the trait takes it as a ghost member.)
use Rattle.std.specs.Prelude.{◌≡◌, ℕ, zero, suc, Bool, true, false, cond, ◌&&◌, ◌⊎◌, Some, None, Option, refl}
use Rattle.std.proofs.Common.{inl, inr, sym, ap, subst, ◌∙◌, arith}
use Rattle.std.specs.Option.{option_map}
use Rattle.std.proofs.lemmas.Option.{none-some}
use Rattle.kinds.specs.Laws.{KindLaws, MeetLaws}
use Rattle.either_kind.specs.declared.either.Either.{Either}
use Rattle.either_kind.specs.declared.either.Either.TheVariants.{Any, First, Second}
use Rattle.either_kind.specs.Either.{holds, is_greatest, unused, Under, joint, form_of, by_tag, kind_of}

none≢some : {X Y : Type 0} (x : X) → ◌≡◌ {A = Option X} None (Some x) → Y
none≢some x e = absurd (none-some x e)

some≢none : {X Y : Type 0} (x : X) → ◌≡◌ {A = Option X} (Some x) None → Y
some≢none x e = none≢some x (sym e)

image : {X Y : Type 0} (f : X → Y) (o : Option X) (m : Y) → option_map f o ≡ Some m → (x : X) × ((o ≡ Some x) × (f x ≡ m))
image f (Some x) m e = (x, (refl, cc))
image f None m e = none≢some m e

no_image : {X Y : Type 0} (f : X → Y) (o : Option X) → option_map f o ≡ None → o ≡ None
no_image f (Some x) e = some≢none (f x) e
no_image f None e = refl

module _ {K F : Type 0} {below : K → K → Type 0} {top : K} {form : K → F} {kind : F → Option K} (laws : KindLaws below top form kind) where
  holds_true : {X : Type 0} (d : X ⊎ (X → ⊥)) → X → holds d ≡ true
  holds_true (inl h) x = refl
  holds_true (inr out) x = absurd (out x)

  holds_so : {X : Type 0} (d : X ⊎ (X → ⊥)) → holds d ≡ true → X
  holds_so (inl h) e = h
  holds_so (inr out) e = let z : ◌≡◌ {A = ℕ} 0 1 = cc in absurd (omega arith)

  -- the form of the greatest kind is an unused part, and no other is
  pub unused_top : unused laws (form top) ≡ true
  unused_top = ap (is_greatest laws) (laws.reads top) ∙ holds_true (laws.decided top top) (laws.reflexive top)

  pub unused_form : (f : F) → unused laws f ≡ true → form top ≡ f
  unused_form f e = go (kind f) refl e
    where
      go : (o : Option K) → kind f ≡ o → is_greatest laws o ≡ true → form top ≡ f
      go None h t = let z : ◌≡◌ {A = ℕ} 0 1 = cc in absurd (omega arith)
      go (Some k) h t =
          ap form (laws.antisymmetric top k (holds_so (laws.decided top k) t) (laws.greatest k)) ∙ laws.own f k h

module _ {P F : Type 0} {below_p : P → P → Type 0} {top_p : P} {form_p : P → F} {kind_p : F → Option P} (lp : KindLaws below_p top_p form_p kind_p)
    {Q G : Type 0} {below_q : Q → Q → Type 0} {top_q : Q} {form_q : Q → G} {kind_q : G → Option Q} (lq : KindLaws below_q top_q form_q kind_q) where
  under_same : (a : Either P Q) → Under lp lq a a
  under_same Any = tt
  under_same (First a) = lp.reflexive a
  under_same (Second a) = lq.reflexive a

  under_through : (a b c : Either P Q) → Under lp lq a b → Under lp lq b c → Under lp lq a c
  under_through a b Any p q = tt
  under_through Any Any (First c) p q = q
  under_through Any (First b) (First c) p q = p
  under_through Any (Second b) (First c) p q = p
  under_through (First a) Any (First c) p q = absurd q
  under_through (First a) (First b) (First c) p q = lp.transitive a b c p q
  under_through (First a) (Second b) (First c) p q = absurd p
  under_through (Second a) Any (First c) p q = q
  under_through (Second a) (First b) (First c) p q = p
  under_through (Second a) (Second b) (First c) p q = q
  under_through Any Any (Second c) p q = q
  under_through Any (First b) (Second c) p q = p
  under_through Any (Second b) (Second c) p q = p
  under_through (First a) Any (Second c) p q = q
  under_through (First a) (First b) (Second c) p q = q
  under_through (First a) (Second b) (Second c) p q = p
  under_through (Second a) Any (Second c) p q = absurd q
  under_through (Second a) (First b) (Second c) p q = absurd p
  under_through (Second a) (Second b) (Second c) p q = lq.transitive a b c p q

  under_equal : (a b : Either P Q) → Under lp lq a b → Under lp lq b a → a ≡ b
  under_equal Any Any p q = refl
  under_equal Any (First b) p q = absurd p
  under_equal Any (Second b) p q = absurd p
  under_equal (First a) Any p q = absurd q
  under_equal (First a) (First b) p q = ap First (lp.antisymmetric a b p q)
  under_equal (First a) (Second b) p q = absurd p
  under_equal (Second a) Any p q = absurd q
  under_equal (Second a) (First b) p q = absurd p
  under_equal (Second a) (Second b) p q = ap Second (lq.antisymmetric a b p q)

  under_decided : (a b : Either P Q) → Under lp lq a b ⊎ (Under lp lq a b → ⊥)
  under_decided a Any = inl tt
  under_decided Any (First b) = inr (λ x. x)
  under_decided (First a) (First b) = lp.decided a b
  under_decided (Second a) (First b) = inr (λ x. x)
  under_decided Any (Second b) = inr (λ x. x)
  under_decided (First a) (Second b) = inr (λ x. x)
  under_decided (Second a) (Second b) = lq.decided a b

  form_reads : (k : Either P Q) → kind_of lp lq (form_of lp lq k) ≡ Some k
  form_reads Any = λ i. cond (unused_top lp i && unused_top lq i) (Some Any) None
  form_reads (First a) = λ i. cond (unused_top lq i) (option_map First (lp.reads a i)) None
  form_reads (Second b) = λ i. cond (unused_top lp i) (option_map Second (lq.reads b i)) None

  own_any : (f : F) (g : G) (k : Either P Q) (x y : Bool) → unused lp f ≡ x → unused lq g ≡ y → cond (x && y) (Some Any) None ≡ Some k → form_of lp lq k ≡ record { tag = 0; first = f; second = g }
  own_any f g k true true h j e =
      let a : Any ≡ k = cc in
      ap (form_of lp lq) (sym a) ∙ (λ i. record { tag = 0; first = unused_form lp f h i; second = unused_form lq g j i })
  own_any f g k true false h j e = none≢some k e
  own_any f g k false y h j e = none≢some k e

  own_first : (f : F) (g : G) (k : Either P Q) (y : Bool) → unused lq g ≡ y → cond y (option_map First (kind_p f)) None ≡ Some k → form_of lp lq k ≡ record { tag = 1; first = f; second = g }
  own_first f g k true j e =
      let t = image First (kind_p f) k e in
      ap (form_of lp lq) (sym t.1.1) ∙ (λ i. record { tag = 1; first = lp.own f t.0 t.1.0 i; second = unused_form lq g j i })
  own_first f g k false j e = none≢some k e

  own_second : (f : F) (g : G) (k : Either P Q) (x : Bool) → unused lp f ≡ x → cond x (option_map Second (kind_q g)) None ≡ Some k → form_of lp lq k ≡ record { tag = 2; first = f; second = g }
  own_second f g k true h e =
      let t = image Second (kind_q g) k e in
      ap (form_of lp lq) (sym t.1.1) ∙ (λ i. record { tag = 2; first = unused_form lp f h i; second = lq.own g t.0 t.1.0 i })
  own_second f g k false h e = none≢some k e

  own_tag : (n : ℕ) (f : F) (g : G) (k : Either P Q) → by_tag lp lq n f g ≡ Some k → form_of lp lq k ≡ record { tag = n; first = f; second = g }
  own_tag zero f g k e = own_any f g k (unused lp f) (unused lq g) refl refl e
  own_tag (suc zero) f g k e = own_first f g k (unused lq g) refl e
  own_tag (suc (suc zero)) f g k e = own_second f g k (unused lp f) refl e
  own_tag (suc (suc (suc n))) f g k e = none≢some k e

  pub either_laws : KindLaws (Under lp lq) Any (form_of lp lq) (kind_of lp lq)
  either_laws = record {
    reflexive = under_same;
    transitive = under_through;
    antisymmetric = under_equal;
    decided = under_decided;
    greatest = λ a. tt;
    reads = form_reads;
    own = λ f k e. own_tag f.tag f.first f.second k e;
  }

  module _ {common_p : P → P → Option P} {common_q : Q → Q → Option Q} (mp : MeetLaws below_p common_p) (mq : MeetLaws below_q common_q) where
    joint_left : (a b m : Either P Q) → joint common_p common_q a b ≡ Some m → Under lp lq m a
    joint_left Any b m e = tt
    joint_left (First a) Any m e = let g : First a ≡ m = cc in subst (λ (x : Either P Q). Under lp lq x (First a)) g (lp.reflexive a)
    joint_left (First a) (First b) m e =
        let t = image First (common_p a b) m e in
        subst (λ (x : Either P Q). Under lp lq x (First a)) t.1.1 (mp.left a b t.0 t.1.0)
    joint_left (First a) (Second b) m e = none≢some m e
    joint_left (Second a) Any m e = let g : Second a ≡ m = cc in subst (λ (x : Either P Q). Under lp lq x (Second a)) g (lq.reflexive a)
    joint_left (Second a) (First b) m e = none≢some m e
    joint_left (Second a) (Second b) m e =
        let t = image Second (common_q a b) m e in
        subst (λ (x : Either P Q). Under lp lq x (Second a)) t.1.1 (mq.left a b t.0 t.1.0)

    joint_right : (a b m : Either P Q) → joint common_p common_q a b ≡ Some m → Under lp lq m b
    joint_right Any b m e = let g : b ≡ m = cc in subst (λ (x : Either P Q). Under lp lq x b) g (under_same b)
    joint_right (First a) Any m e = tt
    joint_right (First a) (First b) m e =
        let t = image First (common_p a b) m e in
        subst (λ (x : Either P Q). Under lp lq x (First b)) t.1.1 (mp.right a b t.0 t.1.0)
    joint_right (First a) (Second b) m e = none≢some m e
    joint_right (Second a) Any m e = tt
    joint_right (Second a) (First b) m e = none≢some m e
    joint_right (Second a) (Second b) m e =
        let t = image Second (common_q a b) m e in
        subst (λ (x : Either P Q). Under lp lq x (Second b)) t.1.1 (mq.right a b t.0 t.1.0)

    joint_most : (a b m c : Either P Q) → joint common_p common_q a b ≡ Some m → Under lp lq c a → Under lp lq c b → Under lp lq c m
    joint_most Any b m c e p q = let g : b ≡ m = cc in subst (λ (x : Either P Q). Under lp lq c x) g q
    joint_most (First a) Any m c e p q = let g : First a ≡ m = cc in subst (λ (x : Either P Q). Under lp lq c x) g p
    joint_most (First a) (First b) m Any e p q = absurd p
    joint_most (First a) (First b) m (First c) e p q =
        let t = image First (common_p a b) m e in
        subst (λ (x : Either P Q). Under lp lq (First c) x) t.1.1 (mp.most a b t.0 c t.1.0 p q)
    joint_most (First a) (First b) m (Second c) e p q = absurd p
    joint_most (First a) (Second b) m c e p q = none≢some m e
    joint_most (Second a) Any m c e p q = let g : Second a ≡ m = cc in subst (λ (x : Either P Q). Under lp lq c x) g p
    joint_most (Second a) (First b) m c e p q = none≢some m e
    joint_most (Second a) (Second b) m Any e p q = absurd p
    joint_most (Second a) (Second b) m (First c) e p q = absurd p
    joint_most (Second a) (Second b) m (Second c) e p q =
        let t = image Second (common_q a b) m e in
        subst (λ (x : Either P Q). Under lp lq (Second c) x) t.1.1 (mq.most a b t.0 c t.1.0 p q)

    joint_none : (a b c : Either P Q) → joint common_p common_q a b ≡ None → Under lp lq c a → Under lp lq c b → ⊥
    joint_none Any b c e p q = some≢none b e
    joint_none (First a) Any c e p q = some≢none {X = Either P Q} (First a) e
    joint_none (First a) (First b) Any e p q = p
    joint_none (First a) (First b) (First c) e p q = mp.none a b c (no_image First (common_p a b) e) p q
    joint_none (First a) (First b) (Second c) e p q = p
    joint_none (First a) (Second b) Any e p q = p
    joint_none (First a) (Second b) (First c) e p q = q
    joint_none (First a) (Second b) (Second c) e p q = p
    joint_none (Second a) Any c e p q = some≢none {X = Either P Q} (Second a) e
    joint_none (Second a) (First b) Any e p q = p
    joint_none (Second a) (First b) (First c) e p q = p
    joint_none (Second a) (First b) (Second c) e p q = q
    joint_none (Second a) (Second b) Any e p q = p
    joint_none (Second a) (Second b) (First c) e p q = p
    joint_none (Second a) (Second b) (Second c) e p q = mq.none a b c (no_image Second (common_q a b) e) p q

    pub either_meets : MeetLaws (Under lp lq) (joint common_p common_q)
    either_meets = record { left = joint_left; right = joint_right; most = joint_most; none = joint_none }
