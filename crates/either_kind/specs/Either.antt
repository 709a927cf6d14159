-- Either of two types of kind: the order, the meet and the stored form.
use Rattle.std.specs.Prelude.{ℕ, zero, suc, Bool, true, false, cond, ◌&&◌, ◌⊎◌, List, Some, None, Option}
use Rattle.std.proofs.Common.{inl, inr}
use Rattle.std.specs.Option.{option_map}
use Rattle.kinds.specs.Laws.{KindLaws}
use Rattle.either_kind.specs.declared.either.Either.{Either}
use Rattle.either_kind.specs.declared.either.Either.TheVariants.{Any, First, Second}
use Rattle.either_kind.specs.declared.either.EitherForm.{EitherForm}

abbrev pub holds : {X : Type 0} → X ⊎ (X → ⊥) → Bool
holds (inl h) = true
holds (inr out) = false

module _ {K F : Type 0} {below : K → K → Type 0} {top : K} {form : K → F} {kind : F → Option K} (laws : KindLaws below top form kind) where
  -- the kind that was read is the greatest
  abbrev pub is_greatest : Option K → Bool
  is_greatest None = false
  is_greatest (Some k) = holds (laws.decided top k)

  -- the form is the greatest kind's, as a part that is not in use has it
  abbrev pub unused : F → Bool
  unused f = is_greatest (kind f)

-- a first and a first meet as firsts do, and so do two seconds; a first and a second have no meet
abbrev pub joint : {P Q : Type 0} → (P → P → Option P) → (Q → Q → Option Q) → Either P Q → Either P Q → Option (Either P Q)
joint common_p common_q Any y = Some y
joint common_p common_q (First a) Any = Some (First a)
joint common_p common_q (First a) (First b) = option_map First (common_p a b)
joint common_p common_q (First a) (Second b) = None
joint common_p common_q (Second a) Any = Some (Second a)
joint common_p common_q (Second a) (First b) = None
joint common_p common_q (Second a) (Second b) = option_map Second (common_q a b)

-- what is printed: a text of its own for any, and else what is printed for the kind of the part
abbrev pub printed : {P Q : Type 0} → List ℕ → (P → Option (List ℕ)) → (Q → Option (List ℕ)) → Either P Q → Option (List ℕ)
printed any first second Any = Some any
printed any first second (First a) = first a
printed any first second (Second b) = second b

module _ {P F : Type 0} {below_p : P → P → Type 0} {top_p : P} {form_p : P → F} {kind_p : F → Option P} (lp : KindLaws below_p top_p form_p kind_p)
    {Q G : Type 0} {below_q : Q → Q → Type 0} {top_q : Q} {form_q : Q → G} {kind_q : G → Option Q} (lq : KindLaws below_q top_q form_q kind_q) where
  -- all is under any; firsts keep their order, and so do seconds; a first and a second are not ordered
  abbrev pub Under : Either P Q → Either P Q → Type 0
  Under x Any = Unit {0}
  Under Any (First b) = ⊥
  Under (First a) (First b) = below_p a b
  Under (Second a) (First b) = ⊥
  Under Any (Second b) = ⊥
  Under (First a) (Second b) = ⊥
  Under (Second a) (Second b) = below_q a b

  -- the stored form of each kind
  abbrev pub form_of : Either P Q → EitherForm F G
  form_of Any = record { tag = 0; first = form_p top_p; second = form_q top_q }
  form_of (First a) = record { tag = 1; first = form_p a; second = form_q top_q }
  form_of (Second b) = record { tag = 2; first = form_p top_p; second = form_q b }

  -- the kind whose form this is: the part in use is a kind's form, and a part not in use is the greatest's
  abbrev pub by_tag : ℕ → F → G → Option (Either P Q)
  by_tag zero f g = cond (unused lp f && unused lq g) (Some Any) None
  by_tag (suc zero) f g = cond (unused lq g) (option_map First (kind_p f)) None
  by_tag (suc (suc zero)) f g = cond (unused lp f) (option_map Second (kind_q g)) None
  by_tag (suc (suc (suc n))) f g = None

  abbrev pub kind_of : EitherForm F G → Option (Either P Q)
  kind_of e = by_tag e.tag e.first e.second
