-- The laws that every type of kind keeps, in two records: those of the order and of the stored form, and those of the meet.
use Rattle.std.specs.Prelude.{◌≡◌, ◌⊎◌, Some, None, Option}
use Rattle.std.specs.Option.{unwrap_or}

pub record KindLaws {K F : Type 0} (below : K → K → Type 0) (top : K) (form : K → F) (kind : F → Option K) : Type 0 where
  -- "at or below" is an order, and it holds or it does not
  pub reflexive : (a : K) → below a a
  pub transitive : (a b c : K) → below a b → below b c → below a c
  pub antisymmetric : (a b : K) → below a b → below b a → a ≡ b
  pub decided : (a b : K) → below a b ⊎ (below a b → ⊥)
  -- every kind is at or below the greatest
  pub greatest : (a : K) → below a top
  -- a kind's stored form reads as that kind, and only its own form does
  pub reads : (k : K) → kind (form k) ≡ Some k
  pub own : (f : F) (k : K) → kind f ≡ Some k → form k ≡ f

pub record MeetLaws {K : Type 0} (below : K → K → Type 0) (common : K → K → Option K) : Type 0 where
  -- the meet is a kind at or below both, and every kind at or below both is at or below it
  pub left : (a b m : K) → common a b ≡ Some m → below m a
  pub right : (a b m : K) → common a b ≡ Some m → below m b
  pub most : (a b m c : K) → common a b ≡ Some m → below c a → below c b → below c m
  -- there is none only where no kind is at or below both
  pub none : (a b c : K) → common a b ≡ None → below c a → below c b → ⊥

module _ {K F : Type 0} {below : K → K → Type 0} {top : K} {form : K → F} {kind : F → Option K} (laws : KindLaws below top form kind) where
  -- the kind that a record with this form holds
  abbrev pub loaded : F → K
  loaded f = unwrap_or (kind f) top
