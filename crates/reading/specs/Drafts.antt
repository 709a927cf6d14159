-- What has been read of a line: the places that it describes and the slots that it names, in the order of the text.
use Rattle.std.specs.Prelude.{ℕ, Bool, false, ◌&&◌, ◌||◌, List, [], ◌∷◌, map, Some, None, Option, ◌==◌, slice_index, slice_index_or}
use Rattle.reading.specs.declared.draft.Tag.{Tag}
use Rattle.reading.specs.declared.draft.Place.{Place}
use Rattle.reading.specs.declared.draft.Slot.{Slot}
use Rattle.reading.specs.declared.draft.Target.TheVariants.{To}
use Rattle.reading.specs.declared.draft.Mode.{Mode}
use Rattle.reading.specs.declared.draft.Mode.TheVariants.{Begin}

-- the mode, the innermost open place, the places and the slots
pub record Draft (K : Type 0) : Type 0 where
  pub mode : Mode
  pub top : ℕ
  pub places : List (Place K)
  pub slots : List Slot

-- nothing has been read
abbrev pub nothing : {K : Type 0} → Draft K
nothing = record { mode = Begin; top = 0; places = []; slots = [] }

-- some element passes the test
abbrev pub any_of : {X : Type 0} → (X → Bool) → List X → Bool
any_of p [] = false
any_of p (x ∷ xs) = p x || any_of p xs

-- the tag has this number
abbrev pub numbered : Option Tag → ℕ → Bool
numbered None n = false
numbered (Some t) n = t.number == n

-- one of the places describes the tag of this number
abbrev pub described : {K : Type 0} → List (Place K) → ℕ → Bool
described ps n = any_of (λ p. numbered p.tag n) ps

-- the place p has a slot whose name has this number
abbrev pub named : List Slot → ℕ → ℕ → Bool
named ss p n = any_of (λ s. (s.owner == p) && s.name == n) ss

-- the place in whose brackets the place p stands, its tag, and its kind, with d past the last place
abbrev pub parent_at : {K : Type 0} → List (Place K) → ℕ → ℕ
parent_at ps p = slice_index (map (λ x. x.parent) ps) p

abbrev pub tag_at : {K : Type 0} → List (Place K) → ℕ → Option Tag
tag_at ps p = slice_index_or (map (λ x. x.tag) ps) p None

abbrev pub kind_at : {K : Type 0} → K → List (Place K) → ℕ → K
kind_at d ps p = slice_index_or (map (λ x. x.kind) ps) p d

-- the slot i
abbrev pub no_slot : Slot
no_slot = record { owner = 0; name = 0; target = To 0 }

abbrev pub slot_at : List Slot → ℕ → Slot
slot_at ss i = slice_index_or ss i no_slot
