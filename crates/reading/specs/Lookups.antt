-- What is kept beside a draft so that nothing has to be looked for: by tag whether it is described, and the slots of each place as
-- a list from the newest back.
use Rattle.std.specs.Prelude.{◌≡◌, ℕ, ◌+◌, ◌<◌, ◌≤◌, Bool, true, false, cond, List, [], ◌∷◌, length, replicate, Some, None, Option, ◌≢◌, slice_index_or, slice_set}
use Rattle.std.specs.Option.{option_or}
use Rattle.reading.specs.declared.draft.Tag.{Tag}
use Rattle.reading.specs.declared.draft.Target.{Target}
use Rattle.reading.specs.declared.draft.Target.TheVariants.{To, ByTag}
use Rattle.reading.specs.declared.draft.Place.{Place}
use Rattle.reading.specs.declared.draft.Slot.{Slot}
use Rattle.reading.specs.declared.drafting.lookup.Lookup.{Lookup}
use Rattle.reading.specs.Drafts.{described, slot_at}

-- ---- tags, by their numbers

-- the tag is marked as described
abbrev pub marked : Option Tag → List Bool → List Bool
marked None tags = tags
marked (Some t) tags = slice_set tags t.number true

-- the number of a tag has a place in the table
abbrev pub Small : Option Tag → Type 0
Small None = Unit {0}
Small (Some t) = t.number < 256

-- the byte of a tag that is marked
abbrev pub marked_at : Option Tag → List Bool → Option ℕ
marked_at None tags = None
marked_at (Some t) tags = cond (slice_index_or tags t.number false) (Some t.byte) None

-- the byte of the first reference to a tag that is not marked
abbrev pub unmarked_at : Target → List Bool → Option ℕ
unmarked_at (To p) tags = None
unmarked_at (ByTag t) tags = cond (slice_index_or tags t.number false) None (Some t.byte)

abbrev pub unmarked : List Slot → List Bool → Option ℕ
unmarked [] tags = None
unmarked (s ∷ ss) tags = option_or (unmarked_at s.target tags) (unmarked ss tags)

-- exactly the tags that the places describe are marked
pub record Marks {K : Type 0} (ps : List (Place K)) (tags : List Bool) : Type 0 where
  pub size : length tags ≡ 256
  pub same : (n : ℕ) → slice_index_or tags n false ≡ described ps n

-- ---- slots, by their places

-- how many slots there are up to this one
abbrev pub up_to : Option ℕ → ℕ
up_to None = 0
up_to (Some i) = i + 1

-- of the first b slots, o is the newest of the place p
pub record Newest (owner : ℕ → ℕ) (p b : ℕ) (o : Option ℕ) : Type 0 where
  pub before : up_to o ≤ b
  pub its : (i : ℕ) → o ≡ Some i → owner i ≡ p
  pub gap : (y : ℕ) → up_to o ≤ y → y < b → owner y ≢ p

-- the place that has the slot
abbrev pub owner_at : List Slot → ℕ → ℕ
owner_at ss i = (slot_at ss i).owner

-- n slots are listed: the newest of each place, and before each slot the one of the same place
pub record Listed (owner : ℕ → ℕ) (n : ℕ) (newest earlier : List (Option ℕ)) : Type 0 where
  pub places : length newest ≡ 1000
  pub slots : length earlier ≡ 4000
  pub starts : (p : ℕ) → p < 1000 → Newest owner p n (slice_index_or newest p None)
  pub steps : (i : ℕ) → i < n → Newest owner (owner i) i (slice_index_or earlier i None)

-- the look-up stands for these places and slots
pub record Looks {K : Type 0} (ps : List (Place K)) (ss : List Slot) (look : Lookup) : Type 0 where
  pub tags : Marks ps look.described
  pub lists : Listed (owner_at ss) (length ss) look.newest look.earlier

-- nothing is described, and there is no slot
pub record Fresh (look : Lookup) : Type 0 where
  pub described : look.described ≡ replicate 256 false
  pub newest : look.newest ≡ replicate 1000 None
  pub earlier : look.earlier ≡ replicate 4000 None
