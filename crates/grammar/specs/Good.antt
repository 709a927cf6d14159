-- Which terms are good. Each part of a term is held against the lists of what the text has described before it.
use Rattle.std.specs.Prelude.{◌≡◌, ℕ, ◌<◌, ◌≤◌, false, ◌⊎◌, List, [], ◌∷◌, length, ℤ, pos, Some, None, Option, ◌≢◌, int_lt}
use Rattle.names.specs.Names as names
use Rattle.grammar.specs.Terms.{Kind, named, range, Term, ref, node, Slots, none, slot}
use Rattle.grammar.specs.Described.{Item, Lead, place, tagged, Link, Lists, lead_of, nothing, with_place, with_slot, kind_of, laid, described_by}

-- tags are 1 to 99
pub record IsTag (g : ℤ) : Type 0 where
  pub number : ℕ
  pub is : g ≡ pos number
  pub least : 1 ≤ number
  pub most : number ≤ 99

-- no slot of place p has the name of this number
abbrev pub NewName : ℕ → ℕ → List Link → Type 0
NewName p n [] = Unit {0}
NewName p n (x ∷ xs) = (x.owner ≡ p → x.name ≢ n) × NewName p n xs

-- LOW is not above HIGH
abbrev pub GoodRange : Kind → Type 0
GoodRange (named w) = Unit {0}
GoodRange (range a h) = int_lt h a ≡ false

module _ {K : Type 0} where
  -- no place has the tag
  abbrev pub NewTag : ℤ → List (Item K) → Type 0
  NewTag g [] = Unit {0}
  NewTag g (x ∷ xs) = (x.tag ≢ Some g) × NewTag g xs

  -- some place has the tag
  abbrev pub HasTag : ℤ → List (Item K) → Type 0
  HasTag g [] = ⊥
  HasTag g (x ∷ xs) = (x.tag ≡ Some g) ⊎ HasTag g xs

  -- a tag that is described is one, and is new
  abbrev pub GoodTag : Option ℤ → List (Item K) → Type 0
  GoodTag None l = Unit {0}
  GoodTag (Some g) l = IsTag g × NewTag g l

  -- where a slot leads by a tag, some place has that tag
  abbrev pub GoodLead : Lead → List (Item K) → Type 0
  GoodLead (place p) l = Unit {0}
  GoodLead (tagged g) l = HasTag g l

  -- and so of each slot
  abbrev pub GoodLeads : List Link → List (Item K) → Type 0
  GoodLeads [] l = Unit {0}
  GoodLeads (x ∷ xs) l = GoodLead x.lead l × GoodLeads xs l

  module _ (words : List ℕ → Option K) (ranges : ℤ → ℤ → Option K) (pl sl : ℕ) where
    abbrev mutual
      -- a term in the brackets of place p, after what the lists have: tags are tags and new, kinds are kinds, and there is room
      pub GoodTerm : Term → ℕ → Lists K → Type 0
      GoodTerm (ref g) p l = IsTag g
      GoodTerm (node g k ss) p l =
          GoodTag g l.places × GoodRange k × ((x : K) × (kind_of words ranges k ≡ Some x)) × (length l.places < pl)
          × GoodSlots ss (length l.places) (with_place (kind_of words ranges k) p g l)

      -- the slots of place p: names have at most 12 bytes and are new there, and there is room
      pub GoodSlots : Slots → ℕ → Lists K → Type 0
      GoodSlots none p l = Unit {0}
      GoodSlots (slot w t ss) p l =
          (length w ≤ 12) × NewName p (names.number w) l.slots × (length l.slots < sl)
          × GoodTerm t p (with_slot p w t l)
          × GoodSlots ss p (laid words ranges t p (with_slot p w t l))

    -- a term that is a whole line, where every tag referred to is described
    pub record Good (t : Term) : Type 0 where
      pub parts : GoodTerm t 0 nothing
      pub root : GoodLead (lead_of t 0) (described_by words ranges t).places
      pub leads : GoodLeads (described_by words ranges t).slots (described_by words ranges t).places
