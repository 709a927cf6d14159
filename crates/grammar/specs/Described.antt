-- What a term describes: its places and its slots, as lists in the order of the text.
use Rattle.std.specs.Prelude.{ℕ, List, [], ◌∷◌, ◌++◌, map, length, ℤ, pos, Some, None, Option}
use Rattle.names.specs.Names as names
use Rattle.reading.specs.declared.draft.Tag.{Tag}
use Rattle.reading.specs.declared.draft.Place.{Place}
use Rattle.reading.specs.declared.draft.Slot.{Slot}
use Rattle.reading.specs.declared.draft.Target.{Target}
use Rattle.reading.specs.declared.draft.Target.TheVariants.{To, ByTag}
use Rattle.reading.specs.Drafts.{Draft}
use Rattle.grammar.specs.Terms.{Kind, named, range, Term, ref, node, Slots, none, slot}

-- a place: its kind, if it has one, the number of the place in whose brackets it stands, and its tag
pub record Item (K : Type 0) : Type 0 where
  pub kind : Option K
  pub parent : ℕ
  pub tag : Option ℤ

-- where a slot leads: to the place of a number, or to the one that a tag describes
pub data Lead : Type 0 where
  place : ℕ → Lead
  tagged : ℤ → Lead

-- a slot: the number of the place that has it, the number of its name, and where it leads
pub record Link : Type 0 where
  pub owner : ℕ
  pub name : ℕ
  pub lead : Lead

pub record Lists (K : Type 0) : Type 0 where
  pub places : List (Item K)
  pub slots : List Link

-- what a slot before a term leads to, where n places have been described
abbrev pub lead_of : Term → ℕ → Lead
lead_of (ref g) n = tagged g
lead_of (node g k ss) n = place n

module _ {K : Type 0} where
  abbrev pub nothing : Lists K
  nothing = record { places = []; slots = [] }

  -- one place more, in the brackets of place p
  abbrev pub with_place : Option K → ℕ → Option ℤ → Lists K → Lists K
  with_place k p g l = record { places = l.places ++ (record { kind = k; parent = p; tag = g } ∷ []); slots = l.slots }

  -- one slot more of place p, with the name w, before the term t
  abbrev pub with_slot : ℕ → List ℕ → Term → Lists K → Lists K
  with_slot p w t l = record { places = l.places; slots = l.slots ++ (record { owner = p; name = names.number w; lead = lead_of t (length l.places) } ∷ []) }

  module _ (words : List ℕ → Option K) (ranges : ℤ → ℤ → Option K) where
    abbrev pub kind_of : Kind → Option K
    kind_of (named w) = words w
    kind_of (range a h) = ranges a h

    abbrev mutual
      -- the lists, and after them what a term in the brackets of place p describes: a reference describes nothing
      pub laid : Term → ℕ → Lists K → Lists K
      laid (ref g) p l = l
      laid (node g k ss) p l = laid_slots ss (length l.places) (with_place (kind_of k) p g l)

      -- the lists, and after them the slots of place p, each with what its term describes
      pub laid_slots : Slots → ℕ → Lists K → Lists K
      laid_slots none p l = l
      laid_slots (slot w t ss) p l = laid_slots ss p (laid t p (with_slot p w t l))

    -- what a term that is the whole line describes
    abbrev pub described_by : Term → Lists K
    described_by t = laid t 0 nothing

-- what a draft lists, but for the bytes of its tags
abbrev pub tag_of : Option Tag → Option ℤ
tag_of None = None
tag_of (Some t) = Some (pos t.number)

abbrev pub item_of : {K : Type 0} → Place K → Item K
item_of p = record { kind = Some p.kind; parent = p.parent; tag = tag_of p.tag }

abbrev pub lead_to : Target → Lead
lead_to (To p) = place p
lead_to (ByTag t) = tagged (pos t.number)

abbrev pub link_of : Slot → Link
link_of s = record { owner = s.owner; name = s.name; lead = lead_to s.target }

abbrev pub listed : {K : Type 0} → Draft K → Lists K
listed d = record { places = map item_of d.places; slots = map link_of d.slots }
