-- What a text of one place describes, and how it is spelt in tokens.
use Rattle.std.specs.Prelude.{ℕ, List, ◌∷◌, ℤ, Some, None, Option}
use Rattle.tokens.specs.Tokens.{Tok, mark, word, number}

-- KIND: a word, or a range with its low and its high end
pub data Kind : Type 0 where
  named : List ℕ → Kind
  range : ℤ → ℤ → Kind

mutual
  -- PLACE: the place that a tag describes, or a place with a tag or none, a kind and its slots
  pub data Term : Type 0 where
    ref : ℤ → Term
    node : Option ℤ → Kind → Slots → Term

  -- { NAME PLACE }
  pub data Slots : Type 0 where
    none : Slots
    slot : List ℕ → Term → Slots → Slots

-- each is spelt in front of the tokens that follow it: ( is 40, ) is 41, # is 35, [ is 91, .. is 46 and ] is 93
abbrev pub spell_tag : Option ℤ → List Tok → List Tok
spell_tag None rest = rest
spell_tag (Some n) rest = mark 35 ∷ number n ∷ rest

abbrev pub spell_kind : Kind → List Tok → List Tok
spell_kind (named w) rest = word w ∷ rest
spell_kind (range a h) rest = mark 91 ∷ number a ∷ mark 46 ∷ number h ∷ mark 93 ∷ rest

abbrev mutual
  pub spell : Term → List Tok → List Tok
  spell (ref n) rest = mark 40 ∷ mark 35 ∷ number n ∷ mark 41 ∷ rest
  spell (node g k ss) rest = mark 40 ∷ spell_tag g (spell_kind k (spell_slots ss (mark 41 ∷ rest)))

  pub spell_slots : Slots → List Tok → List Tok
  spell_slots none rest = rest
  spell_slots (slot w t ss) rest = word w ∷ spell t (spell_slots ss rest)
