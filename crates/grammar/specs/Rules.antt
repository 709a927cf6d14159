-- The rules that a token can break, by what it stands for, and those that the end of the line can break: for each its number, its
-- byte, and whether it is broken.
use Rattle.std.specs.Prelude.{◌≡◌, ℕ, Bool, true, false, cond, not, ◌&&◌, ◌⊎◌, List, [], ◌∷◌, length, ℤ, is_some, Some, None, Option, int_lt, nat_lt}
use Rattle.names.specs.Names as names
use Rattle.tokens.specs.Tokens.{Tok}
use Rattle.reading.specs.declared.draft.Tag.{Tag}
use Rattle.reading.specs.declared.draft.Bracket.{Bracket}
use Rattle.reading.specs.declared.draft.Mode.{Mode}
use Rattle.reading.specs.declared.draft.Mode.TheVariants.{Begin, Opened, Hashed, Tagged, Low, Dotted, High, Ranged, Inside, Done}
use Rattle.reading.specs.declared.draft.Place.{Place}
use Rattle.reading.specs.declared.draft.Slot.{Slot}
use Rattle.reading.specs.declared.draft.Target.{Target}
use Rattle.reading.specs.declared.draft.Target.TheVariants.{To, ByTag}
use Rattle.reading.specs.Drafts.{Draft, described, named}
use Rattle.reading.specs.Steps as steps
use Rattle.reading.specs.Steps.{Step, go, fault, on_mark, on_word, on_number, no_kind_ahead, step, end_in}

-- ---- what a token stands for

pub data Role : Type 0 where
  plain : Role  -- a round bracket, a hash sign, dots, LOW
  tag_number : ℤ → Role  -- N of #N
  kind_word : Option Tag → List ℕ → Role  -- a word as KIND, after a tag or none
  range_first : Option Tag → Role  -- the square bracket that begins a KIND, after a tag or none
  range_end : ℤ → ℤ → Role  -- HIGH, after LOW
  range_last : Bracket → ℤ → ℤ → Role  -- the square bracket that ends a KIND, after the one that begins it, LOW and HIGH
  slot_name : List ℕ → Role  -- NAME
  stray : Role  -- the grammar does not allow it

-- KIND begins, or else the token does not belong there
abbrev pub kind_role : Option Tag → Tok → Role
kind_role g x = on_word x (kind_word g) (on_mark 91 x (range_first g) stray)

-- by what was read last
abbrev pub role_of : Mode → Tok → Role
role_of Begin x = on_mark 40 x plain stray
role_of Opened x = on_mark 35 x plain (kind_role None x)
role_of Hashed x = on_number x tag_number stray
role_of (Tagged t) x = on_mark 41 x plain (kind_role (Some t) x)
role_of (Low o) x = on_number x (λ a. plain) stray
role_of (Dotted o a) x = on_mark 46 x plain stray
role_of (High o a) x = on_number x (range_end a) stray
role_of (Ranged o a h) x = on_mark 93 x (range_last o a h) stray
role_of Inside x = on_word x slot_name (on_mark 41 x plain stray)
role_of (Done r) x = stray

-- ---- the rules

pub record Rule : Type 0 where
  pub answer : ℕ
  pub byte : ℕ
  pub broken : Bool

abbrev pub rule : ℕ → ℕ → Bool → Rule
rule n b q = record { answer = n; byte = b; broken = q }

-- one of the rules is broken, with this number and this byte
abbrev pub Broken : List Rule → ℕ → ℕ → Type 0
Broken [] n b = ⊥
Broken (r ∷ rs) n b = ((r.broken ≡ true) × (r.answer ≡ n) × (r.byte ≡ b)) ⊎ Broken rs n b

-- no rule is broken
abbrev pub Kept : List Rule → Type 0
Kept [] = Unit {0}
Kept (r ∷ rs) = (r.broken ≡ false) × Kept rs

module _ {K : Type 0} where
  -- there is room for a place, or for a slot, more
  abbrev pub place_room : ℕ → Draft K → Bool
  place_room pl d = nat_lt (length d.places) pl

  abbrev pub slot_room : ℕ → Draft K → Bool
  slot_room sl d = nat_lt (length d.slots) sl

  -- a tag is described once: 25 at its number
  abbrev pub once : Option Tag → Draft K → List Rule → List Rule
  once None d rest = rest
  once (Some t) d rest = rule 25 t.byte (described d.places t.number) ∷ rest

  -- a tag that a slot refers to is described: 26 at its number
  abbrev pub referred_by : Target → List (Place K) → List Rule → List Rule
  referred_by (To p) ps rest = rest
  referred_by (ByTag t) ps rest = rule 26 t.byte (not (described ps t.number)) ∷ rest

  abbrev pub referred : List Slot → List (Place K) → List Rule
  referred [] ps = []
  referred (s ∷ ss) ps = referred_by s.target ps (referred ss ps)

  -- the line ends at byte b after the draft d: the place has ended, and every tag referred to is described
  abbrev pub end_rules : Mode → Draft K → ℕ → List Rule
  end_rules Begin d b = rule 20 b true ∷ []
  end_rules Opened d b = rule 20 b true ∷ []
  end_rules Hashed d b = rule 20 b true ∷ []
  end_rules (Tagged t) d b = rule 20 b true ∷ []
  end_rules (Low o) d b = rule 20 b true ∷ []
  end_rules (Dotted o a) d b = rule 20 b true ∷ []
  end_rules (High o a) d b = rule 20 b true ∷ []
  end_rules (Ranged o a h) d b = rule 20 b true ∷ []
  end_rules Inside d b = rule 20 b true ∷ []
  end_rules (Done None) d b = referred d.slots d.places
  end_rules (Done (Some t)) d b = rule 26 t.byte true ∷ []

  module _ (words : List ℕ → Option K) (ranges : ℤ → ℤ → Option K) where
    -- the rules of a token of the line from byte b up to j, after the draft d, in the order of their bytes and at one byte of their
    -- numbers; pl and sl are the most places and slots. A range that is no kind is 21 at its first bracket: that is known where its
    -- last bracket stands, and already at the first one where there is no room for a place, so that 21 comes before 28
    abbrev pub rules : ℕ → ℕ → List ℕ → Draft K → ℕ → ℕ → Role → List Rule
    rules pl sl line d b j plain = []
    rules pl sl line d b j (tag_number n) = rule 27 b (not (is_some (steps.tag_number n))) ∷ []
    rules pl sl line d b j (kind_word g w) = once g d (rule 21 b (not (is_some (words w))) ∷ rule 28 b (not (place_room pl d)) ∷ [])
    rules pl sl line d b j (range_first g) =
        once g d (rule 21 b (not (place_room pl d) && no_kind_ahead words ranges line j) ∷ rule 28 b (not (place_room pl d)) ∷ [])
    rules pl sl line d b j (range_end a h) = rule 22 b (int_lt h a) ∷ []
    rules pl sl line d b j (range_last o a h) = rule 21 o.byte (not (is_some (ranges a h))) ∷ rule 28 o.byte (not (place_room pl d)) ∷ []
    rules pl sl line d b j (slot_name w) =
        rule 23 b (nat_lt 12 (length w)) ∷
        rule 24 b (named d.slots d.top (names.number w)) ∷
        rule 28 b (not (slot_room sl d)) ∷ []
    rules pl sl line d b j stray = rule 20 b true ∷ []

-- ---- the reader goes by the rules

module _ {K : Type 0} where
  -- the first rule that is broken is answered; where none is, that is s
  abbrev pub first : List Rule → Step K → Step K
  first [] s = s
  first (r ∷ rs) s = cond r.broken (fault r.answer r.byte) (first rs s)

  abbrev pub Taken : Step K → Type 0
  Taken (go d) = Unit {0}
  Taken (fault n c) = ⊥

-- the answer to a token is the first of its rules that is broken; where none is, the token is taken
abbrev pub ByRules : Type 0 → Type 0
ByRules K = (words : List ℕ → Option K) (ranges : ℤ → ℤ → Option K) (pl sl : ℕ) (line : List ℕ) (d : Draft K) (x : Tok) (b j : ℕ) → (s : Step K) × (Taken s × (step words ranges pl sl line d x b j ≡ first (rules words ranges pl sl line d b j (role_of d.mode x)) s))

-- and so it is with the end of the line
abbrev pub EndByRules : Type 0 → Type 0
EndByRules K = (d : Draft K) (b : ℕ) → end_in d.mode d b ≡ first (end_rules d.mode d b) (go d)
