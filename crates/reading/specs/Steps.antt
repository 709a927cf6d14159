-- What one token does to a draft, and what a line of one place reads as: a draft, or a refusal with its number and its byte.
use Rattle.std.specs.Prelude.{ℕ, zero, suc, ◌-◌, Bool, false, cond, not, ◌&&◌, List, [], ◌∷◌, ◌++◌, length, ℤ, pos, negsuc, is_some, Some, None, Option, ◌==◌, int_lt, nat_lt, slice_set}
use Rattle.std.specs.Option.{option_or}
use Rattle.std.specs.Int.{is_in_range}
use Rattle.names.specs.Names as names
use Rattle.tokens.specs.Tokens.{Tok, mark, word, number, Next, finish, token, refusal, next_token}
use Rattle.reading.specs.declared.draft.Tag.{Tag}
use Rattle.reading.specs.declared.draft.Bracket.{Bracket}
use Rattle.reading.specs.declared.draft.Mode.{Mode}
use Rattle.reading.specs.declared.draft.Mode.TheVariants.{Begin, Opened, Hashed, Tagged, Low, Dotted, High, Ranged, Inside, Done}
use Rattle.reading.specs.declared.draft.Place.{Place}
use Rattle.reading.specs.declared.draft.Target.{Target}
use Rattle.reading.specs.declared.draft.Target.TheVariants.{To, ByTag}
use Rattle.reading.specs.declared.draft.Slot.{Slot}
use Rattle.reading.specs.Drafts.{Draft, nothing, described, named, parent_at, slot_at}

-- what came of a token or of a line: a draft, or a refusal with its number and its byte
pub data Step (K : Type 0) : Type 0 where
  go : Draft K → Step K
  fault : ℕ → ℕ → Step K

-- ---- which token it is

abbrev pub on_mark : {X : Type 0} → ℕ → Tok → X → X → X
on_mark c (mark b) is other = cond (b == c) is other
on_mark c (word w) is other = other
on_mark c (number n) is other = other

abbrev pub on_word : {X : Type 0} → Tok → (List ℕ → X) → X → X
on_word (mark b) is other = other
on_word (word w) is other = is w
on_word (number n) is other = other

abbrev pub on_number : {X : Type 0} → Tok → (ℤ → X) → X → X
on_number (mark b) is other = other
on_number (word w) is other = other
on_number (number n) is other = is n

abbrev pub on_some : {A X : Type 0} → Option A → (A → X) → X → X
on_some None f other = other
on_some (Some a) f other = f a

abbrev pub on_next : {X : Type 0} → Next → X → (Tok → ℕ → ℕ → X) → (ℕ → ℕ → X) → X
on_next finish end next refused = end
on_next (token x i j) end next refused = next x i j
on_next (refusal n b) end next refused = refused n b

-- ---- tags

-- tags are 1 to 99
abbrev pub tag_number : ℤ → Option ℕ
tag_number (pos n) = cond (is_in_range 1 99 n) (Some n) None
tag_number (negsuc n) = None

-- the byte of a tag that some place describes already
abbrev pub described_at : {K : Type 0} → Option Tag → List (Place K) → Option ℕ
described_at None ps = None
described_at (Some t) ps = cond (described ps t.number) (Some t.byte) None

-- the byte of the first reference to a tag that no place describes
abbrev pub undescribed_at : {K : Type 0} → Target → List (Place K) → Option ℕ
undescribed_at (To p) ps = None
undescribed_at (ByTag t) ps = cond (described ps t.number) None (Some t.byte)

abbrev pub undescribed : {K : Type 0} → List Slot → List (Place K) → Option ℕ
undescribed [] ps = None
undescribed (s ∷ ss) ps = option_or (undescribed_at s.target ps) (undescribed ss ps)

-- the last slot leads to the place that a tag describes
abbrev pub by_tag : List Slot → Tag → List Slot
by_tag ss t = slice_set ss (length ss - 1) (record { owner = (slot_at ss (length ss - 1)).owner; name = (slot_at ss (length ss - 1)).name; target = ByTag t })

module _ {K : Type 0} where
  -- the draft as it is, in another mode
  abbrev pub moved : Mode → Draft K → Step K
  moved m d = go (record { mode = m; top = d.top; places = d.places; slots = d.slots })

  -- a tag that is described is described for the first time: 25 at its number
  abbrev pub once : Option Tag → Draft K → Step K → Step K
  once g d next = on_some (described_at g d.places) (fault 25) next

  -- one place more, of kind k, inside the innermost open place; 28 at b where there is no room for it
  abbrev pub describe : ℕ → Option Tag → K → Draft K → ℕ → Step K
  describe room g k d b =
      cond (nat_lt (length d.places) room)
      (go (record { mode = Inside; top = length d.places; places = d.places ++ (record { kind = k; parent = d.top; tag = g } ∷ []); slots = d.slots }))
      (fault 28 b)

  -- the innermost open place ends
  abbrev pub close : Draft K → Step K
  close d =
      cond (d.top == 0) (moved (Done None) d)
      (go (record { mode = Inside; top = parent_at d.places d.top; places = d.places; slots = d.slots }))

  -- a place is the one that a tag describes: the last slot leads there, and without a slot the whole line is the reference
  abbrev pub refer : Tag → Draft K → Step K
  refer t d =
      cond (length d.slots == 0) (moved (Done (Some t)) d)
      (go (record { mode = Inside; top = d.top; places = d.places; slots = by_tag d.slots t }))

  -- one slot more of the innermost open place, which leads to the place that is described next: 23 where the word is too long for a
  -- name, 24 where the place has that name already, 28 where there is no room
  abbrev pub slot_named : ℕ → List ℕ → Draft K → ℕ → Step K
  slot_named room w d b =
      cond (nat_lt 12 (length w)) (fault 23 b)
      (cond (named d.slots d.top (names.number w)) (fault 24 b)
      (cond (nat_lt (length d.slots) room)
      (go (record { mode = Begin; top = d.top; places = d.places; slots = d.slots ++ (record { owner = d.top; name = names.number w; target = To (length d.places) } ∷ []) }))
      (fault 28 b)))

  -- the high end h of a range with the low end a: 22 where it is below
  abbrev pub range_end : Bracket → ℤ → ℤ → Draft K → ℕ → Step K
  range_end open₁ a h d b = cond (int_lt h a) (fault 22 b) (moved (Ranged open₁ a h) d)

  -- the line ends at byte b: 20 where the place has not ended, 26 where a tag was referred to and never described
  abbrev pub end_in : Mode → Draft K → ℕ → Step K
  end_in Begin d b = fault 20 b
  end_in Opened d b = fault 20 b
  end_in Hashed d b = fault 20 b
  end_in (Tagged t) d b = fault 20 b
  end_in (Low o) d b = fault 20 b
  end_in (Dotted o a) d b = fault 20 b
  end_in (High o a) d b = fault 20 b
  end_in (Ranged o a h) d b = fault 20 b
  end_in Inside d b = fault 20 b
  end_in (Done None) d b = on_some (undescribed d.slots d.places) (fault 26) (go d)
  end_in (Done (Some t)) d b = fault 26 t.byte

  abbrev pub on_step : Step K → (Draft K → Step K) → Step K
  on_step (go d) f = f d
  on_step (fault n b) f = fault n b

  -- ---- under a vocabulary: the kinds of words and of ranges

  module _ (words : List ℕ → Option K) (ranges : ℤ → ℤ → Option K) where
    -- the tokens of the line from a byte on are LOW, two dots, HIGH and a bracket, LOW is not above HIGH, and that range is no kind
    abbrev pub no_kind_ahead : List ℕ → ℕ → Bool
    no_kind_ahead line j =
        on_next (next_token line j) false (λ x₁ i₁ j₁. on_number x₁ (λ a.
        on_next (next_token line j₁) false (λ x₂ i₂ j₂. on_mark 46 x₂
        (on_next (next_token line j₂) false (λ x₃ i₃ j₃. on_number x₃ (λ h.
        on_next (next_token line j₃) false (λ x₄ i₄ j₄. on_mark 93 x₄ (not (int_lt h a) && not (is_some (ranges a h))) false) (λ n b. false)) false) (λ n b. false)) false) (λ n b. false)) false) (λ n b. false)

    -- a kind begins by a word: 21 where it is no kind
    abbrev pub word_first : ℕ → Option Tag → Draft K → List ℕ → ℕ → Step K
    word_first room g d w b = once g d (on_some (words w) (λ k. describe room g k d b) (fault 21 b))

    -- a kind begins by a square bracket at b: where there is no room for a place, that is 28, but 21 if the range is whole and no kind
    abbrev pub range_first : ℕ → List ℕ → Option Tag → Draft K → ℕ → ℕ → Step K
    range_first room line g d b j =
        once g d (cond (nat_lt (length d.places) room) (moved (Low (record { tag = g; byte = b })) d) (cond (no_kind_ahead line j) (fault 21 b) (fault 28 b)))

    abbrev pub kind_first : ℕ → List ℕ → Option Tag → Draft K → Tok → ℕ → ℕ → Step K
    kind_first room line g d x b j = on_word x (λ w. word_first room g d w b) (on_mark 91 x (range_first room line g d b j) (fault 20 b))

    -- the range is whole: 21 at its bracket where it is no kind
    abbrev pub range_last : ℕ → Bracket → ℤ → ℤ → Draft K → Step K
    range_last room open₁ a h d = on_some (ranges a h) (λ k. describe room open₁.tag k d open₁.byte) (fault 21 open₁.byte)

    -- the token x of the line, from byte b up to j, after the draft d; pl and sl are the most places and slots
    abbrev pub step_in : ℕ → ℕ → List ℕ → Mode → Draft K → Tok → ℕ → ℕ → Step K
    step_in pl sl line Begin d x b j = on_mark 40 x (moved Opened d) (fault 20 b)
    step_in pl sl line Opened d x b j = on_mark 35 x (moved Hashed d) (kind_first pl line None d x b j)
    step_in pl sl line Hashed d x b j = on_number x (λ n. on_some (tag_number n) (λ t. moved (Tagged (record { number = t; byte = b })) d) (fault 27 b)) (fault 20 b)
    step_in pl sl line (Tagged t) d x b j = on_mark 41 x (refer t d) (kind_first pl line (Some t) d x b j)
    step_in pl sl line (Low o) d x b j = on_number x (λ a. moved (Dotted o a) d) (fault 20 b)
    step_in pl sl line (Dotted o a) d x b j = on_mark 46 x (moved (High o a) d) (fault 20 b)
    step_in pl sl line (High o a) d x b j = on_number x (λ h. range_end o a h d b) (fault 20 b)
    step_in pl sl line (Ranged o a h) d x b j = on_mark 93 x (range_last pl o a h d) (fault 20 b)
    step_in pl sl line Inside d x b j = on_word x (λ w. slot_named sl w d b) (on_mark 41 x (close d) (fault 20 b))
    step_in pl sl line (Done r) d x b j = fault 20 b

    abbrev pub step : ℕ → ℕ → List ℕ → Draft K → Tok → ℕ → ℕ → Step K
    step pl sl line d x b j = step_in pl sl line d.mode d x b j

    -- the tokens of the line from a byte on, after the draft d; each token has a byte at least, so as many turns as the line has
    -- bytes, and one, are enough
    abbrev pub read_from : ℕ → ℕ → ℕ → List ℕ → ℕ → Draft K → Step K
    read_from zero pl sl line from d = fault 0 0
    read_from (suc turns) pl sl line from d =
        on_next (next_token line from)
        (end_in d.mode d (length line))
        (λ x i j. on_step (step pl sl line d x i j) (λ d₂. read_from turns pl sl line j d₂))
        fault

    -- what a line of one place reads as, with room for pl places and sl slots: 10 where it is longer than 60,000 bytes
    unfoldable pub read_place : ℕ → ℕ → List ℕ → Step K
    read_place pl sl line = cond (nat_lt 60000 (length line)) (fault 10 0) (read_from (suc (length line)) pl sl line 0 nothing)
