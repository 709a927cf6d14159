-- The bytes of tags rise as the text goes on: those of the slots, and that of a tag that was read last.
use Rattle.std.proofs.Common.{◌≡◌, ℕ, zero, suc, ◌-◌, ◌<◌, ◌≤◌, Bool, true, false, cond, eqb, ltb, List, [], ◌∷◌, ◌++◌, length, set, ℤ, Some, None, Option, refl, inl, inr, arith}
use lib.Signed.{lt_z}
use Rattle.std.proofs.lemmas.Bool.{cond_both, eqb-false}
use Rattle.names.specs.Names as names
use Rattle.tokens.specs.Tokens.{Tok, mark, word, number}
use Rattle.reading.specs.declared.draft.Tag.{Tag}
use Rattle.reading.specs.declared.draft.Bracket.{Bracket}
use Rattle.reading.specs.declared.draft.Mode.{Mode}
use Rattle.reading.specs.declared.draft.Mode.TheVariants.{Begin, Opened, Hashed, Tagged, Low, Dotted, High, Ranged, Inside, Done}
use Rattle.reading.specs.declared.draft.Place.{Place}
use Rattle.reading.specs.declared.draft.Slot.{Slot}
use Rattle.reading.specs.declared.draft.Target.{Target}
use Rattle.reading.specs.declared.draft.Target.TheVariants.{To, ByTag}
use Rattle.reading.specs.Drafts.{Draft, named, slot_at}
use Rattle.reading.specs.Steps as steps
use Rattle.reading.specs.Steps.{Step, go, fault, on_some, described_at, by_tag, no_kind_ahead, refer, close, slot_named, kind_first, step_in, step}
use Rattle.grammar.specs.Rules.{Role, plain, tag_number, kind_word, range_first, range_end, range_last, slot_name, stray, kind_role, role_of, referred, referred_by, end_rules, rules}
use Rattle.grammar.proofs.Order.{from_le, Rising}

-- ---- the tags of the slots

abbrev last_byte : Target → ℕ → ℕ
last_byte (To p) lo = lo
last_byte (ByTag t) lo = t.byte

-- from lo up to hi
abbrev pub Rises : ℕ → List Slot → ℕ → Type 0
Rises lo [] hi = lo ≤ hi
Rises lo (s ∷ ss) hi = (lo ≤ last_byte s.target lo) × Rises (last_byte s.target lo) ss hi

rises_le : (ss : List Slot) (lo hi : ℕ) → Rises lo ss hi → lo ≤ hi
rises_le [] lo hi h = h
rises_le (s ∷ ss) lo hi h = let r = rises_le ss (last_byte s.target lo) hi h.1 in omega arith

pub rises_more : (ss : List Slot) (lo hi hi₂ : ℕ) → hi ≤ hi₂ → Rises lo ss hi → Rises lo ss hi₂
rises_more [] lo hi hi₂ p h = omega arith
rises_more (s ∷ ss) lo hi hi₂ p h = (h.0, rises_more ss (last_byte s.target lo) hi hi₂ p h.1)

rises_push : (ss : List Slot) (lo hi o n p : ℕ) → Rises lo ss hi → Rises lo (ss ++ (record { owner = o; name = n; target = To p } ∷ [])) hi
rises_push [] lo hi o n p h = (omega arith, h)
rises_push (s ∷ ss) lo hi o n p h = (h.0, rises_push ss (last_byte s.target lo) hi o n p h.1)

rises_set : (ss : List Slot) (i lo o n : ℕ) (t : Tag) → suc i ≡ length ss → Rises lo ss t.byte → Rises lo (set ss i (record { owner = o; name = n; target = ByTag t })) t.byte
rises_set [] i lo o n t e h = absurd (omega arith)
rises_set (s ∷ []) zero lo o n t e h = (rises_le (s ∷ []) lo t.byte h, omega arith)
rises_set (s ∷ s₂ ∷ ss) zero lo o n t e h = absurd (omega arith)
rises_set (s ∷ ss) (suc i) lo o n t e h = (h.0, rises_set ss i (last_byte s.target lo) o n t (omega arith) h.1)

by_tag_lem : (ss : List Slot) (t : Tag) → (length ss ≡ 0 → ⊥) → Rises 0 ss t.byte → Rises 0 (by_tag ss t) t.byte
by_tag_lem ss t some h = rises_set ss (length ss - 1) 0 (slot_at ss (length ss - 1)).owner (slot_at ss (length ss - 1)).name t (omega arith) h

referred_rising : {K : Type 0} (ss : List Slot) (ps : List (Place K)) (b n hi : ℕ) → n ≤ 26 → Rises b ss hi → Rising b n (referred ss ps)
referred_rising [] ps b n hi q h = tt
referred_rising (s ∷ ss) ps b n hi q h = on s.target h.0 (referred_rising ss ps (last_byte s.target b) n hi q h.1) (referred_rising ss ps (last_byte s.target b) 26 hi (omega arith) h.1)
  where
    on : (t : Target) → b ≤ last_byte t b → Rising (last_byte t b) n (referred ss ps) → Rising (last_byte t b) 26 (referred ss ps) → Rising b n (referred_by t ps (referred ss ps))
    on (To p) le r₁ r₂ = r₁
    on (ByTag t) le r₁ r₂ = (from_le b n t.byte 26 le q, r₂)

-- ---- the tag that was read last

-- the tags of the slots stand before it, or else before the byte that was come to
abbrev pub Limit : Mode → ℕ → ℕ
Limit (Tagged t) from = t.byte
Limit Begin from = from
Limit Opened from = from
Limit Hashed from = from
Limit (Low o) from = from
Limit (Dotted o a) from = from
Limit (High o a) from = from
Limit (Ranged o a h) from = from
Limit Inside from = from
Limit (Done r) from = from

abbrev pub Before : Mode → ℕ → Type 0
Before (Tagged t) from = t.byte < from
Before Begin from = Unit {0}
Before Opened from = Unit {0}
Before Hashed from = Unit {0}
Before (Low o) from = Unit {0}
Before (Dotted o a) from = Unit {0}
Before (High o a) from = Unit {0}
Before (Ranged o a h) from = Unit {0}
Before Inside from = Unit {0}
Before (Done r) from = Unit {0}

abbrev pub Ordered : {K : Type 0} → ℕ → Draft K → Type 0
Ordered from d = Rises 0 d.slots (Limit d.mode from) × Before d.mode from

-- ---- the rules of a token stand in order

abbrev pub Fits : Role → ℕ → Type 0
Fits plain b = Unit {0}
Fits (tag_number n) b = Unit {0}
Fits (kind_word None w) b = Unit {0}
Fits (kind_word (Some t) w) b = t.byte < b
Fits (range_first None) b = Unit {0}
Fits (range_first (Some t)) b = t.byte < b
Fits (range_end a h) b = Unit {0}
Fits (range_last o a h) b = Unit {0}
Fits (slot_name w) b = Unit {0}
Fits stray b = Unit {0}

pub kind_fits : (g : Option Tag) (x : Tok) (b : ℕ) → ((w : List ℕ) → Fits (kind_word g w) b) → Fits (range_first g) b → Fits (kind_role g x) b
kind_fits g (mark c) b p q = cond_both (eqb c 91) (range_first g) stray (λ r. Fits r b) (λ _. q) (λ _. tt)
kind_fits g (word w) b p q = p w
kind_fits g (number n) b p q = tt

plain_fits : (t : Bool) (r : Role) (b : ℕ) → Fits r b → Fits (cond t plain r) b
plain_fits true r b f = tt
plain_fits false r b f = f

role_fits : (m : Mode) (x : Tok) (from b : ℕ) → from ≤ b → Before m from → Fits (role_of m x) b
role_fits Begin (mark c) from b p q = plain_fits (eqb c 40) stray b tt
role_fits Begin (word w) from b p q = tt
role_fits Begin (number n) from b p q = tt
role_fits Opened (mark c) from b p q = plain_fits (eqb c 35) _ b (kind_fits None (mark c) b (λ w. tt) tt)
role_fits Opened (word w) from b p q = tt
role_fits Opened (number n) from b p q = tt
role_fits Hashed (mark c) from b p q = tt
role_fits Hashed (word w) from b p q = tt
role_fits Hashed (number n) from b p q = tt
role_fits (Tagged t) (mark c) from b p q = plain_fits (eqb c 41) _ b (kind_fits (Some t) (mark c) b (λ w. omega arith) (omega arith))
role_fits (Tagged t) (word w) from b p q = omega arith
role_fits (Tagged t) (number n) from b p q = tt
role_fits (Low o) (mark c) from b p q = tt
role_fits (Low o) (word w) from b p q = tt
role_fits (Low o) (number n) from b p q = tt
role_fits (Dotted o a) (mark c) from b p q = plain_fits (eqb c 46) stray b tt
role_fits (Dotted o a) (word w) from b p q = tt
role_fits (Dotted o a) (number n) from b p q = tt
role_fits (High o a) (mark c) from b p q = tt
role_fits (High o a) (word w) from b p q = tt
role_fits (High o a) (number n) from b p q = tt
role_fits (Ranged o a h) (mark c) from b p q = cond_both (eqb c 93) (range_last o a h) stray (λ r. Fits r b) (λ _. tt) (λ _. tt)
role_fits (Ranged o a h) (word w) from b p q = tt
role_fits (Ranged o a h) (number n) from b p q = tt
role_fits Inside (mark c) from b p q = plain_fits (eqb c 41) stray b tt
role_fits Inside (word w) from b p q = tt
role_fits Inside (number n) from b p q = tt
role_fits (Done g) x from b p q = tt

module _ {K : Type 0} where
  abbrev pub After : ℕ → Step K → Type 0
  After j (go d) = Ordered j d
  After j (fault n b) = Unit {0}

  either : (j : ℕ) (t : Bool) (y z : Step K) → After j y → After j z → After j (cond t y z)
  either j true y z p q = p
  either j false y z p q = q

  known : {A : Type 0} (j : ℕ) (o : Option A) (f : A → Step K) (z : Step K) → ((k : A) → After j (f k)) → After j z → After j (on_some o f z)
  known j None f z p q = q
  known j (Some k) f z p q = p k

  refer_ordered : (d : Draft K) (t : Tag) (j : ℕ) → t.byte < j → Rises 0 d.slots t.byte → After j (refer t d)
  refer_ordered d t j lt h =
      cond_both (eqb (length d.slots) 0) _ _ (After j)
      (λ _. (rises_more d.slots 0 t.byte j (omega arith) h, tt))
      (λ e. (rises_more (by_tag d.slots t) 0 t.byte j (omega arith) (by_tag_lem d.slots t (eqb-false _ 0 e) h), tt))

  close_ordered : (d : Draft K) (j : ℕ) → Rises 0 d.slots j → After j (close d)
  close_ordered d j h = either j (eqb d.top 0) _ _ (h, tt) (h, tt)

  name_ordered : (d : Draft K) (w : List ℕ) (b j sl : ℕ) → Rises 0 d.slots j → After j (slot_named sl w d b)
  name_ordered d w b j sl h =
      either j (ltb 12 (length w)) (fault 23 b) _ tt
      (either j (named d.slots d.top (names.number w)) (fault 24 b) _ tt
      (either j (ltb (length d.slots) sl) _ (fault 28 b) (rises_push d.slots 0 j d.top (names.number w) (length d.places) h, tt) tt))

  module _ (words : List ℕ → Option K) (ranges : ℤ → ℤ → Option K) (pl sl : ℕ) (line : List ℕ) where
    pub kind_ordered : (d : Draft K) (g : Option Tag) (x : Tok) (b j : ℕ) → Rises 0 d.slots j → After j (kind_first words ranges pl line g d x b j)
    kind_ordered d g (mark c) b j h =
        either j (eqb c 91) _ (fault 20 b)
        (known j (described_at g d.places) (fault 25) _ (λ k. tt)
        (either j (ltb (length d.places) pl) _ _ (h, tt) (either j (no_kind_ahead words ranges line j) (fault 21 b) (fault 28 b) tt tt))) tt
    kind_ordered d g (word w) b j h =
        known j (described_at g d.places) (fault 25) _ (λ k. tt)
        (known j (words w) _ (fault 21 b) (λ k. either j (ltb (length d.places) pl) _ (fault 28 b) (h, tt) tt) tt)
    kind_ordered d g (number n) b j h = tt

    last_ordered : (d : Draft K) (o : Bracket) (a h : ℤ) (j : ℕ) → Rises 0 d.slots j → After j (steps.range_last words ranges pl o a h d)
    last_ordered d o a h j r =
        known j (ranges a h) _ (fault 21 o.byte) (λ k. either j (ltb (length d.places) pl) _ (fault 28 o.byte) (r, tt) tt) tt

    in_ordered : (m : Mode) (d : Draft K) (x : Tok) (from b j : ℕ) → from ≤ b → b < j → Rises 0 d.slots (Limit m from) → Before m from → After j (step_in words ranges pl sl line m d x b j)
    in_ordered Begin d (mark c) from b j p q r s = either j (eqb c 40) _ (fault 20 b) (rises_more d.slots 0 from j (omega arith) r, tt) tt
    in_ordered Begin d (word w) from b j p q r s = tt
    in_ordered Begin d (number n) from b j p q r s = tt
    in_ordered Opened d (mark c) from b j p q r s =
        let up = rises_more d.slots 0 from j (omega arith) r in
        either j (eqb c 35) _ _ (up, tt) (kind_ordered d None (mark c) b j up)
    in_ordered Opened d (word w) from b j p q r s = kind_ordered d None (word w) b j (rises_more d.slots 0 from j (omega arith) r)
    in_ordered Opened d (number n) from b j p q r s = tt
    in_ordered Hashed d (mark c) from b j p q r s = tt
    in_ordered Hashed d (word w) from b j p q r s = tt
    in_ordered Hashed d (number n) from b j p q r s = known j (steps.tag_number n) _ (fault 27 b) (λ k. (rises_more d.slots 0 from b p r, q)) tt
    in_ordered (Tagged t) d (mark c) from b j p q r s =
        either j (eqb c 41) _ _ (refer_ordered d t j (omega arith) r)
        (kind_ordered d (Some t) (mark c) b j (rises_more d.slots 0 t.byte j (omega arith) r))
    in_ordered (Tagged t) d (word w) from b j p q r s = kind_ordered d (Some t) (word w) b j (rises_more d.slots 0 t.byte j (omega arith) r)
    in_ordered (Tagged t) d (number n) from b j p q r s = tt
    in_ordered (Low o) d (mark c) from b j p q r s = tt
    in_ordered (Low o) d (word w) from b j p q r s = tt
    in_ordered (Low o) d (number n) from b j p q r s = (rises_more d.slots 0 from j (omega arith) r, tt)
    in_ordered (Dotted o a) d (mark c) from b j p q r s = either j (eqb c 46) _ (fault 20 b) (rises_more d.slots 0 from j (omega arith) r, tt) tt
    in_ordered (Dotted o a) d (word w) from b j p q r s = tt
    in_ordered (Dotted o a) d (number n) from b j p q r s = tt
    in_ordered (High o a) d (mark c) from b j p q r s = tt
    in_ordered (High o a) d (word w) from b j p q r s = tt
    in_ordered (High o a) d (number n) from b j p q r s = either j (lt_z n a) (fault 22 b) _ tt (rises_more d.slots 0 from j (omega arith) r, tt)
    in_ordered (Ranged o a h) d (mark c) from b j p q r s = either j (eqb c 93) _ (fault 20 b) (last_ordered d o a h j (rises_more d.slots 0 from j (omega arith) r)) tt
    in_ordered (Ranged o a h) d (word w) from b j p q r s = tt
    in_ordered (Ranged o a h) d (number n) from b j p q r s = tt
    in_ordered Inside d (mark c) from b j p q r s = either j (eqb c 41) _ (fault 20 b) (close_ordered d j (rises_more d.slots 0 from j (omega arith) r)) tt
    in_ordered Inside d (word w) from b j p q r s = name_ordered d w b j sl (rises_more d.slots 0 from j (omega arith) r)
    in_ordered Inside d (number n) from b j p q r s = tt
    in_ordered (Done g) d x from b j p q r s = tt

    pub role_rising : (d : Draft K) (b j : ℕ) (r : Role) → Fits r b → Rising 0 20 (rules words ranges pl sl line d b j r)
    role_rising d b j plain f = tt
    role_rising d b j (tag_number n) f = (from_le 0 20 b 27 (omega arith) (omega arith), tt)
    role_rising d b j (kind_word None w) f = (from_le 0 20 b 21 (omega arith) (omega arith), (inr (refl, omega arith), tt))
    role_rising d b j (kind_word (Some t) w) f = (from_le 0 20 t.byte 25 (omega arith) (omega arith), (inl f, (inr (refl, omega arith), tt)))
    role_rising d b j (range_first None) f = (from_le 0 20 b 21 (omega arith) (omega arith), (inr (refl, omega arith), tt))
    role_rising d b j (range_first (Some t)) f = (from_le 0 20 t.byte 25 (omega arith) (omega arith), (inl f, (inr (refl, omega arith), tt)))
    role_rising d b j (range_end a h) f = (from_le 0 20 b 22 (omega arith) (omega arith), tt)
    role_rising d b j (range_last o a h) f = (from_le 0 20 o.byte 21 (omega arith) (omega arith), (inr (refl, omega arith), tt))
    role_rising d b j (slot_name w) f = (from_le 0 20 b 23 (omega arith) (omega arith), (inr (refl, omega arith), (inr (refl, omega arith), tt)))
    role_rising d b j stray f = (from_le 0 20 b 20 (omega arith) (omega arith), tt)

    pub step_ordered : (d : Draft K) (x : Tok) (from b j : ℕ) → from ≤ b → b < j → Ordered from d → After j (step words ranges pl sl line d x b j)
    step_ordered d x from b j p q o = in_ordered d.mode d x from b j p q o.0 o.1

    pub token_rising : (d : Draft K) (x : Tok) (from b j : ℕ) → from ≤ b → Ordered from d → Rising 0 20 (rules words ranges pl sl line d b j (role_of d.mode x))
    token_rising d x from b j p o = role_rising d b j (role_of d.mode x) (role_fits d.mode x from b p o.1)

  -- ---- and so do those of the end

  end_in : (m : Mode) (d : Draft K) (from b : ℕ) → Rises 0 d.slots (Limit m from) → Rising 0 20 (end_rules m d b)
  end_in Begin d from b h = (from_le 0 20 b 20 (omega arith) (omega arith), tt)
  end_in Opened d from b h = (from_le 0 20 b 20 (omega arith) (omega arith), tt)
  end_in Hashed d from b h = (from_le 0 20 b 20 (omega arith) (omega arith), tt)
  end_in (Tagged t) d from b h = (from_le 0 20 b 20 (omega arith) (omega arith), tt)
  end_in (Low o) d from b h = (from_le 0 20 b 20 (omega arith) (omega arith), tt)
  end_in (Dotted o a) d from b h = (from_le 0 20 b 20 (omega arith) (omega arith), tt)
  end_in (High o a) d from b h = (from_le 0 20 b 20 (omega arith) (omega arith), tt)
  end_in (Ranged o a n) d from b h = (from_le 0 20 b 20 (omega arith) (omega arith), tt)
  end_in Inside d from b h = (from_le 0 20 b 20 (omega arith) (omega arith), tt)
  end_in (Done None) d from b h = referred_rising d.slots d.places 0 20 from (omega arith) h
  end_in (Done (Some t)) d from b h = (from_le 0 20 t.byte 26 (omega arith) (omega arith), tt)

  pub end_rising : (d : Draft K) (from b : ℕ) → Ordered from d → Rising 0 20 (end_rules d.mode d b)
  end_rising d from b o = end_in d.mode d from b o.0
