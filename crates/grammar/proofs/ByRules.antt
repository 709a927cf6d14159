-- Each step of the reader is by the rules.
use Rattle.std.proofs.Common.{◌≡◌, ℕ, Bool, true, false, cond, not, ◌&&◌, eqb, ltb, List, [], ◌∷◌, length, ℤ, is_some, Some, None, Option, refl, ap}
use Rattle.std.specs.Option.{option_or}
use Rattle.std.proofs.lemmas.Bool.{cond_both}
use Rattle.names.specs.Names as names
use Rattle.tokens.specs.Tokens.{Tok, mark, word, number}
use Rattle.reading.specs.declared.draft.Tag.{Tag}
use Rattle.reading.specs.declared.draft.Bracket.{Bracket}
use Rattle.reading.specs.declared.draft.Mode.{Mode}
use Rattle.reading.specs.declared.draft.Mode.TheVariants.{Begin, Opened, Hashed, Tagged, Low, Dotted, High, Ranged, Inside, Done}
use Rattle.reading.specs.declared.draft.Place.{Place}
use Rattle.reading.specs.declared.draft.Slot.{Slot}
use Rattle.reading.specs.declared.draft.Target.{Target}
use Rattle.reading.specs.declared.draft.Target.TheVariants.{To, ByTag}
use Rattle.reading.specs.Drafts.{Draft, described, named}
use Rattle.reading.specs.Steps as steps
use Rattle.reading.specs.Steps.{Step, go, fault, on_some, undescribed, undescribed_at, moved, describe, close, refer, slot_named, no_kind_ahead, word_first, step_in, end_in}
use Rattle.grammar.specs.Rules.{Role, plain, tag_number, kind_word, range_first, range_end, range_last, slot_name, stray, role_of, Rule, rule, place_room, once, referred, referred_by, end_rules, rules, first, Taken, ByRules, EndByRules}

module _ {K : Type 0} where
  flip : (t : Bool) (y z : Step K) → cond t y z ≡ cond (not t) z y
  flip true y z = refl
  flip false y z = refl

  by_once : (g : Option Tag) (d : Draft K) (rs : List Rule) (s y : Step K) → y ≡ first rs s → steps.once g d y ≡ first (once g d rs) s
  by_once None d rs s y e = e
  by_once (Some t) d rs s y e = flat (described d.places t.number)
    where
      flat : (q : Bool) → on_some (cond q (Some t.byte) None) (fault 25) y ≡ cond q (fault 25 t.byte) (first rs s)
      flat true = refl
      flat false = e

  taken_close : (d : Draft K) → Taken (close d)
  taken_close d = cond_both (eqb d.top 0) _ _ Taken (λ _. tt) (λ _. tt)

  taken_refer : (t : Tag) (d : Draft K) → Taken (refer t d)
  taken_refer t d = cond_both (eqb (length d.slots) 0) _ _ Taken (λ _. tt) (λ _. tt)

  -- the end of the line
  by_tags : (ss : List Slot) (ps : List (Place K)) (s : Step K) → on_some (undescribed ss ps) (fault 26) s ≡ first (referred ss ps) s
  by_tags [] ps s = refl
  by_tags (x ∷ ss) ps s = one x.target (by_tags ss ps s)
    where
      flat : (t : Tag) (q : Bool) → on_some (undescribed ss ps) (fault 26) s ≡ first (referred ss ps) s → on_some (option_or (cond q None (Some t.byte)) (undescribed ss ps)) (fault 26) s ≡ cond (not q) (fault 26 t.byte) (first (referred ss ps) s)
      flat t true e = e
      flat t false e = refl

      one : (t : Target) → on_some (undescribed ss ps) (fault 26) s ≡ first (referred ss ps) s → on_some (option_or (undescribed_at t ps) (undescribed ss ps)) (fault 26) s ≡ first (referred_by t ps (referred ss ps)) s
      one (To p) e = e
      one (ByTag t) e = flat t (described ps t.number) e

  by_end : (m : Mode) (d : Draft K) (b : ℕ) → end_in m d b ≡ first (end_rules m d b) (go d)
  by_end Begin d b = refl
  by_end Opened d b = refl
  by_end Hashed d b = refl
  by_end (Tagged t) d b = refl
  by_end (Low o) d b = refl
  by_end (Dotted o a) d b = refl
  by_end (High o a) d b = refl
  by_end (Ranged o a h) d b = refl
  by_end Inside d b = refl
  by_end (Done None) d b = by_tags d.slots d.places (go d)
  by_end (Done (Some t)) d b = refl

  pub end_by_rules : EndByRules K
  end_by_rules d b = by_end d.mode d b

  module _ (words : List ℕ → Option K) (ranges : ℤ → ℤ → Option K) (pl sl : ℕ) (line : List ℕ) (d : Draft K) (b j : ℕ) where
    -- y is by the rules of the role r
    abbrev pub By : Role → Step K → Type 0
    By r y = (s : Step K) × (Taken s × (y ≡ first (rules words ranges pl sl line d b j r) s))

    pick : (t : Bool) (r r₂ : Role) (y y₂ : Step K) → By r y → By r₂ y₂ → By (cond t r r₂) (cond t y y₂)
    pick true r r₂ y y₂ p q = p
    pick false r r₂ y y₂ p q = q

    pub no_way : By stray (fault 20 b)
    no_way = (go d, (tt, refl))

    by_plain : (y : Step K) → Taken y → By plain y
    by_plain y t = (y, (t, refl))

    pub by_word : (g : Option Tag) (w : List ℕ) → By (kind_word g w) (word_first words ranges pl g d w b)
    by_word g w = go_on (words w)
      where
        go_on : (o : Option K) → (s : Step K) × (Taken s × (steps.once g d (on_some o (λ k. describe pl g k d b) (fault 21 b)) ≡ first (once g d (rule 21 b (not (is_some o)) ∷ rule 28 b (not (place_room pl d)) ∷ [])) s))
        go_on None = (go d, (tt, by_once g d (rule 21 b true ∷ rule 28 b (not (place_room pl d)) ∷ []) (go d) (fault 21 b) refl))
        go_on (Some k) = (_, (tt, by_once g d (rule 21 b false ∷ rule 28 b (not (place_room pl d)) ∷ []) _ _ (flip (place_room pl d) _ (fault 28 b))))

    by_range : (g : Option Tag) → By (range_first g) (steps.range_first words ranges pl line g d b j)
    by_range g = (moved₂, (tt, by_once g d (rule 21 b (not (place_room pl d) && no_kind_ahead words ranges line j) ∷ rule 28 b (not (place_room pl d)) ∷ []) moved₂ _ (flat (place_room pl d) (no_kind_ahead words ranges line j))))
      where
        moved₂ : Step K
        moved₂ = go (record { mode = Low (record { tag = g; byte = b }); top = d.top; places = d.places; slots = d.slots })

        flat : (q a : Bool) → cond q (moved (Low (record { tag = g; byte = b })) d) (cond a (fault 21 b) (fault 28 b)) ≡ first (rule 21 b (not q && a) ∷ rule 28 b (not q) ∷ []) moved₂
        flat true a = refl
        flat false true = refl
        flat false false = refl

    by_high : (o : Bracket) (a h : ℤ) → By (range_end a h) (steps.range_end o a h d b)
    by_high o a h = (_, (tt, refl))

    by_tag_lem : (n : ℤ) → By (tag_number n) (step_in words ranges pl sl line Hashed d (number n) b j)
    by_tag_lem n = go_on (steps.tag_number n)
      where
        go_on : (o : Option ℕ) → (s : Step K) × (Taken s × (on_some o (λ t. moved (Tagged (record { number = t; byte = b })) d) (fault 27 b) ≡ first (rule 27 b (not (is_some o)) ∷ []) s))
        go_on None = (go d, (tt, refl))
        go_on (Some k) = (_, (tt, refl))

    by_last : (o : Bracket) (a h : ℤ) → By (range_last o a h) (steps.range_last words ranges pl o a h d)
    by_last o a h = go_on (ranges a h)
      where
        go_on : (k : Option K) → (s : Step K) × (Taken s × (on_some k (λ k. describe pl o.tag k d o.byte) (fault 21 o.byte) ≡ first (rule 21 o.byte (not (is_some k)) ∷ rule 28 o.byte (not (place_room pl d)) ∷ []) s))
        go_on None = (go d, (tt, refl))
        go_on (Some k) = (_, (tt, flip (place_room pl d) _ (fault 28 o.byte)))

    by_name : (w : List ℕ) → By (slot_name w) (slot_named sl w d b)
    by_name w =
        (_, (tt, ap (λ z. cond (ltb 12 (length w)) (fault 23 b) (cond (named d.slots d.top (names.number w)) (fault 24 b) z)) (flip (ltb (length d.slots) sl) _ (fault 28 b))))

    pub by_kind : (g : Option Tag) (c : ℕ) → By (cond (eqb c 91) (range_first g) stray) (cond (eqb c 91) (steps.range_first words ranges pl line g d b j) (fault 20 b))
    by_kind g c = pick (eqb c 91) (range_first g) stray _ _ (by_range g) no_way

    by_step : (m : Mode) (x : Tok) → By (role_of m x) (step_in words ranges pl sl line m d x b j)
    by_step Begin (mark c) = pick (eqb c 40) plain stray _ _ (by_plain (moved Opened d) tt) no_way
    by_step Begin (word w) = no_way
    by_step Begin (number n) = no_way
    by_step Opened (mark c) = pick (eqb c 35) plain _ _ _ (by_plain (moved Hashed d) tt) (by_kind None c)
    by_step Opened (word w) = by_word None w
    by_step Opened (number n) = no_way
    by_step Hashed (mark c) = no_way
    by_step Hashed (word w) = no_way
    by_step Hashed (number n) = by_tag_lem n
    by_step (Tagged t) (mark c) = pick (eqb c 41) plain _ _ _ (by_plain (refer t d) (taken_refer t d)) (by_kind (Some t) c)
    by_step (Tagged t) (word w) = by_word (Some t) w
    by_step (Tagged t) (number n) = no_way
    by_step (Low o) (mark c) = no_way
    by_step (Low o) (word w) = no_way
    by_step (Low o) (number n) = by_plain (moved (Dotted o n) d) tt
    by_step (Dotted o a) (mark c) = pick (eqb c 46) plain stray _ _ (by_plain (moved (High o a) d) tt) no_way
    by_step (Dotted o a) (word w) = no_way
    by_step (Dotted o a) (number n) = no_way
    by_step (High o a) (mark c) = no_way
    by_step (High o a) (word w) = no_way
    by_step (High o a) (number n) = by_high o a n
    by_step (Ranged o a h) (mark c) = pick (eqb c 93) (range_last o a h) stray _ _ (by_last o a h) no_way
    by_step (Ranged o a h) (word w) = no_way
    by_step (Ranged o a h) (number n) = no_way
    by_step Inside (mark c) = pick (eqb c 41) plain stray _ _ (by_plain (close d) (taken_close d)) no_way
    by_step Inside (word w) = by_name w
    by_step Inside (number n) = no_way
    by_step (Done r) x = no_way

  pub by_rules : ByRules K
  by_rules words ranges pl sl line d x b j = by_step words ranges pl sl line d b j d.mode x
