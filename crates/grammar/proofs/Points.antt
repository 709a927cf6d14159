-- A refusal points at the token that it refuses.
use Rattle.std.proofs.Common.{◌≡◌, ℕ, zero, suc, ◌-◌, ◌<◌, ◌≤◌, Bool, true, false, cond, eqb, ltb, List, [], ◌∷◌, ◌++◌, length, set, ℤ, Some, None, Option, sym, subst, inl, inr, arith}
use lib.Signed.{lt_z}
use Rattle.std.proofs.lemmas.Bool.{cond_both, eqb-true}
use Rattle.names.specs.Names as names
use Rattle.tokens.specs.Tokens.{Tok, mark, word, number, token, next_token}
use Rattle.tokens.proofs.Ahead.{Ahead, next_ahead}
use Rattle.reading.specs.declared.draft.Tag.{Tag}
use Rattle.reading.specs.declared.draft.Mode.{Mode}
use Rattle.reading.specs.declared.draft.Mode.TheVariants.{Begin, Opened, Hashed, Tagged, Low, Dotted, High, Ranged, Inside, Done}
use Rattle.reading.specs.declared.draft.Place.{Place}
use Rattle.reading.specs.declared.draft.Slot.{Slot}
use Rattle.reading.specs.declared.draft.Target.{Target}
use Rattle.reading.specs.declared.draft.Target.TheVariants.{To, ByTag}
use Rattle.reading.specs.Drafts.{Draft, named, slot_at}
use Rattle.reading.specs.Steps as steps
use Rattle.reading.specs.Steps.{Step, go, fault, on_some, described_at, no_kind_ahead, kind_first, step_in}
use Rattle.grammar.specs.Lines.{Upto, here, next}
use Rattle.grammar.specs.Rules as rule
use Rattle.grammar.specs.Rules.{Role, plain, tag_number, kind_word, range_first, range_end, range_last, slot_name, role_of, Rule, Broken, once, referred, referred_by, rules, end_rules}
use Rattle.grammar.specs.Least.{Clean, start, more, Breaks, long, bytes, by, ends}
use Rattle.grammar.specs.Points as point
use Rattle.grammar.specs.Points.{Stands, Refusable, Pointed, Points}
use Rattle.grammar.proofs.Least.{is_least}

upto_push : {line : List ℕ} {a : ℕ} {xs : List Tok} {b : ℕ} {x : Tok} {i j : ℕ} → Upto line a xs b → next_token line b ≡ token x i j → Upto line a (xs ++ (x ∷ [])) j
upto_push here f = next f here
upto_push (next g u) f = next g (upto_push u f)

module _ (line : List ℕ) where
  -- the number of a tag stands at its byte
  abbrev TagAt : Tag → Type 0
  TagAt t = (g : ℤ) × Stands line (number g) t.byte

  abbrev TagsAt : Option Tag → Type 0
  TagsAt None = Unit {0}
  TagsAt (Some t) = TagAt t

  abbrev ModeAt : Mode → Type 0
  ModeAt Begin = Unit {0}
  ModeAt Opened = Unit {0}
  ModeAt Hashed = Unit {0}
  ModeAt (Tagged t) = TagAt t
  ModeAt (Low o) = Stands line (mark 91) o.byte
  ModeAt (Dotted o a) = Stands line (mark 91) o.byte
  ModeAt (High o a) = Stands line (mark 91) o.byte
  ModeAt (Ranged o a h) = Stands line (mark 91) o.byte
  ModeAt Inside = Unit {0}
  ModeAt (Done g) = TagsAt g

  abbrev TargetAt : Target → Type 0
  TargetAt (To p) = Unit {0}
  TargetAt (ByTag t) = TagAt t

  abbrev SlotsAt : List Slot → Type 0
  SlotsAt [] = Unit {0}
  SlotsAt (s ∷ ss) = TargetAt s.target × SlotsAt ss

  slots_push : (ss : List Slot) (o n p : ℕ) → SlotsAt ss → SlotsAt (ss ++ (record { owner = o; name = n; target = To p } ∷ []))
  slots_push [] o n p h = (tt, tt)
  slots_push (s ∷ ss) o n p h = (h.0, slots_push ss o n p h.1)

  slots_set : (ss : List Slot) (i o n : ℕ) (t : Tag) → TagAt t → SlotsAt ss → SlotsAt (set ss i (record { owner = o; name = n; target = ByTag t }))
  slots_set [] i o n t a h = tt
  slots_set (s ∷ ss) zero o n t a h = (a, h.1)
  slots_set (s ∷ ss) (suc i) o n t a h = (h.0, slots_set ss i o n t a h.1)

  abbrev RoleAt : ℕ → Role → Type 0
  RoleAt b plain = Unit {0}
  RoleAt b (tag_number n) = Stands line (number n) b
  RoleAt b (kind_word g w) = TagsAt g × Stands line (word w) b
  RoleAt b (range_first g) = TagsAt g × Stands line (mark 91) b
  RoleAt b (range_end a h) = Stands line (number h) b
  RoleAt b (range_last o a h) = Stands line (mark 91) o.byte
  RoleAt b (slot_name w) = Stands line (word w) b
  RoleAt b rule.stray = (x : Tok) × Stands line x b

  same_mark : (c k b : ℕ) → eqb c k ≡ true → Stands line (mark c) b → Stands line (mark k) b
  same_mark c k b e s = subst (λ d. Stands line (mark d) b) (eqb-true c k e) s

  range_at : (g : Option Tag) (c b : ℕ) → TagsAt g → Stands line (mark c) b → RoleAt b (cond (eqb c 91) (range_first g) rule.stray)
  range_at g c b t s = cond_both (eqb c 91) (range_first g) rule.stray (RoleAt b) (λ e. (t, same_mark c 91 b e s)) (λ _. (mark c, s))

  plain_at : (b : ℕ) (q : Bool) (r : Role) → RoleAt b r → RoleAt b (cond q plain r)
  plain_at b true r a = tt
  plain_at b false r a = a

  role_at : (m : Mode) (x : Tok) (b : ℕ) → ModeAt m → Stands line x b → RoleAt b (role_of m x)
  role_at Begin (mark c) b m s = plain_at b (eqb c 40) rule.stray (mark c, s)
  role_at Begin (word w) b m s = (word w, s)
  role_at Begin (number n) b m s = (number n, s)
  role_at Opened (mark c) b m s = plain_at b (eqb c 35) _ (range_at None c b tt s)
  role_at Opened (word w) b m s = (tt, s)
  role_at Opened (number n) b m s = (number n, s)
  role_at Hashed (mark c) b m s = (mark c, s)
  role_at Hashed (word w) b m s = (word w, s)
  role_at Hashed (number n) b m s = s
  role_at (Tagged t) (mark c) b m s = plain_at b (eqb c 41) _ (range_at (Some t) c b m s)
  role_at (Tagged t) (word w) b m s = (m, s)
  role_at (Tagged t) (number n) b m s = (number n, s)
  role_at (Low o) (mark c) b m s = (mark c, s)
  role_at (Low o) (word w) b m s = (word w, s)
  role_at (Low o) (number n) b m s = tt
  role_at (Dotted o a) (mark c) b m s = plain_at b (eqb c 46) rule.stray (mark c, s)
  role_at (Dotted o a) (word w) b m s = (word w, s)
  role_at (Dotted o a) (number n) b m s = (number n, s)
  role_at (High o a) (mark c) b m s = (mark c, s)
  role_at (High o a) (word w) b m s = (word w, s)
  role_at (High o a) (number n) b m s = s
  role_at (Ranged o a h) (mark c) b m s = cond_both (eqb c 93) (range_last o a h) rule.stray (RoleAt b) (λ e. m) (λ _. (mark c, s))
  role_at (Ranged o a h) (word w) b m s = (word w, s)
  role_at (Ranged o a h) (number n) b m s = (number n, s)
  role_at Inside (mark c) b m s = plain_at b (eqb c 41) rule.stray (mark c, s)
  role_at Inside (word w) b m s = s
  role_at Inside (number n) b m s = (number n, s)
  role_at (Done r) x b m s = (x, s)

  -- a rule of a token that stands, and the next
  points_at : (x : Tok) (n b m c : ℕ) → Stands line x b → Refusable n x → n ≡ m → b ≡ c → Pointed line m c
  points_at x n b m c s r p q = inl (x, subst (Stands line x) q s, subst (λ k. Refusable k x) p r)

  kind_points : (x : Tok) (i n b : ℕ) (p q : Bool) → Stands line x i → Refusable 21 x → Refusable 28 x → Broken (rule.rule 21 i p ∷ rule.rule 28 i q ∷ []) n b → Pointed line n b
  kind_points x i n b p q s r₁ r₂ (inl e) = points_at x 21 i n b s r₁ e.1 e.2
  kind_points x i n b p q s r₁ r₂ (inr (inl e)) = points_at x 28 i n b s r₂ e.1 e.2
  kind_points x i n b p q s r₁ r₂ (inr (inr h)) = absurd h

  module _ {K : Type 0} where
    abbrev KnownAfter : Step K → Type 0
    KnownAfter (go d) = ModeAt d.mode × SlotsAt d.slots
    KnownAfter (fault n b) = Unit {0}

    either : (t : Bool) (y z : Step K) → KnownAfter y → KnownAfter z → KnownAfter (cond t y z)
    either true y z p q = p
    either false y z p q = q

    known : {A : Type 0} (o : Option A) (f : A → Step K) (z : Step K) → ((k : A) → KnownAfter (f k)) → KnownAfter z → KnownAfter (on_some o f z)
    known None f z p q = q
    known (Some k) f z p q = p k

    once_points : (g : Option Tag) (d : Draft K) (rs : List Rule) (n b : ℕ) → TagsAt g → (Broken rs n b → Pointed line n b) → Broken (once g d rs) n b → Pointed line n b
    once_points None d rs n b t f h = f h
    once_points (Some t) d rs n b a f (inl e) = points_at (number a.0) 25 t.byte n b a.1 point.described_twice e.1 e.2
    once_points (Some t) d rs n b a f (inr h) = f h

    tags_point : (ss : List Slot) (ps : List (Place K)) (n b : ℕ) → SlotsAt ss → Broken (referred ss ps) n b → Pointed line n b
    tags_point [] ps n b a h = absurd h
    tags_point (s ∷ ss) ps n b a h = on s.target a.0 h (λ k. tags_point ss ps n b a.1 k)
      where
        on : (t : Target) → TargetAt t → Broken (referred_by t ps (referred ss ps)) n b → (Broken (referred ss ps) n b → Pointed line n b) → Pointed line n b
        on (To p) a h ih = ih h
        on (ByTag t) a (inl e) ih = points_at (number a.0) 26 t.byte n b a.1 point.never_described e.1 e.2
        on (ByTag t) a (inr h) ih = ih h

    end_points : (m : Mode) (d : Draft K) (n b : ℕ) → ModeAt m → SlotsAt d.slots → Broken (end_rules m d (length line)) n b → Pointed line n b
    end_points Begin d n b m s (inl e) = inr (sym e.1, sym e.2)
    end_points Opened d n b m s (inl e) = inr (sym e.1, sym e.2)
    end_points Hashed d n b m s (inl e) = inr (sym e.1, sym e.2)
    end_points (Tagged t) d n b m s (inl e) = inr (sym e.1, sym e.2)
    end_points (Low o) d n b m s (inl e) = inr (sym e.1, sym e.2)
    end_points (Dotted o a) d n b m s (inl e) = inr (sym e.1, sym e.2)
    end_points (High o a) d n b m s (inl e) = inr (sym e.1, sym e.2)
    end_points (Ranged o a h) d n b m s (inl e) = inr (sym e.1, sym e.2)
    end_points Inside d n b m s (inl e) = inr (sym e.1, sym e.2)
    end_points (Done None) d n b m s h = tags_point d.slots d.places n b s h
    end_points (Done (Some t)) d n b m s (inl e) = points_at (number m.0) 26 t.byte n b m.1 point.never_described e.1 e.2
    end_points Begin d n b m s (inr h) = absurd h
    end_points Opened d n b m s (inr h) = absurd h
    end_points Hashed d n b m s (inr h) = absurd h
    end_points (Tagged t) d n b m s (inr h) = absurd h
    end_points (Low o) d n b m s (inr h) = absurd h
    end_points (Dotted o a) d n b m s (inr h) = absurd h
    end_points (High o a) d n b m s (inr h) = absurd h
    end_points (Ranged o a k) d n b m s (inr h) = absurd h
    end_points Inside d n b m s (inr h) = absurd h
    end_points (Done (Some t)) d n b m s (inr h) = absurd h

    module _ (words : List ℕ → Option K) (ranges : ℤ → ℤ → Option K) (pl sl : ℕ) where
      role_points : (d : Draft K) (i j : ℕ) (r : Role) (n b : ℕ) → RoleAt i r → Broken (rules words ranges pl sl line d i j r) n b → Pointed line n b
      role_points d i j plain n b a h = absurd h
      role_points d i j (tag_number g) n b a (inl e) = points_at (number g) 27 i n b a point.no_tag e.1 e.2
      role_points d i j (tag_number g) n b a (inr h) = absurd h
      role_points d i j (kind_word g w) n b a h = once_points g d _ n b a.0 (kind_points (word w) i n b _ _ a.1 point.kind_word point.one_word_too_many) h
      role_points d i j (range_first g) n b a h = once_points g d _ n b a.0 (kind_points (mark 91) i n b _ _ a.1 point.kind_range point.one_range_too_many) h
      role_points d i j (range_end l g) n b a (inl e) = points_at (number g) 22 i n b a point.high e.1 e.2
      role_points d i j (range_end l g) n b a (inr h) = absurd h
      role_points d i j (range_last o l g) n b a h = kind_points (mark 91) o.byte n b _ _ a point.kind_range point.one_range_too_many h
      role_points d i j (slot_name w) n b a (inl e) = points_at (word w) 23 i n b a point.long_name e.1 e.2
      role_points d i j (slot_name w) n b a (inr (inl e)) = points_at (word w) 24 i n b a point.name_twice e.1 e.2
      role_points d i j (slot_name w) n b a (inr (inr (inl e))) = points_at (word w) 28 i n b a point.one_word_too_many e.1 e.2
      role_points d i j (slot_name w) n b a (inr (inr (inr h))) = absurd h
      role_points d i j rule.stray n b a (inl e) = points_at a.0 20 i n b a.1 point.stray e.1 e.2
      role_points d i j rule.stray n b a (inr h) = absurd h

      -- ---- the tags and brackets of a draft stand on the line

      kind_known : (d : Draft K) (g : Option Tag) (x : Tok) (b j : ℕ) → SlotsAt d.slots → Stands line x b → KnownAfter (kind_first words ranges pl line g d x b j)
      kind_known d g (mark c) b j h s =
          cond_both (eqb c 91) _ (fault 20 b) KnownAfter
          (λ e. known (described_at g d.places) (fault 25) _ (λ k. tt)
          (either (ltb (length d.places) pl) _ _ (same_mark c 91 b e s, h) (either (no_kind_ahead words ranges line j) (fault 21 b) (fault 28 b) tt tt)))
          (λ _. tt)
      kind_known d g (word w) b j h s =
          known (described_at g d.places) (fault 25) _ (λ k. tt)
          (known (words w) _ (fault 21 b) (λ k. either (ltb (length d.places) pl) _ (fault 28 b) (tt, h) tt) tt)
      kind_known d g (number n) b j h s = tt

      in_known : (m : Mode) (d : Draft K) (x : Tok) (b j : ℕ) → ModeAt m → SlotsAt d.slots → Stands line x b → KnownAfter (step_in words ranges pl sl line m d x b j)
      in_known Begin d (mark c) b j m h s = either (eqb c 40) _ (fault 20 b) (tt, h) tt
      in_known Begin d (word w) b j m h s = tt
      in_known Begin d (number n) b j m h s = tt
      in_known Opened d (mark c) b j m h s = either (eqb c 35) _ _ (tt, h) (kind_known d None (mark c) b j h s)
      in_known Opened d (word w) b j m h s = kind_known d None (word w) b j h s
      in_known Opened d (number n) b j m h s = tt
      in_known Hashed d (mark c) b j m h s = tt
      in_known Hashed d (word w) b j m h s = tt
      in_known Hashed d (number n) b j m h s = known (steps.tag_number n) _ (fault 27 b) (λ k. ((n, s), h)) tt
      in_known (Tagged t) d (mark c) b j m h s =
          either (eqb c 41) _ _
          (either (eqb (length d.slots) 0) _ _ (m, h) (tt, slots_set d.slots (length d.slots - 1) (slot_at d.slots (length d.slots - 1)).owner (slot_at d.slots (length d.slots - 1)).name t m h))
          (kind_known d (Some t) (mark c) b j h s)
      in_known (Tagged t) d (word w) b j m h s = kind_known d (Some t) (word w) b j h s
      in_known (Tagged t) d (number n) b j m h s = tt
      in_known (Low o) d (mark c) b j m h s = tt
      in_known (Low o) d (word w) b j m h s = tt
      in_known (Low o) d (number n) b j m h s = (m, h)
      in_known (Dotted o a) d (mark c) b j m h s = either (eqb c 46) _ (fault 20 b) (m, h) tt
      in_known (Dotted o a) d (word w) b j m h s = tt
      in_known (Dotted o a) d (number n) b j m h s = tt
      in_known (High o a) d (mark c) b j m h s = tt
      in_known (High o a) d (word w) b j m h s = tt
      in_known (High o a) d (number n) b j m h s = either (lt_z n a) (fault 22 b) _ tt (m, h)
      in_known (Ranged o a k) d (mark c) b j m h s =
          either (eqb c 93) _ (fault 20 b)
          (known (ranges a k) _ (fault 21 o.byte) (λ x. either (ltb (length d.places) pl) _ (fault 28 o.byte) (tt, h) tt) tt) tt
      in_known (Ranged o a k) d (word w) b j m h s = tt
      in_known (Ranged o a k) d (number n) b j m h s = tt
      in_known Inside d (mark c) b j m h s = either (eqb c 41) _ (fault 20 b) (either (eqb d.top 0) _ _ (tt, h) (tt, h)) tt
      in_known Inside d (word w) b j m h s =
          either (ltb 12 (length w)) (fault 23 b) _ tt
          (either (named d.slots d.top (names.number w)) (fault 24 b) _ tt
          (either (ltb (length d.slots) sl) _ (fault 28 b) (tt, slots_push d.slots d.top (names.number w) (length d.places) h) tt))
      in_known Inside d (number n) b j m h s = tt
      in_known (Done g) d x b j m h s = tt

      record Known (from : ℕ) (d : Draft K) : Type 0 where
        front : List Tok
        upto : Upto line 0 front from
        mode₁ : ModeAt d.mode
        slots₁ : SlotsAt d.slots

      clean_known : {from : ℕ} {d : Draft K} → Clean words ranges pl sl line from d → Known from d
      clean_known start = record { front = []; upto = here; mode₁ = tt; slots₁ = tt }
      clean_known (more {from} {d} {x} {i} {j} {d₂} c f k s) =
          let q = clean_known c in
          let r : KnownAfter (go d₂) = subst KnownAfter s (in_known d.mode d x i j q.mode₁ q.slots₁ (record { front = q.front; from = from; upto = q.upto; end = j; at = f })) in
          record { front = q.front ++ (x ∷ []); upto = upto_push q.upto f; mode₁ = r.0; slots₁ = r.1 }

      breaks_point : (n b : ℕ) → 20 ≤ n → Breaks words ranges pl sl line n b → Pointed line n b
      breaks_point n b le (long lt) = absurd (omega arith)
      breaks_point n b le (bytes {from} {d} c f) =
          let a : (11 ≤ n) × (n ≤ 13) × (from ≤ b) × (b < length line) = subst (Ahead from (length line)) f (next_ahead line from) in
          absurd (omega arith)
      breaks_point n b le (by {from} {d} {x} {i} {j} c f h) =
          let q = clean_known c in
          role_points d i j (role_of d.mode x) n b (role_at d.mode x i q.mode₁ (record { front = q.front; from = from; upto = q.upto; end = j; at = f })) h
      breaks_point n b le (ends {from} {d} c f h) = let q = clean_known c in end_points d.mode d n b q.mode₁ q.slots₁ h

pub points : {K : Type 0} → Points K
points words ranges pl sl line n b e le = breaks_point line words ranges pl sl n b le (is_least words ranges pl sl line n b e).breaks
