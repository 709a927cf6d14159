-- A range that is whole and no kind is refused at its first bracket.
use Rattle.std.proofs.Common.{◌≡◌, ℕ, Bool, true, false, cond, not, ◌&&◌, eqb, ◌⊎◌, List, [], ℤ, is_some, Some, None, Option, sym, refl, ap, ◌∙◌, subst, inl, inr, arith}
use lib.Signed.{lt_z}
use Rattle.std.proofs.lemmas.Bool.{cond-true, cond-false, cases_Bool, and_parts, and_from, and_left, not-true, not_from_true, not_from_false, eqb-true}
use Rattle.tokens.specs.Tokens.{mark, word, number, Next, finish, token, refusal, next_token}
use Rattle.reading.specs.declared.draft.Tag.{Tag}
use Rattle.reading.specs.declared.draft.Bracket.{Bracket}
use Rattle.reading.specs.declared.draft.Mode.{Mode}
use Rattle.reading.specs.declared.draft.Mode.TheVariants.{Begin, Opened, Hashed, Tagged, Low, Dotted, High, Ranged, Inside, Done}
use Rattle.reading.specs.Drafts.{Draft, described}
use Rattle.reading.specs.Steps.{go, fault, on_next, on_number, on_mark, on_some, no_kind_ahead, step_in}
use Rattle.grammar.specs.Rules.{range_first, stray, role_of, Broken, Kept, place_room, once, rules}
use Rattle.grammar.specs.Least.{Clean, more, Breaks, by, RangeIsNoKind}

-- ---- a test that looks at tokens ahead

no_test : (P : Type 0) → false ≡ true → P
no_test P e = let z : ◌≡◌ {A = ℕ} 0 1 = cc in absurd (omega arith)

number_next : (n : Next) (f : ℤ → ℕ → Bool) → on_next n false (λ x i j. on_number x (λ a. f a j) false) (λ n b. false) ≡ true → (a : ℤ) × (i : ℕ) × (j : ℕ) × (n ≡ token (number a) i j) × (f a j ≡ true)
number_next finish f e = no_test _ e
number_next (token (mark c) i j) f e = no_test _ e
number_next (token (word w) i j) f e = no_test _ e
number_next (token (number a) i j) f e = (a, i, j, refl, e)
number_next (refusal n b) f e = no_test _ e

mark_next : (c : ℕ) (n : Next) (f : ℕ → Bool) → on_next n false (λ x i j. on_mark c x (f j) false) (λ n b. false) ≡ true → (i : ℕ) × (j : ℕ) × (n ≡ token (mark c) i j) × (f j ≡ true)
mark_next c finish f e = no_test _ e
mark_next c (token (mark b) i j) f e = on (eqb b c) refl e
  where
    on : (p : Bool) → eqb b c ≡ p → cond p (f j) false ≡ true → (i₂ : ℕ) × (j₂ : ℕ) × (token (mark b) i j ≡ token (mark c) i₂ j₂) × (f j₂ ≡ true)
    on true h e = (i, j, ap (λ d. token (mark d) i j) (eqb-true b c h), e)
    on false h e = no_test _ e
mark_next c (token (word w) i j) f e = no_test _ e
mark_next c (token (number a) i j) f e = no_test _ e
mark_next c (refusal n b) f e = no_test _ e

-- ---- where a range begins

abbrev before : Option Tag → Mode
before None = Opened
before (Some t) = Tagged t

same_role : (g h : Option Tag) → range_first g ≡ range_first h → g ≡ h
same_role g h e = cc

no_role : (g : Option Tag) → stray ≡ range_first g → ⊥
no_role g e = let z : ◌≡◌ {A = ℕ} 0 1 = cc in omega arith

begins : (m : Mode) (g : Option Tag) → role_of m (mark 91) ≡ range_first g → m ≡ before g
begins Begin g e = absurd (no_role g e)
begins Opened g e = ap before (same_role None g e)
begins Hashed g e = absurd (no_role g e)
begins (Tagged t) g e = ap before (same_role (Some t) g e)
begins (Low o) g e = absurd (no_role g e)
begins (Dotted o a) g e = absurd (no_role g e)
begins (High o a) g e = absurd (no_role g e)
begins (Ranged o a h) g e = absurd (no_role g e)
begins Inside g e = absurd (no_role g e)
begins (Done r) g e = absurd (no_role g e)

module _ {K : Type 0} (words : List ℕ → Option K) (ranges : ℤ → ℤ → Option K) (pl sl : ℕ) (line : List ℕ) where
  record Rest (low high : ℤ) (from : ℕ) : Type 0 where
    i : ℕ
    j : ℕ
    at : next_token line from ≡ token (mark 93) i j
    rises : lt_z high low ≡ false
    no_kind : is_some (ranges low high) ≡ false

  record Ends (low : ℤ) (from : ℕ) : Type 0 where
    high : ℤ
    i : ℕ
    j : ℕ
    at : next_token line from ≡ token (number high) i j
    rest : Rest low high j

  record Dots (low : ℤ) (from : ℕ) : Type 0 where
    i : ℕ
    j : ℕ
    at : next_token line from ≡ token (mark 46) i j
    ends : Ends low j

  record WholeRange (from : ℕ) : Type 0 where
    low : ℤ
    i : ℕ
    j : ℕ
    at : next_token line from ≡ token (number low) i j
    dots : Dots low j

  abbrev Last : ℤ → ℤ → ℕ → Bool
  Last a h j = on_next (next_token line j) false (λ x i j. on_mark 93 x (not (lt_z h a) && not (is_some (ranges a h))) false) (λ n b. false)

  abbrev High₁ : ℤ → ℕ → Bool
  High₁ a j = on_next (next_token line j) false (λ x i j. on_number x (λ h. Last a h j) false) (λ n b. false)

  abbrev Dots₁ : ℤ → ℕ → Bool
  Dots₁ a j = on_next (next_token line j) false (λ x i j. on_mark 46 x (High₁ a j) false) (λ n b. false)

  rest_of : (a h : ℤ) (j : ℕ) → Last a h j ≡ true → Rest a h j
  rest_of a h j e =
      let m = mark_next 93 (next_token line j) (λ _. not (lt_z h a) && not (is_some (ranges a h))) e in
      let q = and_parts (not (lt_z h a)) (not (is_some (ranges a h))) m.3 in
      record { i = m.0; j = m.1; at = m.2; rises = not-true (lt_z h a) q.0; no_kind = not-true (is_some (ranges a h)) q.1 }

  ends_of : (a : ℤ) (j : ℕ) → High₁ a j ≡ true → Ends a j
  ends_of a j e = let m = number_next (next_token line j) (Last a) e in record { high = m.0; i = m.1; j = m.2; at = m.3; rest = rest_of a m.0 m.2 m.4 }

  dots_of : (a : ℤ) (j : ℕ) → Dots₁ a j ≡ true → Dots a j
  dots_of a j e = let m = mark_next 46 (next_token line j) (High₁ a) e in record { i = m.0; j = m.1; at = m.2; ends = ends_of a m.1 m.3 }

  whole_range : (from : ℕ) → no_kind_ahead words ranges line from ≡ true → WholeRange from
  whole_range from e = let m = number_next (next_token line from) Dots₁ e in record { low = m.0; i = m.1; j = m.2; at = m.3; dots = dots_of m.0 m.2 m.4 }

  abbrev D : Draft K → Mode → Draft K
  D d m = record { mode = m; top = d.top; places = d.places; slots = d.slots }

  -- the rest of the range is read, and its last bracket breaks the rule of the first
  last_breaks : (d : Draft K) (o : Bracket) (a h : ℤ) (from : ℕ) → Clean words ranges pl sl line from (D d (Ranged o a h)) → Rest a h from → Breaks words ranges pl sl line 21 o.byte
  last_breaks d o a h from c w = by c w.at (inl (not_from_false (is_some (ranges a h)) w.no_kind, refl, refl))

  ends_break : (d : Draft K) (o : Bracket) (a : ℤ) (from : ℕ) → Clean words ranges pl sl line from (D d (High o a)) → Ends a from → Breaks words ranges pl sl line 21 o.byte
  ends_break d o a from c w = last_breaks d o a w.high w.j (more {d₂ = D d (Ranged o a w.high)} c w.at (w.rest.rises, tt) (cond-false (lt_z w.high a) _ _ w.rest.rises)) w.rest

  dots_break : (d : Draft K) (o : Bracket) (a : ℤ) (from : ℕ) → Clean words ranges pl sl line from (D d (Dotted o a)) → Dots a from → Breaks words ranges pl sl line 21 o.byte
  dots_break d o a from c w = ends_break d o a w.j (more {d₂ = D d (High o a)} c w.at tt refl) w.ends

  rest_breaks : (d : Draft K) (o : Bracket) (from : ℕ) → Clean words ranges pl sl line from (D d (Low o)) → WholeRange from → Breaks words ranges pl sl line 21 o.byte
  rest_breaks d o from c w = dots_break d o w.low w.j (more {d₂ = D d (Dotted o w.low)} c w.at tt refl) w.dots

  full : (g : Option Tag) (d : Draft K) (i j : ℕ) → place_room pl d ≡ false → no_kind_ahead words ranges line j ≡ true → Broken (rules words ranges pl sl line d i j (range_first g)) 21 i
  full None d i j r e = inl (and_from (not (place_room pl d)) (no_kind_ahead words ranges line j) (not_from_false (place_room pl d) r) e, refl, refl)
  full (Some t) d i j r e = inr (inl (and_from (not (place_room pl d)) (no_kind_ahead words ranges line j) (not_from_false (place_room pl d) r) e, refl, refl))

  kept : (g : Option Tag) (d : Draft K) (i j : ℕ) → place_room pl d ≡ true → Kept (once g d []) → Kept (rules words ranges pl sl line d i j (range_first g))
  kept None d i j r k = (and_left (not (place_room pl d)) (no_kind_ahead words ranges line j) (not_from_true (place_room pl d) r), (not_from_true (place_room pl d) r, tt))
  kept (Some t) d i j r k = (k.0, (and_left (not (place_room pl d)) (no_kind_ahead words ranges line j) (not_from_true (place_room pl d) r), (not_from_true (place_room pl d) r, tt)))

  taken : (g : Option Tag) (d : Draft K) (i j : ℕ) → place_room pl d ≡ true → Kept (once g d []) → step_in words ranges pl sl line (before g) d (mark 91) i j ≡ go (D d (Low (record { tag = g; byte = i })))
  taken None d i j r k = cond-true (place_room pl d) _ _ r
  taken (Some t) d i j r k =
      ap (λ o. on_some o (fault 25) (cond (place_room pl d) (go (D d (Low (record { tag = Some t; byte = i })))) (cond (no_kind_ahead words ranges line j) (fault 21 i) (fault 28 i)))) (cond-false (described d.places t.number) _ _ k.0) ∙
      cond-true (place_room pl d) _ _ r

  range_breaks : (from : ℕ) (d : Draft K) (g : Option Tag) (i j : ℕ) → Clean words ranges pl sl line from d → next_token line from ≡ token (mark 91) i j → role_of d.mode (mark 91) ≡ range_first g → Kept (once g d []) → no_kind_ahead words ranges line j ≡ true → Breaks words ranges pl sl line 21 i
  range_breaks from d g i j c f role k e = on (cases_Bool (place_room pl d))
    where
      on : (place_room pl d ≡ true) ⊎ (place_room pl d ≡ false) → Breaks words ranges pl sl line 21 i
      on (inl r) =
          rest_breaks d (record { tag = g; byte = i }) j
          (more c f (subst (λ x. Kept (rules words ranges pl sl line d i j x)) (sym role) (kept g d i j r k))
          (ap (λ m. step_in words ranges pl sl line m d (mark 91) i j) (begins d.mode g role) ∙ taken g d i j r k))
          (whole_range j e)
      on (inr r) = by c f (subst (λ x. Broken (rules words ranges pl sl line d i j x) 21 i) (sym role) (full g d i j r e))

pub range_is_no_kind : {K : Type 0} → RangeIsNoKind K
range_is_no_kind words ranges pl sl line from d g i j c f role k e = range_breaks words ranges pl sl line from d g i j c f role k e
