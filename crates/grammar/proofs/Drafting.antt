-- The draft of an accepted line is what the term of the line describes.
use Rattle.std.proofs.Common.{◌≡◌, ℕ, zero, suc, ◌-◌, ◌<◌, ◌≤◌, Bool, true, false, cond, eqb, ltb, List, [], ◌∷◌, ◌++◌, map, length, set, ℤ, pos, Some, None, Option, sym, refl, ap, ◌∙◌, subst, append_assoc, append-nil, arith, length-append}
use mathlib.Core.List.{map-append}
use lib.ListN.{length-map}
use lib.Seq.{set-append_seam}
use lib.Signed.{lt_z}
use Rattle.std.proofs.lemmas.List.{length_push, get_or_push}
use Rattle.std.proofs.lemmas.Bool.{cond-false, ne_eqb, ltb-true, ltb-false}
use Rattle.names.specs.Names as names
use Rattle.tokens.specs.Tokens.{Tok, mark, word, number, Next, finish, token, refusal, next_token}
use Rattle.reading.specs.declared.draft.Tag.{Tag}
use Rattle.reading.specs.declared.draft.Bracket.{Bracket}
use Rattle.reading.specs.declared.draft.Mode.{Mode}
use Rattle.reading.specs.declared.draft.Mode.TheVariants.{Begin, Opened, Hashed, Tagged, Low, Dotted, High, Ranged, Inside, Done}
use Rattle.reading.specs.declared.draft.Place.{Place}
use Rattle.reading.specs.declared.draft.Slot.{Slot}
use Rattle.reading.specs.declared.draft.Target.TheVariants.{To, ByTag}
use Rattle.reading.specs.Drafts.{Draft, parent_at, described, named as named?, slot_at, no_slot}
use Rattle.reading.specs.Drafts as drafts
use Rattle.reading.specs.Steps.{Step, go, fault, on_some, on_next, on_step, tag_number, described_at, by_tag, undescribed, end_in, no_kind_ahead, step, read_from, read_place}
use Rattle.grammar.specs.Terms.{Kind, named, range, Term, ref, node, Slots, none, slot, spell_tag, spell_kind, spell, spell_slots}
use Rattle.grammar.specs.Described.{Lists, tagged, lead_of, kind_of, laid, laid_slots, described_by, tag_of, item_of, link_of, listed}
use Rattle.grammar.specs.Lines.{Upto, here, next}
use Rattle.grammar.specs.Good.{IsTag, NewName, NewTag, GoodTag, GoodLeads, GoodRange, GoodTerm, GoodSlots, Good}
use Rattle.grammar.proofs.Checks.{good_tag, tag_new, good_leads, name_new}
use Rattle.grammar.proofs.Parents.{parent_new, parent_before}

-- ---- what is left once a step has been taken

pub by_tag_lem : (ss : List Slot) (o n p : ℕ) (t : Tag) → by_tag (ss ++ (record { owner = o; name = n; target = To p } ∷ [])) t ≡ ss ++ (record { owner = o; name = n; target = ByTag t } ∷ [])
by_tag_lem ss o n p t =
    (λ i. set all (at i) (record { owner = (slot_at all (at i)).owner; name = (slot_at all (at i)).name; target = ByTag t })) ∙
    (λ i. set all (length ss) (record { owner = (last i).owner; name = (last i).name; target = ByTag t })) ∙
    set-append_seam ss s [] (record { owner = o; name = n; target = ByTag t })
  where
    s : Slot
    s = record { owner = o; name = n; target = To p }

    all : List Slot
    all = ss ++ (s ∷ [])

    at : length all - 1 ≡ length ss
    at = omega (arith, length_push ss s)

    last : slot_at all (length ss) ≡ s
    last = get_or_push ss s no_slot (length ss) refl

module _ {K : Type 0} where
  no_go : (n b : ℕ) (d : Draft K) → fault n b ≡ go d → ⊥
  no_go n b d e = let z : ◌≡◌ {A = ℕ} 0 1 = cc in omega arith

  same_draft : (d e : Draft K) → go d ≡ go e → d ≡ e
  same_draft d e p = cc

  then_only : (q : Bool) (y : Step K) (n b : ℕ) (d : Draft K) → cond q y (fault n b) ≡ go d → (q ≡ true) × (y ≡ go d)
  then_only true y n b d e = (refl, e)
  then_only false y n b d e = absurd (no_go n b d e)

  else_only : (q : Bool) (y : Step K) (n b : ℕ) (d : Draft K) → cond q (fault n b) y ≡ go d → (q ≡ false) × (y ≡ go d)
  else_only true y n b d e = absurd (no_go n b d e)
  else_only false y n b d e = (refl, e)

  then_of_three : (q a : Bool) (y : Step K) (n m b : ℕ) (d : Draft K) → cond q y (cond a (fault n b) (fault m b)) ≡ go d → (q ≡ true) × (y ≡ go d)
  then_of_three true a y n m b d e = (refl, e)
  then_of_three false true y n m b d e = absurd (no_go n b d e)
  then_of_three false false y n m b d e = absurd (no_go m b d e)

  none_only : (o : Option ℕ) (n : ℕ) (y : Step K) (d : Draft K) → on_some o (fault n) y ≡ go d → (o ≡ None) × (y ≡ go d)
  none_only None n y d e = (refl, e)
  none_only (Some b) n y d e = absurd (no_go n b d e)

  some_only : {A : Type 0} (o : Option A) (f : A → Step K) (n b : ℕ) (d : Draft K) → on_some o f (fault n b) ≡ go d → (a : A) × (o ≡ Some a) × (f a ≡ go d)
  some_only None f n b d e = absurd (no_go n b d e)
  some_only (Some a) f n b d e = (a, refl, e)

  abbrev pub D : Mode → ℕ → List (Place K) → List Slot → Draft K
  D m top ps ss = record { mode = m; top = top; places = ps; slots = ss }

  abbrev pub shown : List (Place K) → List Slot → Lists K
  shown ps ss = record { places = map item_of ps; slots = map link_of ss }

  module _ (words : List ℕ → Option K) (ranges : ℤ → ℤ → Option K) (pl sl : ℕ) (line : List ℕ) where
    -- the tokens from a byte on are taken, one after the other
    pub data Goes : ℕ → Draft K → List Tok → ℕ → Draft K → Type 0 where
      stop : {i : ℕ} {d : Draft K} → Goes i d [] i d
      take : {from : ℕ} {d : Draft K} {x : Tok} {i j : ℕ} {d₂ : Draft K} {xs : List Tok} {k : ℕ} {z : Draft K} → next_token line from ≡ token x i j → step words ranges pl sl line d x i j ≡ go d₂ → Goes j d₂ xs k z → Goes from d (x ∷ xs) k z

    record Took (d : Draft K) (x : Tok) (xs : List Tok) (k : ℕ) (z : Draft K) : Type 0 where
      i : ℕ
      j : ℕ
      d₂ : Draft K
      took : step words ranges pl sl line d x i j ≡ go d₂
      rest : Goes j d₂ xs k z

    took_one : {from : ℕ} {d : Draft K} {x : Tok} {xs : List Tok} {k : ℕ} {z : Draft K} → Goes from d (x ∷ xs) k z → Took d x xs k z
    took_one (take {i = i} {j = j} {d₂ = d₂} f s g) = record { i = i; j = j; d₂ = d₂; took = s; rest = g }

    -- the draft after a step is known
    onto : {j : ℕ} {d₂ : Draft K} {xs : List Tok} {k : ℕ} {z : Draft K} (d : Draft K) → go d ≡ go d₂ → Goes j d₂ xs k z → Goes j d xs k z
    onto {j} {d₂} {xs} {k} {z} d e g = subst (λ y. Goes j y xs k z) (sym (same_draft d d₂ e)) g

    -- ---- a kind

    abbrev pub before : Option Tag → Mode
    before None = Opened
    before (Some t) = Tagged t

    record KindRead (k : Kind) (g : Option Tag) (top : ℕ) (ps : List (Place K)) (ss : List Slot) (xs : List Tok) (e : ℕ) (z : Draft K) : Type 0 where
      i : ℕ
      kind₁ : K
      is : kind_of words ranges k ≡ Some kind₁
      rises : GoodRange k
      new : described_at g ps ≡ None
      room : length ps < pl
      goes : Goes i (D Inside (length ps) (ps ++ (record { kind = kind₁; parent = top; tag = g } ∷ [])) ss) xs e z

    abbrev pub bracket : Option Tag → ℕ → Bracket
    bracket g b = record { tag = g; byte = b }

    word_step : (g : Option Tag) (top : ℕ) (ps : List (Place K)) (ss : List Slot) (w : List ℕ) (i j : ℕ) (d₂ : Draft K) → step words ranges pl sl line (D (before g) top ps ss) (word w) i j ≡ go d₂ → (k : K) × (words w ≡ Some k) × (described_at g ps ≡ None) × (length ps < pl) × (go (D Inside (length ps) (ps ++ (record { kind = k; parent = top; tag = g } ∷ [])) ss) ≡ go d₂)
    word_step None top ps ss w i j d₂ e =
        let r = some_only (words w) _ 21 i d₂ e in
        let q = then_only (ltb (length ps) pl) _ 28 i d₂ r.2 in
        (r.0, r.1, refl, ltb-true (length ps) pl q.0, q.1)
    word_step (Some t) top ps ss w i j d₂ e =
        let o = none_only (described_at (Some t) ps) 25 _ d₂ e in
        let r = some_only (words w) _ 21 i d₂ o.1 in
        let q = then_only (ltb (length ps) pl) _ 28 i d₂ r.2 in
        (r.0, r.1, o.0, ltb-true (length ps) pl q.0, q.1)

    range_step : (g : Option Tag) (top : ℕ) (ps : List (Place K)) (ss : List Slot) (i j : ℕ) (d₂ : Draft K) → step words ranges pl sl line (D (before g) top ps ss) (mark 91) i j ≡ go d₂ → (described_at g ps ≡ None) × (go (D (Low (bracket g i)) top ps ss) ≡ go d₂)
    range_step None top ps ss i j d₂ e = (refl, (then_of_three (ltb (length ps) pl) (no_kind_ahead words ranges line j) _ 21 28 i d₂ e).1)
    range_step (Some t) top ps ss i j d₂ e =
        let o = none_only (described_at (Some t) ps) 25 _ d₂ e in
        (o.0, (then_of_three (ltb (length ps) pl) (no_kind_ahead words ranges line j) _ 21 28 i d₂ o.1).1)

    last_step : (o : Bracket) (top : ℕ) (ps : List (Place K)) (ss : List Slot) (low high : ℤ) (i j : ℕ) (d₂ : Draft K) → step words ranges pl sl line (D (Ranged o low high) top ps ss) (mark 93) i j ≡ go d₂ → (k : K) × (ranges low high ≡ Some k) × (length ps < pl) × (go (D Inside (length ps) (ps ++ (record { kind = k; parent = top; tag = o.tag } ∷ [])) ss) ≡ go d₂)
    last_step o top ps ss low high i j d₂ e =
        let r = some_only (ranges low high) _ 21 o.byte d₂ e in
        let q = then_only (ltb (length ps) pl) _ 28 o.byte d₂ r.2 in
        (r.0, r.1, ltb-true (length ps) pl q.0, q.1)

    -- the rest of a range, after its first bracket
    range_read : (o : Bracket) (low high : ℤ) (top : ℕ) (ps : List (Place K)) (ss : List Slot) (xs : List Tok) (from e : ℕ) (z : Draft K) → described_at o.tag ps ≡ None → Goes from (D (Low o) top ps ss) (number low ∷ mark 46 ∷ number high ∷ mark 93 ∷ xs) e z → KindRead (range low high) o.tag top ps ss xs e z
    range_read o low high top ps ss xs from e z new₁ run = dots (took_one run)
      where
        last : lt_z high low ≡ false → Took (D (Ranged o low high) top ps ss) (mark 93) xs e z → KindRead (range low high) o.tag top ps ss xs e z
        last up a =
            let s = last_step o top ps ss low high a.i a.j a.d₂ a.took in
            record {
              i = a.j;
              kind₁ = s.0;
              is = s.1;
              rises = up;
              new = new₁;
              room = s.2;
              goes = onto (D Inside (length ps) (ps ++ (record { kind = s.0; parent = top; tag = o.tag } ∷ [])) ss) s.3 a.rest;
            }

        ends : Took (D (High o low) top ps ss) (number high) (mark 93 ∷ xs) e z → KindRead (range low high) o.tag top ps ss xs e z
        ends a =
            let q = else_only (lt_z high low) (go (D (Ranged o low high) top ps ss)) 22 a.i a.d₂ a.took in
            last q.0 (took_one (onto (D (Ranged o low high) top ps ss) q.1 a.rest))

        high₁ : Took (D (Dotted o low) top ps ss) (mark 46) (number high ∷ mark 93 ∷ xs) e z → KindRead (range low high) o.tag top ps ss xs e z
        high₁ a = ends (took_one (onto (D (High o low) top ps ss) a.took a.rest))

        dots : Took (D (Low o) top ps ss) (number low) (mark 46 ∷ number high ∷ mark 93 ∷ xs) e z → KindRead (range low high) o.tag top ps ss xs e z
        dots a = high₁ (took_one (onto (D (Dotted o low) top ps ss) a.took a.rest))

    kind_read : (k : Kind) (g : Option Tag) (top : ℕ) (ps : List (Place K)) (ss : List Slot) (xs : List Tok) (from e : ℕ) (z : Draft K) → Goes from (D (before g) top ps ss) (spell_kind k xs) e z → KindRead k g top ps ss xs e z
    kind_read (named w) g top ps ss xs from e z run = on (took_one run)
      where
        on : Took (D (before g) top ps ss) (word w) xs e z → KindRead (named w) g top ps ss xs e z
        on a =
            let s = word_step g top ps ss w a.i a.j a.d₂ a.took in
            record {
              i = a.j;
              kind₁ = s.0;
              is = s.1;
              rises = tt;
              new = s.2;
              room = s.3;
              goes = onto (D Inside (length ps) (ps ++ (record { kind = s.0; parent = top; tag = g } ∷ [])) ss) s.4 a.rest;
            }
    kind_read (range low high) g top ps ss xs from e z run = on (took_one run)
      where
        on : Took (D (before g) top ps ss) (mark 91) (number low ∷ mark 46 ∷ number high ∷ mark 93 ∷ xs) e z → KindRead (range low high) g top ps ss xs e z
        on a =
            let s = range_step g top ps ss a.i a.j a.d₂ a.took in
            range_read (bracket g a.i) low high top ps ss xs a.j e z s.0 (onto (D (Low (bracket g a.i)) top ps ss) s.1 a.rest)

    -- ---- the beginning of a place

    record NodeRead (g : Option ℤ) (k : Kind) (top : ℕ) (ps : List (Place K)) (ss : List Slot) (xs : List Tok) (e : ℕ) (z : Draft K) : Type 0 where
      tag₁ : Option Tag
      tag_is : tag_of tag₁ ≡ g
      good : GoodTag g (map item_of ps)
      kind₁ : KindRead k tag₁ top ps ss xs e z

    tag_step : (top : ℕ) (ps : List (Place K)) (ss : List Slot) (n : ℤ) (i j : ℕ) (d₂ : Draft K) → step words ranges pl sl line (D Hashed top ps ss) (number n) i j ≡ go d₂ → (k : ℕ) × (n ≡ pos k) × IsTag n × (go (D (Tagged (record { number = k; byte = i })) top ps ss) ≡ go d₂)
    tag_step top ps ss n i j d₂ e =
        let r = some_only (tag_number n) _ 27 i d₂ e in
        let q = good_tag n r.0 r.1 in
        (r.0, q.0, q.1, r.2)

    new_in : (t : Tag) (n : ℤ) (ps : List (Place K)) → n ≡ pos t.number → described_at (Some t) ps ≡ None → NewTag n (map item_of ps)
    new_in t n ps e h = subst (λ g. NewTag g (map item_of ps)) (sym e) (tag_new ps t.number (on (described ps t.number) h))
      where
        on : (q : Bool) → cond q (Some t.byte) None ≡ None → q ≡ false
        on true e = let z : ◌≡◌ {A = ℕ} 0 1 = cc in absurd (omega arith)
        on false e = refl

    node_read : (g : Option ℤ) (k : Kind) (top : ℕ) (ps : List (Place K)) (ss : List Slot) (xs : List Tok) (from e : ℕ) (z : Draft K) → Goes from (D Begin top ps ss) (mark 40 ∷ spell_tag g (spell_kind k xs)) e z → NodeRead g k top ps ss xs e z
    node_read None k top ps ss xs from e z run =
        let a = took_one run in
        record { tag₁ = None; tag_is = refl; good = tt; kind₁ = kind_read k None top ps ss xs a.j e z (onto (D Opened top ps ss) a.took a.rest) }
    node_read (Some n) k top ps ss xs from e z run = hash (took_one run)
      where
        last : (t : Tag) (j : ℕ) → n ≡ pos t.number → IsTag n → Goes j (D (Tagged t) top ps ss) (spell_kind k xs) e z → NodeRead (Some n) k top ps ss xs e z
        last t j same is run =
            let r = kind_read k (Some t) top ps ss xs j e z run in
            record { tag₁ = Some t; tag_is = ap Some (sym same); good = (is, new_in t n ps same r.new); kind₁ = r }

        tag₂ : Took (D Hashed top ps ss) (number n) (spell_kind k xs) e z → NodeRead (Some n) k top ps ss xs e z
        tag₂ a =
            let s = tag_step top ps ss n a.i a.j a.d₂ a.took in
            last (record { number = s.0; byte = a.i }) a.j s.1 s.2 (onto (D (Tagged (record { number = s.0; byte = a.i })) top ps ss) s.3 a.rest)

        number₁ : Took (D Opened top ps ss) (mark 35) (number n ∷ spell_kind k xs) e z → NodeRead (Some n) k top ps ss xs e z
        number₁ a = tag₂ (took_one (onto (D Hashed top ps ss) a.took a.rest))

        hash : Took (D Begin top ps ss) (mark 40) (mark 35 ∷ number n ∷ spell_kind k xs) e z → NodeRead (Some n) k top ps ss xs e z
        hash a = number₁ (took_one (onto (D Opened top ps ss) a.took a.rest))

    -- ---- a term, and slots

    record Read (top : ℕ) (ps : List (Place K)) (xs : List Tok) (e : ℕ) (z : Draft K) (want : Lists K) (Fine : Type 0) : Type 0 where
      i : ℕ
      places₂ : List (Place K)
      slots₂ : List Slot
      more : List (Place K)
      grows : places₂ ≡ ps ++ more
      lists : shown places₂ slots₂ ≡ want
      good : Fine
      goes : Goes i (D Inside top places₂ slots₂) xs e z

    -- what is described where a place has begun
    pub one_more : (k : Kind) (g : Option ℤ) (tag₁ : Option Tag) (kind₁ : K) (top : ℕ) (ps : List (Place K)) (ss : List Slot) → tag_of tag₁ ≡ g → kind_of words ranges k ≡ Some kind₁ → shown (ps ++ (record { kind = kind₁; parent = top; tag = tag₁ } ∷ [])) ss ≡ record { places = map item_of ps ++ (record { kind = kind_of words ranges k; parent = top; tag = g } ∷ []); slots = map link_of ss }
    one_more k g tag₁ kind₁ top ps ss p q =
        (λ i. record { places = map-append item_of ps (record { kind = kind₁; parent = top; tag = tag₁ } ∷ []) i; slots = map link_of ss }) ∙
        (λ i. record { places = map item_of ps ++ (record { kind = sym q i; parent = top; tag = p i } ∷ []); slots = map link_of ss })

    pub item_shown : (k : Kind) (g : Option ℤ) (tag₁ : Option Tag) (kind₁ : K) (top : ℕ) (ps : List (Place K)) (ss : List Slot) (rest : Slots) → tag_of tag₁ ≡ g → kind_of words ranges k ≡ Some kind₁ → laid_slots words ranges rest (length ps) (shown (ps ++ (record { kind = kind₁; parent = top; tag = tag₁ } ∷ [])) ss) ≡ laid words ranges (node g k rest) top (shown ps ss)
    item_shown k g tag₁ kind₁ top ps ss rest p q =
        (λ i. laid_slots words ranges rest (sym (length-map ps item_of) i) (one_more k g tag₁ kind₁ top ps ss p q i))

    -- the slot before a term leads to what it describes
    abbrev pub Slotted : Term → ℕ → ℕ → List (Place K) → List Slot → Lists K
    Slotted t o n ps ss = record { places = map item_of ps; slots = map link_of ss ++ (record { owner = o; name = n; lead = lead_of t (length (map item_of ps)) } ∷ []) }

    pub slot_shown : (g : Option ℤ) (k : Kind) (rest : Slots) (o n : ℕ) (ps : List (Place K)) (ss : List Slot) → shown ps (ss ++ (record { owner = o; name = n; target = To (length ps) } ∷ [])) ≡ Slotted (node g k rest) o n ps ss
    slot_shown g k rest o n ps ss =
        (λ i. record { places = map item_of ps; slots = map-append link_of ss (record { owner = o; name = n; target = To (sym (length-map ps item_of) i) } ∷ []) i })

    refer_step : (top : ℕ) (ps : List (Place K)) (ss : List Slot) (o n : ℕ) (t : Tag) (i j : ℕ) (d₂ : Draft K) → step words ranges pl sl line (D (Tagged t) top ps (ss ++ (record { owner = o; name = n; target = To (length ps) } ∷ []))) (mark 41) i j ≡ go d₂ → go (D Inside top ps (ss ++ (record { owner = o; name = n; target = ByTag t } ∷ []))) ≡ go d₂
    refer_step top ps ss o n t i j d₂ e =
        ap (λ l. go (D Inside top ps l)) (sym (by_tag_lem ss o n (length ps) t)) ∙
        sym (cond-false (eqb (length (ss ++ (record { owner = o; name = n; target = To (length ps) } ∷ []))) 0) _ _ (ne_eqb _ 0 (λ z. omega (arith, length_push ss (record { owner = o; name = n; target = To (length ps) }))))) ∙ e

    close_step : (p top : ℕ) (ps : List (Place K)) (ss : List Slot) (i j : ℕ) (d₂ : Draft K) → (p ≡ 0 → ⊥) → parent_at ps p ≡ top → step words ranges pl sl line (D Inside p ps ss) (mark 41) i j ≡ go d₂ → go (D Inside top ps ss) ≡ go d₂
    close_step p top ps ss i j d₂ ne parent e =
        ap (λ q. go (D Inside q ps ss)) (sym parent) ∙ sym (cond-false (eqb p 0) _ _ (ne_eqb p 0 ne)) ∙ e

    name_step : (top : ℕ) (ps : List (Place K)) (ss : List Slot) (w : List ℕ) (i j : ℕ) (d₂ : Draft K) → step words ranges pl sl line (D Inside top ps ss) (word w) i j ≡ go d₂ → (length w ≤ 12) × NewName top (names.number w) (map link_of ss) × (length ss < sl) × (go (D Begin top ps (ss ++ (record { owner = top; name = names.number w; target = To (length ps) } ∷ []))) ≡ go d₂)
    name_step top ps ss w i j d₂ e =
        let a = else_only (ltb 12 (length w)) _ 23 i d₂ e in
        let b = else_only (named? ss top (names.number w)) _ 24 i d₂ a.1 in
        let c = then_only (ltb (length ss) sl) _ 28 i d₂ b.1 in
        (ltb-false 12 (length w) a.0, name_new ss top (names.number w) b.0, ltb-true (length ss) sl c.0, c.1)

    longer : (ps qs more : List (Place K)) → qs ≡ ps ++ more → 0 < length ps → 0 < length qs
    longer ps qs more e some = omega (arith, ap length e, length-append ps more)

    ref_read : (g : ℤ) (top o n : ℕ) (ps : List (Place K)) (ss : List Slot) (xs : List Tok) (from e : ℕ) (z : Draft K) → Goes from (D Begin top ps (ss ++ (record { owner = o; name = n; target = To (length ps) } ∷ []))) (spell (ref g) xs) e z → Read top ps xs e z (Slotted (ref g) o n ps ss) (IsTag g)
    ref_read g top o n ps ss xs from e z run = hash (took_one run)
      where
        slots₁ : List Slot
        slots₁ = ss ++ (record { owner = o; name = n; target = To (length ps) } ∷ [])

        last : (t : Tag) → g ≡ pos t.number → IsTag g → Took (D (Tagged t) top ps (ss ++ (record { owner = o; name = n; target = To (length ps) } ∷ []))) (mark 41) xs e z → Read top ps xs e z (Slotted (ref g) o n ps ss) (IsTag g)
        last t same is h = record {
          i = h.j;
          places₂ = ps;
          slots₂ = ss ++ (record { owner = o; name = n; target = ByTag t } ∷ []);
          more = [];
          grows = sym (append-nil ps);
          lists =
              (λ i. record { places = map item_of ps; slots = map-append link_of ss (record { owner = o; name = n; target = ByTag t } ∷ []) i }) ∙
              (λ i. record { places = map item_of ps; slots = map link_of ss ++ (record { owner = o; name = n; lead = tagged (sym same i) } ∷ []) });
          good = is;
          goes = onto (D Inside top ps (ss ++ (record { owner = o; name = n; target = ByTag t } ∷ []))) (refer_step top ps ss o n t h.i h.j h.d₂ h.took) h.rest;
        }

        tag₂ : Took (D Hashed top ps (ss ++ (record { owner = o; name = n; target = To (length ps) } ∷ []))) (number g) (mark 41 ∷ xs) e z → Read top ps xs e z (Slotted (ref g) o n ps ss) (IsTag g)
        tag₂ a =
            let s = tag_step top ps slots₁ g a.i a.j a.d₂ a.took in
            last (record { number = s.0; byte = a.i }) s.1 s.2 (took_one (onto (D (Tagged (record { number = s.0; byte = a.i })) top ps slots₁) s.3 a.rest))

        number₁ : Took (D Opened top ps (ss ++ (record { owner = o; name = n; target = To (length ps) } ∷ []))) (mark 35) (number g ∷ mark 41 ∷ xs) e z → Read top ps xs e z (Slotted (ref g) o n ps ss) (IsTag g)
        number₁ a = tag₂ (took_one (onto (D Hashed top ps slots₁) a.took a.rest))

        hash : Took (D Begin top ps (ss ++ (record { owner = o; name = n; target = To (length ps) } ∷ []))) (mark 40) (mark 35 ∷ number g ∷ mark 41 ∷ xs) e z → Read top ps xs e z (Slotted (ref g) o n ps ss) (IsTag g)
        hash a = number₁ (took_one (onto (D Opened top ps slots₁) a.took a.rest))

    -- a place is good, with its slots
    node_good : (g : Option ℤ) (k : Kind) (rest : Slots) (top : ℕ) (ps : List (Place K)) (ss : List Slot) (xs : List Tok) (e : ℕ) (z : Draft K) → (m : NodeRead g k top ps ss xs e z) → GoodSlots words ranges pl sl rest (length ps) (shown (ps ++ (record { kind = m.kind₁.kind₁; parent = top; tag = m.tag₁ } ∷ [])) ss) → GoodTerm words ranges pl sl (node g k rest) top (shown ps ss)
    node_good g k rest top ps ss xs e z m good = (
      m.good,
      m.kind₁.rises,
      (m.kind₁.kind₁, m.kind₁.is),
      omega (arith, m.kind₁.room, length-map ps item_of),
      subst (λ q. GoodSlots words ranges pl sl rest q (record { places = map item_of ps ++ (record { kind = kind_of words ranges k; parent = top; tag = g } ∷ []); slots = map link_of ss })) (sym (length-map ps item_of))
          (subst (GoodSlots words ranges pl sl rest (length ps)) (one_more k g m.tag₁ m.kind₁.kind₁ top ps ss m.tag_is m.kind₁.is) good),
    )

    -- what stands after a place that has ended
    node_ends : (g : Option ℤ) (k : Kind) (rest : Slots) (top o n : ℕ) (ps : List (Place K)) (ss : List Slot) (xs : List Tok) (e : ℕ) (z : Draft K) → 0 < length ps → (m : NodeRead g k top ps (ss ++ (record { owner = o; name = n; target = To (length ps) } ∷ [])) (spell_slots rest (mark 41 ∷ xs)) e z) → Read (length ps) (ps ++ (record { kind = m.kind₁.kind₁; parent = top; tag = m.tag₁ } ∷ [])) (mark 41 ∷ xs) e z (laid_slots words ranges rest (length ps) (shown (ps ++ (record { kind = m.kind₁.kind₁; parent = top; tag = m.tag₁ } ∷ [])) (ss ++ (record { owner = o; name = n; target = To (length ps) } ∷ [])))) (GoodSlots words ranges pl sl rest (length ps) (shown (ps ++ (record { kind = m.kind₁.kind₁; parent = top; tag = m.tag₁ } ∷ [])) (ss ++ (record { owner = o; name = n; target = To (length ps) } ∷ [])))) → Read top ps xs e z (laid words ranges (node g k rest) top (Slotted (node g k rest) o n ps ss)) (GoodTerm words ranges pl sl (node g k rest) top (Slotted (node g k rest) o n ps ss))
    node_ends g k rest top o n ps ss xs e z some m r = on (took_one r.goes)
      where
        parent : parent_at r.places₂ (length ps) ≡ top
        parent =
            ap (λ l. parent_at l (length ps)) r.grows ∙
            parent_before (ps ++ (record { kind = m.kind₁.kind₁; parent = top; tag = m.tag₁ } ∷ [])) r.more (length ps) (omega (arith, length_push ps (record { kind = m.kind₁.kind₁; parent = top; tag = m.tag₁ }))) ∙
            parent_new ps (record { kind = m.kind₁.kind₁; parent = top; tag = m.tag₁ })

        on : Took (D Inside (length ps) r.places₂ r.slots₂) (mark 41) xs e z → Read top ps xs e z (laid words ranges (node g k rest) top (Slotted (node g k rest) o n ps ss)) (GoodTerm words ranges pl sl (node g k rest) top (Slotted (node g k rest) o n ps ss))
        on c = record {
          i = c.j;
          places₂ = r.places₂;
          slots₂ = r.slots₂;
          more = record { kind = m.kind₁.kind₁; parent = top; tag = m.tag₁ } ∷ r.more;
          grows = r.grows ∙ append_assoc ps (record { kind = m.kind₁.kind₁; parent = top; tag = m.tag₁ } ∷ []) r.more;
          lists =
              r.lists ∙ item_shown k g m.tag₁ m.kind₁.kind₁ top ps (ss ++ (record { owner = o; name = n; target = To (length ps) } ∷ [])) rest m.tag_is m.kind₁.is ∙
              ap (laid words ranges (node g k rest) top) (slot_shown g k rest o n ps ss);
          good =
              subst (GoodTerm words ranges pl sl (node g k rest) top) (slot_shown g k rest o n ps ss)
              (node_good g k rest top ps (ss ++ (record { owner = o; name = n; target = To (length ps) } ∷ [])) (spell_slots rest (mark 41 ∷ xs)) e z m r.good);
          goes = onto (D Inside top r.places₂ r.slots₂) (close_step (length ps) top r.places₂ r.slots₂ c.i c.j c.d₂ (λ q. omega arith) parent c.took) c.rest;
        }

    -- one slot, and then the others
    slots_join : (w : List ℕ) (t : Term) (ts : Slots) (top : ℕ) (ps : List (Place K)) (ss : List Slot) (xs : List Tok) (e : ℕ) (z : Draft K) → length w ≤ 12 → NewName top (names.number w) (map link_of ss) → length ss < sl → (r : Read top ps (spell_slots ts xs) e z (laid words ranges t top (Slotted t top (names.number w) ps ss)) (GoodTerm words ranges pl sl t top (Slotted t top (names.number w) ps ss))) → Read top r.places₂ xs e z (laid_slots words ranges ts top (shown r.places₂ r.slots₂)) (GoodSlots words ranges pl sl ts top (shown r.places₂ r.slots₂)) → Read top ps xs e z (laid_slots words ranges (slot w t ts) top (shown ps ss)) (GoodSlots words ranges pl sl (slot w t ts) top (shown ps ss))
    slots_join w t ts top ps ss xs e z short new room r u = record {
      i = u.i;
      places₂ = u.places₂;
      slots₂ = u.slots₂;
      more = r.more ++ u.more;
      grows = u.grows ∙ ap (λ l. l ++ u.more) r.grows ∙ append_assoc ps r.more u.more;
      lists = u.lists ∙ ap (laid_slots words ranges ts top) r.lists;
      good = (short, new, omega (arith, room, length-map ss link_of), r.good, subst (GoodSlots words ranges pl sl ts top) r.lists u.good);
      goes = u.goes;
    }

    mutual
      term_read : (t : Term) (top o n : ℕ) (ps : List (Place K)) (ss : List Slot) (xs : List Tok) (from e : ℕ) (z : Draft K) → 0 < length ps → Goes from (D Begin top ps (ss ++ (record { owner = o; name = n; target = To (length ps) } ∷ []))) (spell t xs) e z → Read top ps xs e z (laid words ranges t top (Slotted t o n ps ss)) (GoodTerm words ranges pl sl t top (Slotted t o n ps ss))
      term_read (ref g) top o n ps ss xs from e z some run = ref_read g top o n ps ss xs from e z run
      term_read (node g k rest) top o n ps ss xs from e z some run =
          let slots₁ = ss ++ (record { owner = o; name = n; target = To (length ps) } ∷ []) in
          let m = node_read g k top ps slots₁ (spell_slots rest (mark 41 ∷ xs)) from e z run in
          let x : Place K = record { kind = m.kind₁.kind₁; parent = top; tag = m.tag₁ } in
          node_ends g k rest top o n ps ss xs e z some m
          (slots_read rest (length ps) (ps ++ (x ∷ [])) slots₁ (mark 41 ∷ xs) m.kind₁.i e z (omega (arith, length_push ps x)) m.kind₁.goes)

      slots_read : (ts : Slots) (top : ℕ) (ps : List (Place K)) (ss : List Slot) (xs : List Tok) (from e : ℕ) (z : Draft K) → 0 < length ps → Goes from (D Inside top ps ss) (spell_slots ts xs) e z → Read top ps xs e z (laid_slots words ranges ts top (shown ps ss)) (GoodSlots words ranges pl sl ts top (shown ps ss))
      slots_read none top ps ss xs from e z some run = record { i = from; places₂ = ps; slots₂ = ss; more = []; grows = sym (append-nil ps); lists = refl; good = tt; goes = run }
      slots_read (slot w t ts) top ps ss xs from e z some run =
          let a = took_one run in
          let s = name_step top ps ss w a.i a.j a.d₂ a.took in
          let r = term_read t top top (names.number w) ps ss (spell_slots ts xs) a.j e z some (onto (D Begin top ps (ss ++ (record { owner = top; name = names.number w; target = To (length ps) } ∷ []))) s.3 a.rest) in
          slots_join w t ts top ps ss xs e z s.0 s.1 s.2 r
          (slots_read ts top r.places₂ r.slots₂ xs r.i e z (longer ps r.places₂ r.more r.grows some) r.goes)

    -- ---- the whole line

    ended : {i : ℕ} {d : Draft K} {e : ℕ} {z : Draft K} → Goes i d [] e z → d ≡ z
    ended stop = refl

    pub record Whole-read (t : Term) (z : Draft K) : Type 0 where
      pub lists : listed z ≡ described_by words ranges t
      pub good : Good words ranges pl sl t

    -- a reference alone is not accepted
    root_ref : (g : ℤ) (from e b : ℕ) (y z : Draft K) → Goes from drafts.nothing (spell (ref g) []) e y → end_in y.mode y b ≡ go z → ⊥
    root_ref g from e b y z run end = hash (took_one run)
      where
        last : (t : Tag) → Took (D (Tagged t) 0 [] []) (mark 41) [] e y → ⊥
        last t a = no_go 26 t.byte z (ap (λ d. end_in d.mode d b) (ended (onto (D (Done (Some t)) 0 [] []) a.took a.rest)) ∙ end)

        tag₂ : Took (D Hashed 0 [] []) (number g) (mark 41 ∷ []) e y → ⊥
        tag₂ a =
            let s = tag_step 0 [] [] g a.i a.j a.d₂ a.took in
            last (record { number = s.0; byte = a.i }) (took_one (onto (D (Tagged (record { number = s.0; byte = a.i })) 0 [] []) s.3 a.rest))

        number₁ : Took (D Opened 0 [] []) (mark 35) (number g ∷ mark 41 ∷ []) e y → ⊥
        number₁ a = tag₂ (took_one (onto (D Hashed 0 [] []) a.took a.rest))

        hash : Took (D Begin 0 [] []) (mark 40) (mark 35 ∷ number g ∷ mark 41 ∷ []) e y → ⊥
        hash a = number₁ (took_one (onto (D Opened 0 [] []) a.took a.rest))

    root_ends : (g : Option ℤ) (k : Kind) (rest : Slots) (e b : ℕ) (y z : Draft K) → end_in y.mode y b ≡ go z → (m : NodeRead g k 0 [] [] (spell_slots rest (mark 41 ∷ [])) e y) → Read 0 (record { kind = m.kind₁.kind₁; parent = 0; tag = m.tag₁ } ∷ []) (mark 41 ∷ []) e y (laid_slots words ranges rest 0 (shown (record { kind = m.kind₁.kind₁; parent = 0; tag = m.tag₁ } ∷ []) [])) (GoodSlots words ranges pl sl rest 0 (shown (record { kind = m.kind₁.kind₁; parent = 0; tag = m.tag₁ } ∷ []) [])) → Whole-read (node g k rest) z
    root_ends g k rest e b y z end m r = on (took_one r.goes)
      where
        all : shown r.places₂ r.slots₂ ≡ described_by words ranges (node g k rest)
        all = r.lists ∙ item_shown k g m.tag₁ m.kind₁.kind₁ 0 [] [] rest m.tag_is m.kind₁.is

        known : (undescribed r.slots₂ r.places₂ ≡ None) × (go (D (Done None) 0 r.places₂ r.slots₂) ≡ go z) → Whole-read (node g k rest) z
        known same = record {
          lists = ap listed (sym (same_draft (D (Done None) 0 r.places₂ r.slots₂) z same.1)) ∙ all;
          good = record {
            parts = node_good g k rest 0 [] [] (spell_slots rest (mark 41 ∷ [])) e y m r.good;
            root = tt;
            leads = subst (λ l. GoodLeads l.slots l.places) all (good_leads r.slots₂ r.places₂ same.0);
          };
        }

        on : Took (D Inside 0 r.places₂ r.slots₂) (mark 41) [] e y → Whole-read (node g k rest) z
        on c =
            let last = ended (onto (D (Done None) 0 r.places₂ r.slots₂) c.took c.rest) in
            known (none_only (undescribed r.slots₂ r.places₂) 26 (go (D (Done None) 0 r.places₂ r.slots₂)) z (ap (λ d. end_in d.mode d b) last ∙ end))

    pub root_read : (t : Term) (from e b : ℕ) (y z : Draft K) → Goes from drafts.nothing (spell t []) e y → end_in y.mode y b ≡ go z → Whole-read t z
    root_read (ref g) from e b y z run end = absurd (root_ref g from e b y z run end)
    root_read (node g k rest) from e b y z run end =
        let m = node_read g k 0 [] [] (spell_slots rest (mark 41 ∷ [])) from e y run in
        root_ends g k rest e b y z end m
        (slots_read rest 0 (record { kind = m.kind₁.kind₁; parent = 0; tag = m.tag₁ } ∷ []) [] (mark 41 ∷ []) m.kind₁.i e y (omega arith) m.kind₁.goes)

    -- ---- the tokens of an accepted line are taken, up to its end

    record Went (from : ℕ) (d z : Draft K) : Type 0 where
      xs : List Tok
      j : ℕ
      y : Draft K
      goes : Goes from d xs j y
      finished : next_token line j ≡ finish
      end : end_in y.mode y (length line) ≡ go z

    went : (turns from : ℕ) (d z : Draft K) → read_from words ranges turns pl sl line from d ≡ go z → Went from d z
    went zero from d z e = absurd (no_go 0 0 z e)
    went (suc turns) from d z e = on (λ j d₂ e₂. went turns j d₂ z e₂) (next_token line from) refl e
      where
        after : ((j : ℕ) (d₂ : Draft K) → read_from words ranges turns pl sl line j d₂ ≡ go z → Went j d₂ z) → (x : Tok) (i j : ℕ) → next_token line from ≡ token x i j → (s : Step K) → step words ranges pl sl line d x i j ≡ s → on_step s (λ d₂. read_from words ranges turns pl sl line j d₂) ≡ go z → Went from d z
        after ih x i j f (go d₂) s e =
            let w = ih j d₂ e in
            record { xs = x ∷ w.xs; j = w.j; y = w.y; goes = take f s w.goes; finished = w.finished; end = w.end }
        after ih x i j f (fault n b) s e = absurd (no_go n b z e)

        on : ((j : ℕ) (d₂ : Draft K) → read_from words ranges turns pl sl line j d₂ ≡ go z → Went j d₂ z) → (n : Next) → next_token line from ≡ n → on_next n (end_in d.mode d (length line)) (λ x i j. on_step (step words ranges pl sl line d x i j) (λ d₂. read_from words ranges turns pl sl line j d₂)) fault ≡ go z → Went from d z
        on ih finish f e = record { xs = []; j = from; y = d; goes = stop; finished = f; end = e }
        on ih (token x i j) f e = after ih x i j f (step words ranges pl sl line d x i j) refl e
        on ih (refusal n b) f e = absurd (no_go n b z e)

    line_went : (z : Draft K) → read_place words ranges pl sl line ≡ go z → Went 0 drafts.nothing z
    unfolding read_place
    line_went z e = went (suc (length line)) 0 drafts.nothing z (else_only (ltb 60000 (length line)) _ 10 0 z e).1

    pub not_long : (z : Draft K) → read_place words ranges pl sl line ≡ go z → length line ≤ 60000
    unfolding read_place
    not_long z e = ltb-false 60000 (length line) (else_only (ltb 60000 (length line)) _ 10 0 z e).0

    pub goes_upto : {from : ℕ} {d : Draft K} {xs : List Tok} {j : ℕ} {y : Draft K} → Goes from d xs j y → Upto line from xs j
    goes_upto stop = here
    goes_upto (take f s g) = next f (goes_upto g)

    pub drafted : (t : Term) (z : Draft K) → read_place words ranges pl sl line ≡ go z → ((xs : List Tok) (j : ℕ) → Upto line 0 xs j → next_token line j ≡ finish → xs ≡ spell t []) → Whole-read t z
    drafted t z e same =
        let w = line_went z e in
        root_read t 0 w.j (length line) w.y z (subst (λ l. Goes 0 drafts.nothing l w.j w.y) (same w.xs w.j (goes_upto w.goes) w.finished) w.goes) w.end
