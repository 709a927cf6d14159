-- The line of a good term is accepted.
use Rattle.std.proofs.Common.{◌≡◌, ℕ, zero, suc, ◌+◌, ◌<◌, ◌≤◌, false, cond, eqb, ltb, List, [], ◌∷◌, ◌++◌, map, length, ℤ, Some, None, Option, sym, refl, ap, ◌∙◌, subst, append_assoc, append-nil, arith, length-append}
use mathlib.Core.List.{map-append}
use lib.ListN.{length-map}
use lib.Signed.{lt_z}
use Rattle.std.proofs.lemmas.List.{length_push}
use Rattle.std.proofs.lemmas.Bool.{cond-true, cond-false, ne_eqb, lt-ltb, le-ltb}
use Rattle.names.specs.Names as names
use Rattle.tokens.specs.Tokens.{Tok, mark, word, number, finish, token, next_token}
use Rattle.tokens.proofs.Ahead.{Ahead, next_ahead}
use Rattle.reading.specs.declared.draft.Tag.{Tag}
use Rattle.reading.specs.declared.draft.Bracket.{Bracket}
use Rattle.reading.specs.declared.draft.Mode.TheVariants.{Begin, Opened, Hashed, Tagged, Low, Dotted, High, Ranged, Inside, Done}
use Rattle.reading.specs.declared.draft.Place.{Place}
use Rattle.reading.specs.declared.draft.Slot.{Slot}
use Rattle.reading.specs.declared.draft.Target.TheVariants.{To, ByTag}
use Rattle.reading.specs.Drafts.{Draft, parent_at, described, named as named?}
use Rattle.reading.specs.Drafts as drafts
use Rattle.reading.specs.Steps.{go, fault, on_some, on_next, on_step, described_at, describe, end_in, no_kind_ahead, step, read_from, read_place}
use Rattle.grammar.specs.Terms.{Kind, named, range, Term, ref, node, Slots, none, slot, spell_tag, spell_kind, spell, spell_slots}
use Rattle.grammar.specs.Described.{Lists, tagged, with_place, kind_of, laid, laid_slots, described_by, tag_of, item_of, link_of}
use Rattle.grammar.specs.Lines.{Upto, here, next, Means}
use Rattle.grammar.specs.Good.{IsTag, NewName, GoodTag, GoodLeads, GoodRange, GoodTerm, GoodSlots, Good}
use Rattle.grammar.proofs.Checks.{tag_good, new_tag, leads_good, new_name}
use Rattle.grammar.proofs.Parents.{parent_new, parent_before}
use Rattle.grammar.proofs.Drafting.{by_tag_lem, D, shown, before, one_more, item_shown, Slotted, slot_shown}

module _ {K : Type 0} (words : List ℕ → Option K) (ranges : ℤ → ℤ → Option K) (pl sl : ℕ) (line : List ℕ) where
  -- ---- the tokens from a byte on are taken

  pub data Reach : ℕ → Draft K → ℕ → Draft K → Type 0 where
    stay : {i : ℕ} {d : Draft K} → Reach i d i d
    take : {from : ℕ} {d : Draft K} {x : Tok} {i j : ℕ} {d₂ : Draft K} {k : ℕ} {z : Draft K} → next_token line from ≡ token x i j → step words ranges pl sl line d x i j ≡ go d₂ → Reach j d₂ k z → Reach from d k z

  reach_trans : {a : ℕ} {d : Draft K} {b : ℕ} {y : Draft K} {c : ℕ} {z : Draft K} → Reach a d b y → Reach b y c z → Reach a d c z
  reach_trans stay r = r
  reach_trans (take f s q) r = take f s (reach_trans q r)

  record Token (from : ℕ) (x : Tok) (xs : List Tok) (e : ℕ) : Type 0 where
    i : ℕ
    j : ℕ
    at : next_token line from ≡ token x i j
    rest : Upto line j xs e

  one : {from : ℕ} {x : Tok} {xs : List Tok} {e : ℕ} → Upto line from (x ∷ xs) e → Token from x xs e
  one (next {i = i} {j = j} f u) = record { i = i; j = j; at = f; rest = u }

  -- ---- steps

  abbrev added : ℕ → List (Place K) → Option Tag → K → List (Place K)
  added top ps g k = ps ++ (record { kind = k; parent = top; tag = g } ∷ [])

  described_none : (g : Option Tag) (ps : List (Place K)) → GoodTag (tag_of g) (map item_of ps) → described_at g ps ≡ None
  described_none None ps h = refl
  described_none (Some t) ps h = cond-false (described ps t.number) _ _ (new_tag ps t.number h.1)

  word_on : (g : Option Tag) (top : ℕ) (ps : List (Place K)) (ss : List Slot) (w : List ℕ) (k : K) (i j : ℕ) → described_at g ps ≡ None → words w ≡ Some k → length ps < pl → step words ranges pl sl line (D (before words ranges pl sl line g) top ps ss) (word w) i j ≡ go (D Inside (length ps) (added top ps g k) ss)
  word_on None top ps ss w k i j f e room = ap (λ o. on_some o (λ k. describe pl None k (D Opened top ps ss) i) (fault 21 i)) e ∙ cond-true (ltb (length ps) pl) _ _ (lt-ltb (length ps) pl room)
  word_on (Some t) top ps ss w k i j f e room =
      ap (λ o. on_some o (fault 25) (on_some (words w) (λ k. describe pl (Some t) k (D (Tagged t) top ps ss) i) (fault 21 i))) f ∙
      ap (λ o. on_some o (λ k. describe pl (Some t) k (D (Tagged t) top ps ss) i) (fault 21 i)) e ∙ cond-true (ltb (length ps) pl) _ _ (lt-ltb (length ps) pl room)

  range_on : (g : Option Tag) (top : ℕ) (ps : List (Place K)) (ss : List Slot) (i j : ℕ) → described_at g ps ≡ None → length ps < pl → step words ranges pl sl line (D (before words ranges pl sl line g) top ps ss) (mark 91) i j ≡ go (D (Low (record { tag = g; byte = i })) top ps ss)
  range_on None top ps ss i j f room = cond-true (ltb (length ps) pl) _ _ (lt-ltb (length ps) pl room)
  range_on (Some t) top ps ss i j f room =
      ap (λ o. on_some o (fault 25) (cond (ltb (length ps) pl) (go (D (Low (record { tag = Some t; byte = i })) top ps ss)) (cond (no_kind_ahead words ranges line j) (fault 21 i) (fault 28 i)))) f ∙
      cond-true (ltb (length ps) pl) _ _ (lt-ltb (length ps) pl room)

  last_on : (o : Bracket) (top : ℕ) (ps : List (Place K)) (ss : List Slot) (low high : ℤ) (k : K) (i j : ℕ) → ranges low high ≡ Some k → length ps < pl → step words ranges pl sl line (D (Ranged o low high) top ps ss) (mark 93) i j ≡ go (D Inside (length ps) (added top ps o.tag k) ss)
  last_on o top ps ss low high k i j e room =
      ap (λ x. on_some x (λ k. describe pl o.tag k (D (Ranged o low high) top ps ss) o.byte) (fault 21 o.byte)) e ∙ cond-true (ltb (length ps) pl) _ _ (lt-ltb (length ps) pl room)

  tag_on : (top : ℕ) (ps : List (Place K)) (ss : List Slot) (g : ℤ) (h : IsTag g) (i j : ℕ) → step words ranges pl sl line (D Hashed top ps ss) (number g) i j ≡ go (D (Tagged (record { number = h.number; byte = i })) top ps ss)
  tag_on top ps ss g h i j = ap (λ o. on_some o (λ t. go (D (Tagged (record { number = t; byte = i })) top ps ss)) (fault 27 i)) (tag_good g h)

  name_on : (top : ℕ) (ps : List (Place K)) (ss : List Slot) (w : List ℕ) (i j : ℕ) → length w ≤ 12 → NewName top (names.number w) (map link_of ss) → length ss < sl → step words ranges pl sl line (D Inside top ps ss) (word w) i j ≡ go (D Begin top ps (ss ++ (record { owner = top; name = names.number w; target = To (length ps) } ∷ [])))
  name_on top ps ss w i j short new room =
      cond-false (ltb 12 (length w)) _ _ (le-ltb 12 (length w) short) ∙
      cond-false (named? ss top (names.number w)) _ _ (new_name ss top (names.number w) new) ∙
      cond-true (ltb (length ss) sl) _ _ (lt-ltb (length ss) sl room)

  refer_on : (top : ℕ) (ps : List (Place K)) (ss : List Slot) (o n : ℕ) (t : Tag) (i j : ℕ) → step words ranges pl sl line (D (Tagged t) top ps (ss ++ (record { owner = o; name = n; target = To (length ps) } ∷ []))) (mark 41) i j ≡ go (D Inside top ps (ss ++ (record { owner = o; name = n; target = ByTag t } ∷ [])))
  refer_on top ps ss o n t i j =
      cond-false (eqb (length (ss ++ (record { owner = o; name = n; target = To (length ps) } ∷ []))) 0) _ _ (ne_eqb _ 0 (λ z. omega (arith, length_push ss (record { owner = o; name = n; target = To (length ps) })))) ∙
      ap (λ l. go (D Inside top ps l)) (by_tag_lem ss o n (length ps) t)

  close_on : (p top : ℕ) (ps : List (Place K)) (ss : List Slot) (i j : ℕ) → (p ≡ 0 → ⊥) → parent_at ps p ≡ top → step words ranges pl sl line (D Inside p ps ss) (mark 41) i j ≡ go (D Inside top ps ss)
  close_on p top ps ss i j ne parent = cond-false (eqb p 0) _ _ (ne_eqb p 0 ne) ∙ ap (λ q. go (D Inside q ps ss)) parent

  -- ---- a kind, and the beginning of a place

  record Kinded (from : ℕ) (d : Draft K) (g : Option Tag) (top : ℕ) (ps : List (Place K)) (ss : List Slot) (k : K) (xs : List Tok) (e : ℕ) : Type 0 where
    i : ℕ
    reach : Reach from d i (D Inside (length ps) (added top ps g k) ss)
    rest : Upto line i xs e

  range_goes : (o : Bracket) (low high : ℤ) (top : ℕ) (ps : List (Place K)) (ss : List Slot) (k : K) (xs : List Tok) (from e : ℕ) → lt_z high low ≡ false → ranges low high ≡ Some k → length ps < pl → Upto line from (number low ∷ mark 46 ∷ number high ∷ mark 93 ∷ xs) e → Kinded from (D (Low o) top ps ss) o.tag top ps ss k xs e
  range_goes o low high top ps ss k xs from e le is room u = dots (one u)
    where
      all : (a : Token from (number low) (mark 46 ∷ number high ∷ mark 93 ∷ xs) e) (b : Token a.j (mark 46) (number high ∷ mark 93 ∷ xs) e) (c : Token b.j (number high) (mark 93 ∷ xs) e) (h : Token c.j (mark 93) xs e) → Kinded from (D (Low o) top ps ss) o.tag top ps ss k xs e
      all a b c h = record {
        i = h.j;
        reach =
            take {d₂ = D (Dotted o low) top ps ss} a.at refl
            (take {d₂ = D (High o low) top ps ss} b.at refl
            (take {d₂ = D (Ranged o low high) top ps ss} c.at (cond-false (lt_z high low) _ _ le)
            (take {d₂ = D Inside (length ps) (added top ps o.tag k) ss} h.at (last_on o top ps ss low high k h.i h.j is room) stay)));
        rest = h.rest;
      }

      dots : Token from (number low) (mark 46 ∷ number high ∷ mark 93 ∷ xs) e → Kinded from (D (Low o) top ps ss) o.tag top ps ss k xs e
      dots a = let b = one a.rest in let c = one b.rest in all a b c (one c.rest)

  kind_goes : (k : Kind) (g : Option Tag) (top : ℕ) (ps : List (Place K)) (ss : List Slot) (x : K) (xs : List Tok) (from e : ℕ) → GoodRange k → kind_of words ranges k ≡ Some x → described_at g ps ≡ None → length ps < pl → Upto line from (spell_kind k xs) e → Kinded from (D (before words ranges pl sl line g) top ps ss) g top ps ss x xs e
  kind_goes (named w) g top ps ss x xs from e le is new room u =
      let a = one u in
      record { i = a.j; reach = take {d₂ = D Inside (length ps) (added top ps g x) ss} a.at (word_on g top ps ss w x a.i a.j new is room) stay; rest = a.rest }
  kind_goes (range low high) g top ps ss x xs from e le is new room u = on (one u)
    where
      on : Token from (mark 91) (number low ∷ mark 46 ∷ number high ∷ mark 93 ∷ xs) e → Kinded from (D (before words ranges pl sl line g) top ps ss) g top ps ss x xs e
      on a =
          let r = range_goes (record { tag = g; byte = a.i }) low high top ps ss x xs a.j e le is room a.rest in
          record { i = r.i; reach = take {d₂ = D (Low (record { tag = g; byte = a.i })) top ps ss} a.at (range_on g top ps ss a.i a.j new room) r.reach; rest = r.rest }

  record Begun (from : ℕ) (g : Option ℤ) (top : ℕ) (ps : List (Place K)) (ss : List Slot) (k : K) (xs : List Tok) (e : ℕ) : Type 0 where
    tag₁ : Option Tag
    tag_is : tag_of tag₁ ≡ g
    kinded : Kinded from (D Begin top ps ss) tag₁ top ps ss k xs e

  node_goes : (g : Option ℤ) (k : Kind) (top : ℕ) (ps : List (Place K)) (ss : List Slot) (x : K) (xs : List Tok) (from e : ℕ) → GoodTag g (map item_of ps) → GoodRange k → kind_of words ranges k ≡ Some x → length ps < pl → Upto line from (mark 40 ∷ spell_tag g (spell_kind k xs)) e → Begun from g top ps ss x xs e
  node_goes None k top ps ss x xs from e new le is room u = on (one u)
    where
      on : Token from (mark 40) (spell_kind k xs) e → Begun from None top ps ss x xs e
      on a =
          let r = kind_goes k None top ps ss x xs a.j e le is refl room a.rest in
          record { tag₁ = None; tag_is = refl; kinded = record { i = r.i; reach = take {d₂ = D Opened top ps ss} a.at refl r.reach; rest = r.rest } }
  node_goes (Some n) k top ps ss x xs from e new le is room u = hash (one u)
    where
      all : (a : Token from (mark 40) (mark 35 ∷ number n ∷ spell_kind k xs) e) (b : Token a.j (mark 35) (number n ∷ spell_kind k xs) e) (c : Token b.j (number n) (spell_kind k xs) e) (t : Tag) → t ≡ record { number = new.0.number; byte = c.i } → tag_of (Some t) ≡ Some n → Begun from (Some n) top ps ss x xs e
      all a b c t same tag_is =
          let fresh = described_none (Some t) ps (subst (λ g. GoodTag g (map item_of ps)) (sym tag_is) new) in
          let r = kind_goes k (Some t) top ps ss x xs c.j e le is fresh room c.rest in
          record {
            tag₁ = Some t;
            tag_is = tag_is;
            kinded = record {
              i = r.i;
              reach =
                  take {d₂ = D Opened top ps ss} a.at refl
                  (take {d₂ = D Hashed top ps ss} b.at refl
                  (take {d₂ = D (Tagged t) top ps ss} c.at (tag_on top ps ss n new.0 c.i c.j ∙ ap (λ t. go (D (Tagged t) top ps ss)) (sym same)) r.reach));
              rest = r.rest;
            };
          }

      hash : Token from (mark 40) (mark 35 ∷ number n ∷ spell_kind k xs) e → Begun from (Some n) top ps ss x xs e
      hash a = let b = one a.rest in let c = one b.rest in all a b c (record { number = new.0.number; byte = c.i }) refl (ap Some (sym new.0.is))

  -- ---- a term, and slots

  record Laid (from : ℕ) (d : Draft K) (top : ℕ) (ps : List (Place K)) (xs : List Tok) (e : ℕ) (want : Lists K) : Type 0 where
    i : ℕ
    places₂ : List (Place K)
    slots₂ : List Slot
    more : List (Place K)
    grows : places₂ ≡ ps ++ more
    lists : shown places₂ slots₂ ≡ want
    reach : Reach from d i (D Inside top places₂ slots₂)
    rest : Upto line i xs e

  ref_goes : (g : ℤ) (top o n : ℕ) (ps : List (Place K)) (ss : List Slot) (xs : List Tok) (from e : ℕ) → IsTag g → Upto line from (spell (ref g) xs) e → Laid from (D Begin top ps (ss ++ (record { owner = o; name = n; target = To (length ps) } ∷ []))) top ps xs e (Slotted words ranges pl sl line (ref g) o n ps ss)
  ref_goes g top o n ps ss xs from e h u = hash (one u)
    where
      slots₁ : List Slot
      slots₁ = ss ++ (record { owner = o; name = n; target = To (length ps) } ∷ [])

      all : (a : Token from (mark 40) (mark 35 ∷ number g ∷ mark 41 ∷ xs) e) (b : Token a.j (mark 35) (number g ∷ mark 41 ∷ xs) e) (c : Token b.j (number g) (mark 41 ∷ xs) e) (q : Token c.j (mark 41) xs e) → Laid from (D Begin top ps (ss ++ (record { owner = o; name = n; target = To (length ps) } ∷ []))) top ps xs e (Slotted words ranges pl sl line (ref g) o n ps ss)
      all a b c q = record {
        i = q.j;
        places₂ = ps;
        slots₂ = ss ++ (record { owner = o; name = n; target = ByTag (record { number = h.number; byte = c.i }) } ∷ []);
        more = [];
        grows = sym (append-nil ps);
        lists =
            (λ i. record { places = map item_of ps; slots = map-append link_of ss (record { owner = o; name = n; target = ByTag (record { number = h.number; byte = c.i }) } ∷ []) i }) ∙
            (λ i. record { places = map item_of ps; slots = map link_of ss ++ (record { owner = o; name = n; lead = tagged (sym h.is i) } ∷ []) });
        reach =
            take {d₂ = D Opened top ps slots₁} a.at refl
            (take {d₂ = D Hashed top ps slots₁} b.at refl
            (take {d₂ = D (Tagged (record { number = h.number; byte = c.i })) top ps slots₁} c.at (tag_on top ps slots₁ g h c.i c.j)
            (take q.at (refer_on top ps ss o n (record { number = h.number; byte = c.i }) q.i q.j) stay)));
        rest = q.rest;
      }

      hash : Token from (mark 40) (mark 35 ∷ number g ∷ mark 41 ∷ xs) e → Laid from (D Begin top ps (ss ++ (record { owner = o; name = n; target = To (length ps) } ∷ []))) top ps xs e (Slotted words ranges pl sl line (ref g) o n ps ss)
      hash a = let b = one a.rest in let c = one b.rest in all a b c (one c.rest)

  -- what stands after a place that has ended
  node_ends : (g : Option ℤ) (k : Kind) (rest : Slots) (top o n : ℕ) (ps : List (Place K)) (ss : List Slot) (x : K) (xs : List Tok) (from e : ℕ) → 0 < length ps → kind_of words ranges k ≡ Some x → (m : Begun from g top ps (ss ++ (record { owner = o; name = n; target = To (length ps) } ∷ [])) x (spell_slots rest (mark 41 ∷ xs)) e) → Laid m.kinded.i (D Inside (length ps) (added top ps m.tag₁ x) (ss ++ (record { owner = o; name = n; target = To (length ps) } ∷ []))) (length ps) (added top ps m.tag₁ x) (mark 41 ∷ xs) e (laid_slots words ranges rest (length ps) (shown (added top ps m.tag₁ x) (ss ++ (record { owner = o; name = n; target = To (length ps) } ∷ [])))) → Laid from (D Begin top ps (ss ++ (record { owner = o; name = n; target = To (length ps) } ∷ []))) top ps xs e (laid words ranges (node g k rest) top (Slotted words ranges pl sl line (node g k rest) o n ps ss))
  node_ends g k rest top o n ps ss x xs from e some is m r = on (one r.rest)
    where
      parent : parent_at r.places₂ (length ps) ≡ top
      parent =
          ap (λ l. parent_at l (length ps)) r.grows ∙
          parent_before (ps ++ (record { kind = x; parent = top; tag = m.tag₁ } ∷ [])) r.more (length ps) (omega (arith, length_push ps (record { kind = x; parent = top; tag = m.tag₁ }))) ∙
          parent_new ps (record { kind = x; parent = top; tag = m.tag₁ })

      on : Token r.i (mark 41) xs e → Laid from (D Begin top ps (ss ++ (record { owner = o; name = n; target = To (length ps) } ∷ []))) top ps xs e (laid words ranges (node g k rest) top (Slotted words ranges pl sl line (node g k rest) o n ps ss))
      on c = record {
        i = c.j;
        places₂ = r.places₂;
        slots₂ = r.slots₂;
        more = record { kind = x; parent = top; tag = m.tag₁ } ∷ r.more;
        grows = r.grows ∙ append_assoc ps (record { kind = x; parent = top; tag = m.tag₁ } ∷ []) r.more;
        lists =
            r.lists ∙ item_shown words ranges pl sl line k g m.tag₁ x top ps (ss ++ (record { owner = o; name = n; target = To (length ps) } ∷ [])) rest m.tag_is is ∙
            ap (laid words ranges (node g k rest) top) (slot_shown words ranges pl sl line g k rest o n ps ss);
        reach =
            reach_trans m.kinded.reach
            (reach_trans r.reach
            (take c.at (close_on (length ps) top r.places₂ r.slots₂ c.i c.j (λ q. omega arith) parent) stay));
        rest = c.rest;
      }

  longer : (ps qs more : List (Place K)) → qs ≡ ps ++ more → 0 < length ps → 0 < length qs
  longer ps qs more e some = omega (arith, ap length e, length-append ps more)

  slots_join : (w : List ℕ) (t : Term) (ts : Slots) (top : ℕ) (ps : List (Place K)) (ss : List Slot) (xs : List Tok) (from j i e : ℕ) → next_token line from ≡ token (word w) i j → step words ranges pl sl line (D Inside top ps ss) (word w) i j ≡ go (D Begin top ps (ss ++ (record { owner = top; name = names.number w; target = To (length ps) } ∷ []))) → (r : Laid j (D Begin top ps (ss ++ (record { owner = top; name = names.number w; target = To (length ps) } ∷ []))) top ps (spell_slots ts xs) e (laid words ranges t top (Slotted words ranges pl sl line t top (names.number w) ps ss))) → Laid r.i (D Inside top r.places₂ r.slots₂) top r.places₂ xs e (laid_slots words ranges ts top (shown r.places₂ r.slots₂)) → Laid from (D Inside top ps ss) top ps xs e (laid_slots words ranges (slot w t ts) top (shown ps ss))
  slots_join w t ts top ps ss xs from j i e at st r u = record {
    i = u.i;
    places₂ = u.places₂;
    slots₂ = u.slots₂;
    more = r.more ++ u.more;
    grows = u.grows ∙ ap (λ l. l ++ u.more) r.grows ∙ append_assoc ps r.more u.more;
    lists = u.lists ∙ ap (laid_slots words ranges ts top) r.lists;
    reach = take at st (reach_trans r.reach u.reach);
    rest = u.rest;
  }

  slots_good : (g : Option ℤ) (k : Kind) (rest : Slots) (top : ℕ) (ps : List (Place K)) (ss : List Slot) (x : K) (tag₁ : Option Tag) → tag_of tag₁ ≡ g → kind_of words ranges k ≡ Some x → GoodSlots words ranges pl sl rest (length (map item_of ps)) (with_place (kind_of words ranges k) top g (shown ps ss)) → GoodSlots words ranges pl sl rest (length ps) (shown (added top ps tag₁ x) ss)
  slots_good g k rest top ps ss x tag₁ same is good =
      subst (λ q. GoodSlots words ranges pl sl rest q (shown (added top ps tag₁ x) ss)) (length-map ps item_of)
      (subst (GoodSlots words ranges pl sl rest (length (map item_of ps))) (sym (one_more words ranges pl sl line k g tag₁ x top ps ss same is)) good)

  mutual
    term_goes : (t : Term) (top o n : ℕ) (ps : List (Place K)) (ss : List Slot) (xs : List Tok) (from e : ℕ) → 0 < length ps → GoodTerm words ranges pl sl t top (Slotted words ranges pl sl line t o n ps ss) → Upto line from (spell t xs) e → Laid from (D Begin top ps (ss ++ (record { owner = o; name = n; target = To (length ps) } ∷ []))) top ps xs e (laid words ranges t top (Slotted words ranges pl sl line t o n ps ss))
    term_goes (ref g) top o n ps ss xs from e some good u = ref_goes g top o n ps ss xs from e good u
    term_goes (node g k rest) top o n ps ss xs from e some good u =
        let slots₁ = ss ++ (record { owner = o; name = n; target = To (length ps) } ∷ []) in
        let fine : GoodTerm words ranges pl sl (node g k rest) top (shown ps slots₁) = subst (GoodTerm words ranges pl sl (node g k rest) top) (sym (slot_shown words ranges pl sl line g k rest o n ps ss)) good in
        let x = fine.2.0 in
        let m = node_goes g k top ps slots₁ x (spell_slots rest (mark 41 ∷ xs)) from e fine.0 fine.1 fine.2.1 (omega (arith, fine.3, length-map ps item_of)) u in
        node_ends g k rest top o n ps ss x xs from e some fine.2.1 m
        (slots_goes rest (length ps) (added top ps m.tag₁ x) slots₁ (mark 41 ∷ xs) m.kinded.i e (omega (arith, length_push ps (record { kind = x; parent = top; tag = m.tag₁ })))
        (slots_good g k rest top ps slots₁ x m.tag₁ m.tag_is fine.2.1 fine.4) m.kinded.rest)

    slots_goes : (ts : Slots) (top : ℕ) (ps : List (Place K)) (ss : List Slot) (xs : List Tok) (from e : ℕ) → 0 < length ps → GoodSlots words ranges pl sl ts top (shown ps ss) → Upto line from (spell_slots ts xs) e → Laid from (D Inside top ps ss) top ps xs e (laid_slots words ranges ts top (shown ps ss))
    slots_goes none top ps ss xs from e some good u = record { i = from; places₂ = ps; slots₂ = ss; more = []; grows = sym (append-nil ps); lists = refl; reach = stay; rest = u }
    slots_goes (slot w t ts) top ps ss xs from e some good u =
        let a = one u in
        let st = name_on top ps ss w a.i a.j good.0 good.1 (omega (arith, good.2, length-map ss link_of)) in
        let r = term_goes t top top (names.number w) ps ss (spell_slots ts xs) a.j e some good.3 a.rest in
        let v = slots_goes ts top r.places₂ r.slots₂ xs r.i e (longer ps r.places₂ r.more r.grows some) (subst (GoodSlots words ranges pl sl ts top) (sym r.lists) good.4) r.rest in
        slots_join w t ts top ps ss xs from a.j a.i e a.at st r v

  -- ---- the whole line

  reach_read : (turns from : ℕ) (d : Draft K) (k : ℕ) (z : Draft K) → Reach from d k z → next_token line k ≡ finish → length line < from + turns → from ≤ length line → read_from words ranges turns pl sl line from d ≡ end_in z.mode z (length line)
  reach_read zero from d k z r f p q = absurd (omega arith)
  reach_read (suc turns) from d k z stay f p q = ap (λ n. on_next n (end_in d.mode d (length line)) (λ x i j. on_step (step words ranges pl sl line d x i j) (λ d₂. read_from words ranges turns pl sl line j d₂)) fault) f
  reach_read (suc turns) from d k z (take {x = x} {i = i} {j = j} {d₂ = d₂} at s r) f p q =
      let a : (from ≤ i) × (i < j) × (j ≤ length line) = subst (Ahead from (length line)) at (next_ahead line from) in
      ap (λ n. on_next n (end_in d.mode d (length line)) (λ x i j. on_step (step words ranges pl sl line d x i j) (λ d₂. read_from words ranges turns pl sl line j d₂)) fault) at ∙
      ap (λ y. on_step y (λ d₂. read_from words ranges turns pl sl line j d₂)) s ∙
      reach_read turns j d₂ k z r f (omega arith) (omega arith)

  at_end : {j e : ℕ} → Upto line j [] e → next_token line e ≡ finish → next_token line j ≡ finish
  at_end here f = f

  pub record Read (t : Term) (from : ℕ) (xs : List Tok) (e : ℕ) : Type 0 where
    pub k : ℕ
    pub z : Draft K
    pub reach : Reach from drafts.nothing k z
    pub rest : Upto line k xs e
    pub over : z.mode ≡ Done None
    pub end : end_in z.mode z (length line) ≡ go z

  -- a good term in front of what follows it
  pub root_goes : (t : Term) (xs : List Tok) (from e : ℕ) → Upto line from (spell t xs) e → Good words ranges pl sl t → Read t from xs e
  root_goes (ref g) xs from e u good = absurd good.root
  root_goes (node g k rest) xs from e u good = begun (node_goes g k 0 [] [] good.parts.2.0 (spell_slots rest (mark 41 ∷ xs)) from e good.parts.0 good.parts.1 good.parts.2.1 good.parts.3 u)
    where
      done : (m : Begun from g 0 [] [] good.parts.2.0 (spell_slots rest (mark 41 ∷ xs)) e) (r : Laid m.kinded.i (D Inside 0 (added 0 [] m.tag₁ good.parts.2.0) []) 0 (added 0 [] m.tag₁ good.parts.2.0) (mark 41 ∷ xs) e (laid_slots words ranges rest 0 (shown (added 0 [] m.tag₁ good.parts.2.0) []))) → Token r.i (mark 41) xs e → Read (node g k rest) from xs e
      done m r c = record {
        k = c.j;
        z = D (Done None) 0 r.places₂ r.slots₂;
        reach = reach_trans m.kinded.reach (reach_trans r.reach (take {d₂ = D (Done None) 0 r.places₂ r.slots₂} c.at refl stay));
        rest = c.rest;
        over = refl;
        end =
            let same : shown r.places₂ r.slots₂ ≡ described_by words ranges (node g k rest) = r.lists ∙ item_shown words ranges pl sl line k g m.tag₁ good.parts.2.0 0 [] [] rest m.tag_is good.parts.2.1 in
            ap (λ o. on_some o (fault 26) (go (D (Done None) 0 r.places₂ r.slots₂)))
            (leads_good r.slots₂ r.places₂ (subst (λ l. GoodLeads l.slots l.places) (sym same) good.leads));
      }

      begun : Begun from g 0 [] [] good.parts.2.0 (spell_slots rest (mark 41 ∷ xs)) e → Read (node g k rest) from xs e
      begun m =
          let fine : GoodSlots words ranges pl sl rest 0 (shown (added 0 [] m.tag₁ good.parts.2.0) []) =
          subst (GoodSlots words ranges pl sl rest 0) (sym (one_more words ranges pl sl line k g m.tag₁ good.parts.2.0 0 [] [] m.tag_is good.parts.2.1)) good.parts.4 in
          let r = slots_goes rest 0 (added 0 [] m.tag₁ good.parts.2.0) [] (mark 41 ∷ xs) m.kinded.i e (omega arith) fine m.kinded.rest in
          done m r (one r.rest)

  good_read : (t : Term) (e : ℕ) → length line ≤ 60000 → next_token line e ≡ finish → Read t 0 [] e → (d : Draft K) × (read_place words ranges pl sl line ≡ go d)
  unfolding read_place
  good_read t e short f r = (r.z, cond-false (ltb 60000 (length line)) _ _ (le-ltb 60000 (length line) short) ∙ reach_read (suc (length line)) 0 drafts.nothing r.k r.z r.reach (at_end r.rest f) (omega arith) (omega arith) ∙ r.end)

pub accepts_good : {K : Type 0} (words : List ℕ → Option K) (ranges : ℤ → ℤ → Option K) (pl sl : ℕ) (line : List ℕ) (t : Term) → Means words ranges pl sl line t → (d : Draft K) × (read_place words ranges pl sl line ≡ go d)
accepts_good words ranges pl sl line t m = good_read words ranges pl sl line t m.whole.0 m.short m.whole.2 (root_goes words ranges pl sl line t [] 0 m.whole.0 m.whole.1 m.good)
