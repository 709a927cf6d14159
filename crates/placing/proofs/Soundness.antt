-- The draft that a whole line leaves is sound: an induction over its tokens.
use Rattle.std.proofs.Common.{◌≡◌, ℕ, zero, suc, ◌+◌, ◌-◌, ◌<◌, ◌≤◌, true, false, cond, ◌&&◌, eqb, ltb, ◌≢◌, List, [], ◌∷◌, ◌++◌, map, length, get_or, set, ℤ, pos, negsuc, Some, None, Option, sym, refl, ap, ◌∙◌, subst, ⊎_elim, arith, length-set}
use lib.ListN.{length-map}
use lib.Signed.{lt_z}
use Rattle.std.specs.Option.{option_or}
use Rattle.std.specs.Int.{is_in_range as within}
use Rattle.std.proofs.lemmas.List.{length_push, get_or_append_left, get_or_push, get_or-set_same, get_or-set_other, map_push}
use Rattle.std.proofs.lemmas.Bool.{cond_both, cases_lt, cases_eq, cases_Bool, ltb-true, ltb-false, leb-true, eqb-true, eqb-false, eq-eqb, and_parts, and_from, or_cases, or_parts, both_ways}
use Rattle.names.specs.Names.{IsName}
use Rattle.names.specs.Names as names
use Rattle.tokens.specs.Tokens.{Tok, mark, word, number, Next, finish, token, refusal, next_token, Ahead}
use Rattle.tokens.proofs.Ahead.{next_ahead}
use Rattle.reading.specs.declared.draft.Tag.{Tag}
use Rattle.reading.specs.declared.draft.Mode.{Mode}
use Rattle.reading.specs.declared.draft.Mode.TheVariants.{Begin, Opened, Hashed, Tagged, Low, Dotted, High, Ranged, Inside, Done}
use Rattle.reading.specs.declared.draft.Place.{Place}
use Rattle.reading.specs.declared.draft.Target.{Target}
use Rattle.reading.specs.declared.draft.Target.TheVariants.{To, ByTag}
use Rattle.reading.specs.declared.draft.Slot.{Slot}
use Rattle.reading.specs.Drafts.{Draft, nothing, numbered, described, named, parent_at, tag_at, no_slot, slot_at}
use Rattle.reading.specs.Steps.{Step, go, fault, on_mark, on_word, on_number, on_some, on_next, tag_number, undescribed_at, undescribed, by_tag, on_step, once, describe, end_in, no_kind_ahead, kind_first, step_in, read_from, read_place}
use Rattle.placing.specs.Arranged.{Lands, Sound}
use Rattle.reading.specs.Held.{Worded}
use Rattle.reading.proofs.Words.{next_worded, short_name}

-- ---- one record more

-- what holds of each slot
abbrev Each : (Slot → Type 0) → List Slot → Type 0
Each P ss = (i : ℕ) → i < length ss → P (slot_at ss i)

slot_old : (ss : List Slot) (s : Slot) (i : ℕ) → i < length ss → slot_at (ss ++ (s ∷ [])) i ≡ slot_at ss i
slot_old ss s i lt = get_or_append_left ss (s ∷ []) no_slot i lt

slot_new : (ss : List Slot) (s : Slot) → slot_at (ss ++ (s ∷ [])) (length ss) ≡ s
slot_new ss s = get_or_push ss s no_slot (length ss) refl

each_push : (P : Slot → Type 0) (ss : List Slot) (s : Slot) → Each P ss → P s → Each P (ss ++ (s ∷ []))
each_push P ss s h here i lt =
    ⊎_elim (λ below. subst P (sym (slot_old ss s i below)) (h i below))
    (λ above. let e : length ss ≡ i = omega (arith, length_push ss s) in subst (λ k. P (slot_at (ss ++ (s ∷ [])) k)) e (subst P (sym (slot_new ss s)) here))
    (cases_lt i (length ss))

each_set : (P : Slot → Type 0) (ss : List Slot) (k : ℕ) (s : Slot) → k < length ss → ((i : ℕ) → i < length ss → i ≢ k → P (slot_at ss i)) → P s → Each P (set ss k s)
each_set P ss k s in_k h here i lt =
    ⊎_elim (λ e. subst (λ j. P (slot_at (set ss k s) j)) (sym e) (subst P (sym (get_or-set_same ss k s no_slot in_k)) here))
    (λ ne. subst P (sym (get_or-set_other ss k i s no_slot ne)) (h i (omega (arith, length-set ss k s)) ne))
    (cases_eq i k)

module _ {K A : Type 0} (f : Place K → A) (ps : List (Place K)) (p : Place K) (d : A) where
  column_old : (x : ℕ) → x < length ps → get_or (map f (ps ++ (p ∷ []))) x d ≡ get_or (map f ps) x d
  column_old x lt = ap (λ l. get_or l x d) (map_push f ps p) ∙ get_or_append_left (map f ps) (f p ∷ []) d x (omega (arith, length-map ps f))

  column_new : (x : ℕ) → x ≡ length ps → get_or (map f (ps ++ (p ∷ []))) x d ≡ f p
  column_new x e = ap (λ l. get_or l x d) (map_push f ps p) ∙ get_or_push (map f ps) (f p) d x (length-map ps f ∙ sym e)

-- ---- the tests

undescribed_at_lem : {K : Type 0} (ps : List (Place K)) (n x : ℕ) (t : Tag) → described ps n ≡ false → tag_at ps x ≡ Some t → t.number ≡ n → ⊥
undescribed_at_lem [] n x t none has e = let z : ◌≡◌ {A = ℕ} 0 1 = cc in omega arith
undescribed_at_lem (p ∷ ps) n zero t none has e =
    both_ways (numbered (Some t) n) (subst (λ o. numbered o n ≡ false) has (or_parts (numbered p.tag n) (described ps n) none).0) (eq-eqb t.number n e)
undescribed_at_lem (p ∷ ps) n (suc x) t none has e = undescribed_at_lem ps n x t (or_parts (numbered p.tag n) (described ps n) none).1 has e

record At {K : Type 0} (ps : List (Place K)) (n : ℕ) : Type 0 where
  pub place : ℕ
  pub inside : place < length ps
  pub tag : Tag
  pub has : tag_at ps place ≡ Some tag
  pub number : tag.number ≡ n

numbered_some : (o : Option Tag) (n : ℕ) → numbered o n ≡ true → (t : Tag) × (o ≡ Some t) × (t.number ≡ n)
numbered_some None n e = absurd (both_ways false refl e)
numbered_some (Some t) n e = (t, refl, eqb-true t.number n e)

described_at : {K : Type 0} (ps : List (Place K)) (n : ℕ) → described ps n ≡ true → At ps n
described_at [] n e = absurd (both_ways false refl e)
described_at (p ∷ ps) n e =
    ⊎_elim (λ here. let s = numbered_some p.tag n here in record { place = 0; inside = omega arith; tag = s.0; has = s.1; number = s.2 })
    (λ later. let a = described_at ps n later in record { place = suc a.place; inside = omega (arith, a.inside); tag = a.tag; has = a.has; number = a.number })
    (or_cases (numbered p.tag n) (described ps n) e)

unnamed_at : (ss : List Slot) (p n i : ℕ) → named ss p n ≡ false → i < length ss → (slot_at ss i).owner ≡ p → (slot_at ss i).name ≡ n → ⊥
unnamed_at [] p n i none lt o e = omega arith
unnamed_at (s ∷ ss) p n zero none lt o e =
    both_ways (eqb s.owner p && eqb s.name n) (or_parts (eqb s.owner p && eqb s.name n) (named ss p n) none).0 (and_from _ _ (eq-eqb s.owner p o) (eq-eqb s.name n e))
unnamed_at (s ∷ ss) p n (suc i) none lt o e = unnamed_at ss p n i (or_parts (eqb s.owner p && eqb s.name n) (named ss p n) none).1 (omega arith) o e

-- ---- what holds in every mode

-- a slot leads to one of n places or to the next, or to one of n places, or by a tag
abbrev Near : ℕ → Target → Type 0
Near n (To p) = p ≤ n
Near n (ByTag t) = Unit {0}

abbrev Placed : ℕ → Target → Type 0
Placed n (To p) = p < n
Placed n (ByTag t) = Unit {0}

near_placed : (n m : ℕ) (t : Target) → n < m → Near n t → Placed m t
near_placed n m (To p) lt h = omega arith
near_placed n m (ByTag t) lt h = tt

near_more : (n m : ℕ) (t : Target) → n ≤ m → Near n t → Near m t
near_more n m (To p) le h = omega arith
near_more n m (ByTag t) le h = tt

abbrev TagFits : ℕ → Type 0
TagFits n = (1 ≤ n) × (n ≤ 99)

record Led {K : Type 0} (ps : List (Place K)) (ss : List Slot) (x : ℕ) : Type 0 where
  pub slot : ℕ
  pub inside : slot < length ss
  pub earlier : (slot_at ss slot).owner < x
  pub leads : (slot_at ss slot).target ≡ To x

record Core {K : Type 0} (pl sl : ℕ) (ps : List (Place K)) (ss : List Slot) : Type 0 where
  pub few_places : length ps ≤ pl
  pub few_slots : length ss ≤ sl
  pub parents : (x : ℕ) → x < length ps → parent_at ps x < length ps
  pub owned : Each (λ s. s.owner < length ps) ss
  pub near : Each (λ s. Near (length ps) s.target) ss
  pub names : Each (λ s. IsName s.name) ss
  pub apart : (i j : ℕ) → i < j → j < length ss → (slot_at ss i).owner ≡ (slot_at ss j).owner → (slot_at ss i).name ≡ (slot_at ss j).name → ⊥
  pub once : (x y : ℕ) (t u : Tag) → x < y → y < length ps → tag_at ps x ≡ Some t → tag_at ps y ≡ Some u → t.number ≡ u.number → ⊥
  pub tags : (x : ℕ) (t : Tag) → x < length ps → tag_at ps x ≡ Some t → TagFits t.number
  pub led : (x : ℕ) → 0 < x → x < length ps → Led ps ss x

-- a place is awaited: the last slot leads to it
record Awaits {K : Type 0} (top : ℕ) (ps : List (Place K)) (ss : List Slot) : Type 0 where
  pub start : length ss ≡ 0 → (length ps ≡ 0) × (top ≡ 0)
  pub last : 0 < length ss → (slot_at ss (length ss - 1)).target ≡ To (length ps)
  pub owner : 0 < length ss → (slot_at ss (length ss - 1)).owner ≡ top
  pub others : (i : ℕ) → suc i < length ss → Placed (length ps) (slot_at ss i).target

-- none is awaited
record Settled {K : Type 0} (top : ℕ) (ps : List (Place K)) (ss : List Slot) : Type 0 where
  pub inside : top < length ps
  pub placed : Each (λ s. Placed (length ps) s.target) ss

-- a tag that may be described
abbrev Fresh : {K : Type 0} → Option Tag → List (Place K) → Type 0
Fresh None ps = Unit {0}
Fresh (Some t) ps = TagFits t.number × (described ps t.number ≡ false)

abbrev Fits : {K : Type 0} → Mode → ℕ → List (Place K) → List Slot → Type 0
Fits Begin top ps ss = Awaits top ps ss
Fits Opened top ps ss = Awaits top ps ss
Fits Hashed top ps ss = Awaits top ps ss
Fits (Tagged t) top ps ss = Awaits top ps ss × TagFits t.number
Fits (Low o) top ps ss = Awaits top ps ss × Fresh o.tag ps
Fits (Dotted o a) top ps ss = Awaits top ps ss × Fresh o.tag ps
Fits (High o a) top ps ss = Awaits top ps ss × Fresh o.tag ps
Fits (Ranged o a h) top ps ss = Awaits top ps ss × Fresh o.tag ps
Fits Inside top ps ss = Settled top ps ss
Fits (Done None) top ps ss = Settled top ps ss
Fits (Done (Some t)) top ps ss = Unit {0}

-- after a step: a draft of which all that holds, or a refusal with a number
abbrev Steady : {K : Type 0} → ℕ → ℕ → Step K → Type 0
Steady pl sl (go d) = Core pl sl d.places d.slots × Fits d.mode d.top d.places d.slots
Steady pl sl (fault n b) = 0 < n

module _ {K : Type 0} (pl sl : ℕ) (top : ℕ) (ps : List (Place K)) (ss : List Slot) (core : Core pl sl ps ss) where
  -- the innermost open place is a place, but before the first
  top_in : Awaits top ps ss → 0 < length ss → top < length ps
  top_in a some = subst (λ t. t < length ps) (a.owner some) (core.owned (length ss - 1) (omega arith))

  fresh_here : (g : Option Tag) → Fresh g ps → (x : ℕ) (t u : Tag) → tag_at ps x ≡ Some t → g ≡ Some u → t.number ≡ u.number → ⊥
  fresh_here None f x t u has e same = let z : ◌≡◌ {A = ℕ} 0 1 = cc in omega arith
  fresh_here (Some v) f x t u has e same = let n : u.number ≡ v.number = cc in undescribed_at_lem ps v.number x t f.1 has (same ∙ n)

  fresh_fits : (g : Option Tag) → Fresh g ps → (u : Tag) → g ≡ Some u → TagFits u.number
  fresh_fits None f u e = let z : ◌≡◌ {A = ℕ} 0 1 = cc in absurd (omega arith)
  fresh_fits (Some v) f u e = let n : v ≡ u = cc in subst (λ w. TagFits w.number) n f.0

  module _ (a : Awaits top ps ss) (g : Option Tag) (fresh : Fresh g ps) (k : K) (room : length ps < pl) where
    abbrev new : Place K
    new = record { kind = k; parent = top; tag = g }

    abbrev more : List (Place K)
    more = ps ++ (new ∷ [])

    long : length more ≡ length ps + 1
    long = length_push ps new

    top_more : top < length more
    top_more =
        ⊎_elim (λ some. omega (arith, long, top_in a some)) (λ none. omega (arith, long, a.start (omega arith))) (cases_lt 0 (length ss))

    described_core : Core pl sl more ss
    described_core = record {
      few_places = omega (arith, long);
      few_slots = core.few_slots;
      parents = λ x lt.
          ⊎_elim (λ below. subst (λ v. v < length more) (sym (column_old (λ p. p.parent) ps new 0 x below)) (omega (arith, long, core.parents x below)))
          (λ above. subst (λ v. v < length more) (sym (column_new (λ p. p.parent) ps new 0 x (omega (arith, long)))) top_more)
          (cases_lt x (length ps));
      owned = λ i lt. omega (arith, long, core.owned i lt);
      near = λ i lt. near_more (length ps) (length more) (slot_at ss i).target (omega (arith, long)) (core.near i lt);
      names = core.names;
      apart = core.apart;
      once = λ x y t u lt in_y hx hy same.
          let old : tag_at ps x ≡ Some t = sym (column_old (λ p. p.tag) ps new None x (omega (arith, long))) ∙ hx in
          ⊎_elim (λ below. core.once x y t u lt below old (sym (column_old (λ p. p.tag) ps new None y below) ∙ hy) same)
          (λ above. fresh_here g fresh x t u old (sym (column_new (λ p. p.tag) ps new None y (omega (arith, long))) ∙ hy) same)
          (cases_lt y (length ps));
      tags = λ x t lt has.
          ⊎_elim (λ below. core.tags x t below (sym (column_old (λ p. p.tag) ps new None x below) ∙ has))
          (λ above. fresh_fits g fresh t (sym (column_new (λ p. p.tag) ps new None x (omega (arith, long))) ∙ has))
          (cases_lt x (length ps));
      led = λ x pos_x lt.
          ⊎_elim (λ below. let l = core.led x pos_x below in record { slot = l.slot; inside = l.inside; earlier = l.earlier; leads = l.leads })
          (λ above.
          let e : x ≡ length ps = omega (arith, long) in
          let some : 0 < length ss = ⊎_elim (λ s. s) (λ none. absurd (omega (arith, a.start (omega arith)))) (cases_lt 0 (length ss)) in
          record { slot = length ss - 1; inside = omega arith; earlier = omega (arith, core.owned (length ss - 1) (omega arith)); leads = a.last some ∙ ap To (sym e) })
          (cases_lt x (length ps));
    }

    described_settled : Settled (length ps) more ss
    described_settled = record {
      inside = omega (arith, long);
      placed = λ i lt. near_placed (length ps) (length more) (slot_at ss i).target (omega (arith, long)) (core.near i lt);
    }

  -- a slot more
  module _ (settled : Settled top ps ss) (w : ℕ) (name : IsName w) (unnamed : named ss top w ≡ false) (room : length ss < sl) where
    abbrev next : Slot
    next = record { owner = top; name = w; target = To (length ps) }

    abbrev wider : List Slot
    wider = ss ++ (next ∷ [])

    wide : length wider ≡ length ss + 1
    wide = length_push ss next

    slot_last : (i : ℕ) → i ≡ length ss → slot_at wider i ≡ next
    slot_last i e = ap (slot_at wider) e ∙ slot_new ss next

    named_core : Core pl sl ps wider
    named_core = record {
      few_places = core.few_places;
      few_slots = omega (arith, wide);
      parents = core.parents;
      owned = each_push (λ s. s.owner < length ps) ss next core.owned settled.inside;
      near = each_push (λ s. Near (length ps) s.target) ss next core.near (omega arith);
      names = each_push (λ s. IsName s.name) ss next core.names name;
      apart = λ i j lt in_j o n.
          let old = slot_old ss next i (omega (arith, wide)) in
          ⊎_elim (λ below. let old₂ = slot_old ss next j below in core.apart i j lt below (ap (λ s. s.owner) (sym old) ∙ o ∙ ap (λ s. s.owner) old₂) (ap (λ s. s.name) (sym old) ∙ n ∙ ap (λ s. s.name) old₂))
          (λ above. let new = slot_last j (omega (arith, wide)) in
          unnamed_at ss top w i unnamed (omega (arith, wide)) (ap (λ s. s.owner) (sym old) ∙ o ∙ ap (λ s. s.owner) new) (ap (λ s. s.name) (sym old) ∙ n ∙ ap (λ s. s.name) new))
          (cases_lt j (length ss));
      once = core.once;
      tags = core.tags;
      led = λ x pos_x lt.
          let l = core.led x pos_x lt in
          let old = slot_old ss next l.slot l.inside in
          record { slot = l.slot; inside = omega (arith, wide, l.inside); earlier = subst (λ s. s.owner < x) (sym old) l.earlier; leads = ap (λ s. s.target) old ∙ l.leads };
    }

    named_awaits : Awaits top ps wider
    named_awaits =
        let at : length wider - 1 ≡ length ss = omega (arith, wide) in
        record {
          start = λ none. absurd (omega (arith, wide));
          last = λ _. ap (λ s. s.target) (slot_last (length wider - 1) at);
          owner = λ _. ap (λ s. s.owner) (slot_last (length wider - 1) at);
          others = λ i lt. subst (λ s. Placed (length ps) s.target) (sym (slot_old ss next i (omega (arith, wide)))) (settled.placed i (omega (arith, wide)));
        }

  -- the last slot by a tag
  module _ (a : Awaits top ps ss) (t : Tag) (some : 0 < length ss) where
    abbrev k : ℕ
    k = length ss - 1

    abbrev tagged : Slot
    tagged = record { owner = (slot_at ss k).owner; name = (slot_at ss k).name; target = ByTag t }

    k_in : k < length ss
    k_in = omega arith

    long_tagged : length (by_tag ss t) ≡ length ss
    long_tagged = length-set ss k tagged

    same_owner : (i : ℕ) → (slot_at (by_tag ss t) i).owner ≡ (slot_at ss i).owner
    same_owner i =
        ⊎_elim (λ e. subst (λ j. (slot_at (by_tag ss t) j).owner ≡ (slot_at ss j).owner) (sym e) (ap (λ s. s.owner) (get_or-set_same ss k tagged no_slot k_in)))
        (λ ne. ap (λ s. s.owner) (get_or-set_other ss k i tagged no_slot ne)) (cases_eq i k)

    same_name : (i : ℕ) → (slot_at (by_tag ss t) i).name ≡ (slot_at ss i).name
    same_name i =
        ⊎_elim (λ e. subst (λ j. (slot_at (by_tag ss t) j).name ≡ (slot_at ss j).name) (sym e) (ap (λ s. s.name) (get_or-set_same ss k tagged no_slot k_in)))
        (λ ne. ap (λ s. s.name) (get_or-set_other ss k i tagged no_slot ne)) (cases_eq i k)

    tagged_core : Core pl sl ps (by_tag ss t)
    tagged_core = record {
      few_places = core.few_places;
      few_slots = omega (arith, long_tagged, core.few_slots);
      parents = core.parents;
      owned = λ i lt. subst (λ o. o < length ps) (sym (same_owner i)) (core.owned i (omega (arith, long_tagged)));
      near = each_set (λ s. Near (length ps) s.target) ss k tagged k_in (λ i lt ne. core.near i lt) tt;
      names = λ i lt. subst IsName (sym (same_name i)) (core.names i (omega (arith, long_tagged)));
      apart = λ i j lt in_j o n. core.apart i j lt (omega (arith, long_tagged)) (sym (same_owner i) ∙ o ∙ same_owner j) (sym (same_name i) ∙ n ∙ same_name j);
      once = core.once;
      tags = core.tags;
      led = λ x pos_x lt.
          let l = core.led x pos_x lt in
          let other : l.slot ≢ k = λ e. let z : To (length ps) ≡ To x = sym (a.last some) ∙ ap (λ j. (slot_at ss j).target) (sym e) ∙ l.leads in let n : length ps ≡ x = cc in omega arith in
          record {
            slot = l.slot;
            inside = omega (arith, long_tagged, l.inside);
            earlier = subst (λ o. o < x) (sym (same_owner l.slot)) l.earlier;
            leads = ap (λ s. s.target) (get_or-set_other ss k l.slot tagged no_slot other) ∙ l.leads;
          };
    }

    tagged_settled : Settled top ps (by_tag ss t)
    tagged_settled = record {
      inside = top_in a some;
      placed = each_set (λ s. Placed (length ps) s.target) ss k tagged k_in (λ i lt ne. a.others i (omega arith)) tt;
    }

-- ---- one token

module _ {K : Type 0} (words : List ℕ → Option K) (ranges : ℤ → ℤ → Option K) (pl sl : ℕ) (line : List ℕ) (b j : ℕ) (d : Draft K)
    (core : Core pl sl d.places d.slots) where
  abbrev Good : Step K → Type 0
  Good s = Steady pl sl s

  mark_good : (c : ℕ) (x : Tok) (is other : Step K) → Good is → Good other → Good (on_mark c x is other)
  mark_good c (mark m) is other h o = cond_both (eqb m c) is other Good (λ _. h) (λ _. o)
  mark_good c (word w) is other h o = o
  mark_good c (number n) is other h o = o

  word_good : (x : Tok) (is : List ℕ → Step K) (other : Step K) → ((w : List ℕ) → Worded (word w) → Good (is w)) → Good other → Worded x → Good (on_word x is other)
  word_good (mark m) is other h o s = o
  word_good (word w) is other h o s = h w s
  word_good (number n) is other h o s = o

  number_good : (x : Tok) (is : ℤ → Step K) (other : Step K) → ((n : ℤ) → Good (is n)) → Good other → Good (on_number x is other)
  number_good (mark m) is other h o = o
  number_good (word w) is other h o = o
  number_good (number n) is other h o = h n

  some_good : {A : Type 0} (o : Option A) (is : A → Step K) (other : Step K) → ((a : A) → o ≡ Some a → Good (is a)) → (o ≡ None → Good other) → Good (on_some o is other)
  some_good None is other h n = n refl
  some_good (Some a) is other h n = h a refl

  describe_good : (g : Option Tag) (k : K) (at : ℕ) → Awaits d.top d.places d.slots → Fresh g d.places → Good (describe pl g k d at)
  describe_good g k at a fresh =
      cond_both (ltb (length d.places) pl) _ _ Good
      (λ room. let r = ltb-true _ pl room in
      (described_core pl sl d.top d.places d.slots core a g fresh k r, described_settled pl sl d.top d.places d.slots core a g fresh k r))
      (λ _. omega arith)

  once_good : (g : Option Tag) (next : Step K) → (Fresh g d.places → Good next) → ((t : Tag) → g ≡ Some t → TagFits t.number) → Good (once g d next)
  once_good None next h f = h tt
  once_good (Some t) next h f =
      ⊎_elim (λ e. subst (λ v. Good (on_some (cond v (Some t.byte) None) (fault 25) next)) (sym e) (omega arith))
      (λ e. subst (λ v. Good (on_some (cond v (Some t.byte) None) (fault 25) next)) (sym e) (h (f t refl, e)))
      (cases_Bool (described d.places t.number))

  kind_good : (g : Option Tag) (x : Tok) → Worded x → Awaits d.top d.places d.slots → ((t : Tag) → g ≡ Some t → TagFits t.number) → Good (kind_first words ranges pl line g d x b j)
  kind_good g x s a f =
      word_good x _ _ (λ w _. once_good g _ (λ fresh. some_good (words w) _ _ (λ k _. describe_good g k b a fresh) (λ _. omega arith)) f)
      (mark_good 91 x _ _
      (once_good g _ (λ fresh. cond_both (ltb (length d.places) pl) _ _ Good (λ _. (core, (a, fresh))) (λ _. cond_both (no_kind_ahead words ranges line j) (fault 21 b) (fault 28 b) Good (λ _. omega arith) (λ _. omega arith))) f)
      (omega arith))
      s

  tag_good : (n : ℤ) (t : ℕ) → tag_number n ≡ Some t → TagFits t
  tag_good (pos n) t e =
      ⊎_elim
      (λ is. let p = and_parts _ _ is in
      let same : Some n ≡ Some t = subst (λ v. cond v (Some n) None ≡ Some t) is e in
      let eq : n ≡ t = cc in
      subst TagFits eq (leb-true 1 n p.0, leb-true n 99 p.1))
      (λ not. let none : None ≡ Some t = subst (λ v. cond v (Some n) None ≡ Some t) not e in let z : ◌≡◌ {A = ℕ} 0 1 = cc in absurd (omega arith))
      (cases_Bool (within 1 99 n))
  tag_good (negsuc n) t e = let z : ◌≡◌ {A = ℕ} 0 1 = cc in absurd (omega arith)

  step_good : (m : Mode) (x : Tok) → Worded x → Fits m d.top d.places d.slots → Good (step_in words ranges pl sl line m d x b j)
  step_good Begin x s a = mark_good 40 x _ _ (core, a) (omega arith)
  step_good Opened x s a = mark_good 35 x _ _ (core, a) (kind_good None x s a (λ t e. let z : ◌≡◌ {A = ℕ} 0 1 = cc in absurd (omega arith)))
  step_good Hashed x s a =
      number_good x _ _ (λ n. some_good (tag_number n) _ _ (λ t e. (core, (a, tag_good n t e))) (λ _. omega arith)) (omega arith)
  step_good (Tagged t) x s a =
      mark_good 41 x _ _
      (cond_both (eqb (length d.slots) 0) _ _ Good (λ _. (core, tt)) λ not.
      let some : 0 < length d.slots = ⊎_elim (λ h. h) (λ none. absurd (eqb-false (length d.slots) 0 not (omega arith))) (cases_lt 0 (length d.slots)) in
      (tagged_core pl sl d.top d.places d.slots core a.0 t some, tagged_settled pl sl d.top d.places d.slots core a.0 t some))
      (kind_good (Some t) x s a.0 (λ u e. let same : t ≡ u = cc in subst (λ v. TagFits v.number) same a.1))
  step_good (Low o) x s a = number_good x _ _ (λ n. (core, a)) (omega arith)
  step_good (Dotted o l) x s a = mark_good 46 x _ _ (core, a) (omega arith)
  step_good (High o l) x s a = number_good x _ _ (λ h. cond_both (lt_z h l) (fault 22 b) _ Good (λ _. omega arith) (λ _. (core, a))) (omega arith)
  step_good (Ranged o l h) x s a = mark_good 93 x _ _ (some_good (ranges l h) _ _ (λ k _. describe_good o.tag k o.byte a.0 a.1) (λ _. omega arith)) (omega arith)
  step_good Inside x s a =
      word_good x _ _
      (λ w spelt. cond_both (ltb 12 (length w)) _ _ Good (λ _. omega arith) λ short.
      cond_both (named d.slots d.top (names.number w)) _ _ Good (λ _. omega arith) λ unnamed.
      cond_both (ltb (length d.slots) sl) _ _ Good (λ room.
      let n : IsName (names.number w) = record { bytes = w; name = short_name w spelt (ltb-false 12 (length w) short); numbered = refl } in
      let r = ltb-true _ sl room in
      (named_core pl sl d.top d.places d.slots core a (names.number w) n unnamed r, named_awaits pl sl d.top d.places d.slots core a (names.number w) n unnamed r)) (λ _. omega arith))
      (mark_good 41 x _ _
      (cond_both (eqb d.top 0) _ _ Good (λ _. (core, a)) (λ _. (core, record { inside = core.parents d.top a.inside; placed = a.placed })))
      (omega arith))
      s
  step_good (Done r) x s a = omega arith

-- ---- the whole line

-- what a line leaves: a sound draft within its room, or a refusal with a number
abbrev pub Left : {K : Type 0} → ℕ → ℕ → Step K → Type 0
Left pl sl (go d) = Sound d × (length d.places ≤ pl) × (length d.slots ≤ sl)
Left pl sl (fault n b) = 0 < n

module _ {K : Type 0} (pl sl : ℕ) (d : Draft K) (core : Core pl sl d.places d.slots) (settled : Settled d.top d.places d.slots) where
  lands_here : (t : Target) → undescribed_at t d.places ≡ None → Placed (length d.places) t → Lands d t
  lands_here (To p) e h = h
  lands_here (ByTag t) e h =
      ⊎_elim (λ is. let a = described_at d.places t.number is in (a.place, record { inside = a.inside; tag = a.tag; has = a.has; numbered = a.number }))
      (λ not. let z : Some t.byte ≡ None = subst (λ v. cond v None (Some t.byte) ≡ None) not e in let w : ◌≡◌ {A = ℕ} 0 1 = cc in absurd (omega arith))
      (cases_Bool (described d.places t.number))

  both_none : (o p : Option ℕ) → option_or o p ≡ None → (o ≡ None) × (p ≡ None)
  both_none None p e = (refl, e)
  both_none (Some v) p e = let w : ◌≡◌ {A = ℕ} 0 1 = cc in absurd (omega arith)

  all_described : (ss : List Slot) (i : ℕ) → undescribed ss d.places ≡ None → ((i : ℕ) → i < length ss → Placed (length d.places) (slot_at ss i).target) → i < length ss → Lands d (slot_at ss i).target
  all_described [] i none placed lt = absurd (omega arith)
  all_described (s ∷ ss) zero none placed lt = lands_here s.target (both_none (undescribed_at s.target d.places) (undescribed ss d.places) none).0 (placed 0 (omega arith))
  all_described (s ∷ ss) (suc i) none placed lt =
      all_described ss i (both_none (undescribed_at s.target d.places) (undescribed ss d.places) none).1 (λ k lk. placed (suc k) (omega arith)) (omega arith)

  sound : undescribed d.slots d.places ≡ None → Sound d
  sound none = record {
    some_place = omega (arith, settled.inside);
    owned = core.owned;
    lands = λ i lt. all_described d.slots i none settled.placed lt;
    once = λ x y n lt p q. core.once x y p.tag q.tag lt q.inside p.has q.has (p.numbered ∙ sym q.numbered);
    tags = λ x n p. subst TagFits p.numbered (core.tags x p.tag p.inside p.has);
    apart = core.apart;
    names = core.names;
    led = λ x pos_x lt. let l = core.led x pos_x lt in record { slot = l.slot; inside = l.inside; earlier = l.earlier; leads = l.leads };
  }

module _ {K : Type 0} (words : List ℕ → Option K) (ranges : ℤ → ℤ → Option K) (pl sl : ℕ) (line : List ℕ) where
  end_left : (m : Mode) (d : Draft K) (b : ℕ) → Core pl sl d.places d.slots → Fits m d.top d.places d.slots → Left pl sl (end_in m d b)
  end_left Begin d b core f = omega arith
  end_left Opened d b core f = omega arith
  end_left Hashed d b core f = omega arith
  end_left (Tagged t) d b core f = omega arith
  end_left (Low o) d b core f = omega arith
  end_left (Dotted o a) d b core f = omega arith
  end_left (High o a) d b core f = omega arith
  end_left (Ranged o a h) d b core f = omega arith
  end_left Inside d b core f = omega arith
  end_left (Done None) d b core f = by (undescribed d.slots d.places) refl
    where
      by : (o : Option ℕ) → undescribed d.slots d.places ≡ o → Left pl sl (on_some o (fault 26) (go d))
      by None e = (sound pl sl d core f e, core.few_places, core.few_slots)
      by (Some v) e = omega arith
  end_left (Done (Some t)) d b core f = omega arith

  step_left : (s : Step K) (f : Draft K → Step K) → Steady pl sl s → ((d : Draft K) → Core pl sl d.places d.slots → Fits d.mode d.top d.places d.slots → Left pl sl (f d)) → Left pl sl (on_step s f)
  step_left (go d) f h next = next d h.0 h.1
  step_left (fault n b) f h next = h

  next_left : (from : ℕ) (n : Next) (end : Step K) (next : Tok → ℕ → ℕ → Step K) → n ≡ next_token line from → Ahead from (length line) n → Left pl sl end
      → ((x : Tok) (i j : ℕ) → Worded x → from < j → j ≤ length line → Left pl sl (next x i j)) → Left pl sl (on_next n end next fault)
  next_left from finish end next s a e h = e
  next_left from (token x i j) end next s a e h = h x i j (next_worded line from x i j s) (omega arith) (omega arith)
  next_left from (refusal n b) end next s a e h = omega arith

  from_left : (turns from : ℕ) (d : Draft K) → from ≤ length line → length line < from + turns → Core pl sl d.places d.slots → Fits d.mode d.top d.places d.slots → Left pl sl (read_from words ranges turns pl sl line from d)
  from_left zero from d within far core f = absurd (omega arith)
  from_left (suc turns) from d within far core f =
      next_left from (next_token line from) _ _ refl (next_ahead line from) (end_left d.mode d (length line) core f)
      (λ x i j spelt on upto. step_left (step_in words ranges pl sl line d.mode d x i j) (λ d₂. read_from words ranges turns pl sl line j d₂)
      (step_good words ranges pl sl line i j d core d.mode x spelt f)
      (λ d₂ core₂ f₂. from_left turns j d₂ upto (omega arith) core₂ f₂))

  pub line_left : Left pl sl (read_place words ranges pl sl line)
  unfolding read_place
  line_left =
      cond_both (ltb 60000 (length line)) _ _ (Left pl sl) (λ _. omega arith)
      (λ _. from_left (suc (length line)) 0 nothing (omega arith) (omega arith)
      (record {
        few_places = omega arith;
        few_slots = omega arith;
        parents = λ x lt. absurd (omega arith);
        owned = λ i lt. absurd (omega arith);
        near = λ i lt. absurd (omega arith);
        names = λ i lt. absurd (omega arith);
        apart = λ i j lt in_j. absurd (omega arith);
        once = λ x y t u lt in_y. absurd (omega arith);
        tags = λ x t lt. absurd (omega arith);
        led = λ x pos_x lt. absurd (omega arith);
      })
      (record { start = λ _. (refl, refl); last = λ some. absurd (omega arith); owner = λ some. absurd (omega arith); others = λ i lt. absurd (omega arith) }))

  -- what is read is a sound draft within its room
  pub read_sound : (d : Draft K) → read_place words ranges pl sl line ≡ go d → Sound d × (length d.places ≤ pl) × (length d.slots ≤ sl)
  read_sound d e = subst (Left pl sl) e line_left

  -- no refusal has the number 0
  pub refusal_numbered : (n b : ℕ) → read_place words ranges pl sl line ≡ fault n b → 0 < n
  refusal_numbered n b e = subst (Left pl sl) e line_left
