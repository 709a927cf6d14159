-- Where every place that is written has all its slots crossed, the draft describes the sheet, and every tag is described.
use Rattle.std.proofs.Common.{◌≡◌, ℕ, zero, suc, ◌<◌, Bool, true, false, List, [], ◌∷◌, map, length, Some, None, Option, sym, refl, ap, ◌∙◌, subst, arith}
use lib.ListN.{length-map}
use Rattle.std.specs.Option.{option_or}
use Rattle.std.proofs.lemmas.List.{get_or_default}
use Rattle.std.proofs.lemmas.Bool.{cond-true, eq-eqb, or_left, or_right, both_ways}
use Rattle.kinds.specs.Laws.{KindLaws}
use Rattle.records.specs.Tables.{Owns}
use Rattle.records.specs.Sheets.{Sheet, size, Formed}
use Rattle.records.proofs.Fields.{name_of, target_of}
use Rattle.records.proofs.Shape.{owner_one, reached}
use Rattle.reading.specs.declared.draft.Tag.{Tag}
use Rattle.reading.specs.declared.draft.Mode.{Mode}
use Rattle.reading.specs.declared.draft.Place.{Place}
use Rattle.reading.specs.declared.draft.Slot.{Slot}
use Rattle.reading.specs.declared.draft.Target.{Target}
use Rattle.reading.specs.declared.draft.Target.TheVariants.{To, ByTag}
use Rattle.reading.specs.Drafts.{Draft, numbered, described, tag_at, slot_at}
use Rattle.reading.specs.Steps.{undescribed_at, undescribed}
use Rattle.reading.specs.Meaning.{LeadsTo, IsSheetOf}
use Rattle.showing.specs.Shown.{has, tagged, tag_of}
use Rattle.restating.proofs.Chunks.{TagIs}
use Rattle.restating.proofs.Listed.{at, index, has_at, index_in, index_at}
use Rattle.restating.proofs.Related.{end_of, Leads, Related}
use Rattle.restating.proofs.Tags.{tag_one}

-- ---- tags of the draft

pub tag_there : (b : Bool) (n : ℕ) (g : Option Tag) → TagIs b n g → b ≡ true → (t : Tag) × (g ≡ Some t) × (t.number ≡ n)
tag_there true n g is e = is
tag_there false n g is e = absurd (both_ways false refl e)

-- a place that has some tag has the tag that it is to have
pub tag_told : (b : Bool) (n : ℕ) (g : Option Tag) (t : Tag) → TagIs b n g → g ≡ Some t → (b ≡ true) × (t.number ≡ n)
tag_told true n g t is e = let f : is.0 ≡ t = some_one is.0 t (sym is.1 ∙ e) in (refl, ap (λ x. x.number) (sym f) ∙ is.2)
  where
    some_one : (x y : Tag) → Some x ≡ Some y → x ≡ y
    some_one x y e = cc
tag_told false n g t is e = absurd (never t (sym is ∙ e))
  where
    never : (t : Tag) → ◌≡◌ {A = Option Tag} None (Some t) → ⊥
    never t e = let z : ◌≡◌ {A = ℕ} 0 1 = cc in omega arith

module _ {K : Type 0} where
  pub described_at : (ps : List (Place K)) (x n : ℕ) (t : Tag) → x < length ps → tag_at ps x ≡ Some t → t.number ≡ n → described ps n ≡ true
  described_at [] x n t h e f = absurd (omega arith)
  described_at (p ∷ ps) zero n t h e f = or_left (numbered p.tag n) (described ps n) (ap (λ g. numbered g n) e ∙ eq-eqb t.number n f)
  described_at (p ∷ ps) (suc x) n t h e f = or_right (numbered p.tag n) (described ps n) (described_at ps x n t (omega arith) e f)

  pub all_described : (ps : List (Place K)) (ss : List Slot) → ((j : ℕ) → j < length ss → undescribed_at (slot_at ss j).target ps ≡ None) → undescribed ss ps ≡ None
  all_described ps [] h = refl
  all_described ps (x ∷ ss) h =
      ap (λ o. option_or o (undescribed ss ps)) (h 0 (omega arith)) ∙ all_described ps ss (λ j l. h (suc j) (omega arith))

module _ {K F : Type 0} {below : K → K → Type 0} {top : K} {form : K → F} {kind : F → Option K} (laws : KindLaws below top form kind) (s : Sheet K) (w : Formed s)
    {written : List ℕ} {places : List (Place K)} {slots : List Slot} {next : ℕ → ℕ} {crossed : List ℕ} (r : Related laws s w written places slots next crossed) where
  leads_has : (t : Target) (q : ℕ) → Leads laws s w written t q → has written q ≡ true
  leads_has (To y) q l = ap (has written) (sym l.1) ∙ has_at written y l.0
  leads_has (ByTag t) q l = l.0

  -- the tag of a written place, if it is to have one
  tag_of_lem : (q : ℕ) → has written q ≡ true → tagged s q ≡ true → (t : Tag) × (tag_at places (index written q) ≡ Some t) × (t.number ≡ tag_of s written q)
  tag_of_lem q h e =
      let i = index_in written q h in
      let t = tag_there _ _ _ (r.tags (index written q) i.0) (ap (tagged s) i.1 ∙ e) in
      (t.0, t.1, t.2 ∙ ap (tag_of s written) i.1)

  target_described : (t : Target) (q : ℕ) → Leads laws s w written t q → undescribed_at t places ≡ None
  target_described (To y) q l = refl
  target_described (ByTag t) q l =
      let i = index_in written q l.0 in
      let g = tag_of_lem q l.0 l.1 in
      cond-true _ _ _ (described_at places (index written q) t.number g.0 (omega (arith, i.0, r.many)) g.1 (g.2 ∙ sym l.2))

  pub nothing_left : undescribed slots places ≡ None
  nothing_left = all_described places slots (λ j h. let d = r.drawn j (omega (arith, r.as_many)) in target_described (slot_at slots j).target (target_of s (at crossed j)) d.leads)

  module _ (done : (x : ℕ) → x < length written → next (at written x) ≡ end_of laws s w (at written x)) where
    -- the slot of the draft that is the slot i
    record Crossed (p i : ℕ) : Type 0 where
      slot : ℕ
      inside : slot < length crossed
      is : at crossed slot ≡ i
      owner : at written (slot_at slots slot).owner ≡ p
      owned : (slot_at slots slot).owner < length written
      name : (slot_at slots slot).name ≡ name_of s i
      leads : Leads laws s w written (slot_at slots slot).target (target_of s i)

    crosses : (p i : ℕ) → has written p ≡ true → Owns s.places p i → Crossed p i
    crosses p i h o =
        let k = index_in written p h in
        let full : next p ≡ end_of laws s w p = subst (λ q. next q ≡ end_of laws s w q) k.1 (done (index written p) k.0) in
        let c = index_in crossed i (r.covered p i o h (omega (arith, o.upto))) in
        let d = r.drawn (index crossed i) c.0 in
        let x : Slot = slot_at slots (index crossed i) in
        record {
          slot = index crossed i;
          inside = c.0;
          is = c.1;
          owner = owner_one s w i (at written x.owner) p (subst (Owns s.places (at written x.owner)) c.1 d.owns) o;
          owned = d.known;
          name = d.name ∙ ap (name_of s) c.1;
          leads = subst (λ j. Leads laws s w written x.target (target_of s j)) c.1 d.leads;
        }

    everywhere : (q : ℕ) → q < size s → has written q ≡ true
    everywhere =
        reached s w (λ q. has written q ≡ true) (ap (has written) (sym r.root) ∙ has_at written 0 r.some)
        (λ p f q e h.
        let c = crosses p e.slot h e.owns in
        ap (has written) (sym e.leads) ∙ leads_has (slot_at slots c.slot).target (target_of s e.slot) c.leads)

    module _ (m : Mode) (opened : ℕ) where
      abbrev draft : Draft K
      draft = record { mode = m; top = opened; places = places; slots = slots }

      -- where a slot of the draft leads, and that it leads there
      to_place : (t : Target) (q y : ℕ) → Leads laws s w written t q → LeadsTo draft t y → q ≡ at written y
      to_place (To z) q y l e = sym l.1 ∙ ap (at written) e
      to_place (ByTag t) q y l e =
          let h : y < length written = omega (arith, e.inside, r.many) in
          let g = tag_told _ _ _ e.tag (r.tags y h) e.has in
          tag_one s written q (at written y) l.0 (has_at written y h) l.1 g.0 (sym l.2 ∙ sym e.numbered ∙ g.1)

      from_place : (t : Target) (q : ℕ) → Leads laws s w written t q → LeadsTo draft t (index written q)
      from_place (To z) q l = sym (index_at r.listed z l.0) ∙ ap (index written) l.1
      from_place (ByTag t) q l =
          let g = tag_of_lem q l.0 l.1 in
          record { inside = omega (arith, (index_in written q l.0).0, r.many); tag = g.0; has = g.1; numbered = g.2 ∙ sym l.2 }

      pub is_sheet : IsSheetOf draft s
      is_sheet = record {
        formed = w;
        number = at written;
        back = index written;
        root = r.root;
        start = ap (index written) (sym r.root) ∙ index_at r.listed 0 r.some;
        within = λ x h. r.listed.below x (omega (arith, r.many));
        inside = λ p h. omega (arith, (index_in written p (everywhere p h)).0, r.many);
        onto = λ p h. (index_in written p (everywhere p h)).1;
        kinds = λ k x h.
            let l : x < length written = omega (arith, r.many) in
            get_or_default (map (λ z. z.kind) s.places) (at written x) k top (omega (arith, length-map s.places (λ z. z.kind), r.listed.below x l)) ∙ sym (r.kinds k x l);
        edges = λ x f y e.
            let d = r.drawn e.slot (omega (arith, e.inside, r.as_many)) in
            record {
              slot = at crossed e.slot;
              owns = subst (λ z. Owns s.places (at written z) (at crossed e.slot)) e.owner d.owns;
              named = sym d.name ∙ e.named;
              leads = to_place (slot_at slots e.slot).target (target_of s (at crossed e.slot)) y d.leads e.leads;
            };
        only = λ p f q e.
            let c = crosses p e.slot (everywhere p e.owns.place) e.owns in
            record {
              slot = c.slot;
              inside = omega (arith, c.inside, r.as_many);
              owner = sym (index_at r.listed (slot_at slots c.slot).owner c.owned) ∙ ap (index written) c.owner;
              named = c.name ∙ e.named;
              leads = subst (λ z. LeadsTo draft (slot_at slots c.slot).target (index written z)) e.leads (from_place (slot_at slots c.slot).target (target_of s e.slot) c.leads);
            };
      }
