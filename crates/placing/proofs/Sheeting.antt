-- A draft that is arranged and numbered is read: the tables hold the sheet that it describes.
use Rattle.std.proofs.Common.{◌≡◌, ℕ, ◌<◌, ◌≤◌, ◌⊎◌, List, map, length, get_or, take, Option, sym, refl, ap, ◌∙◌, subst, inl, inr, arith}
use Rattle.std.proofs.lemmas.List.{length-take-le, get_or-take, take-map}
use Rattle.std.proofs.lemmas.Bool.{cases_lt}
use Rattle.kinds.specs.Laws.{KindLaws, loaded}
use Rattle.names.specs.Names.{IsName}
use Rattle.records.specs.declared.PlaceRecord.{PlaceRecord}
use Rattle.records.specs.declared.SlotRecord.{SlotRecord}
use Rattle.records.specs.declared.Counts.{Counts}
use Rattle.records.specs.Tables.{Edge, name_at, target_at}
use Rattle.records.specs.Tables as tables
use Rattle.records.specs.Sheets.{Sheet, sheet_of}
use Rattle.records.proofs.Reading.{same_size, kind_at_lem, form_read, slot_read, read_slot, formed_read}
use Rattle.records.proofs.Shape.{owner}
use Rattle.numbering.specs.Quotient.{Quotient}
use Rattle.renumbering.specs.Drafts.{Renumbered}
use Rattle.renumbering.proofs.Drafting.{draft_work}
use Rattle.reading.specs.Drafts.{Draft, kind_at}
use Rattle.reading.specs.Meaning.{Arrow, IsSheetOf}
use Rattle.placing.specs.Arranged.{Sound, Arranged, drafted}
use Rattle.placing.specs.Reading.{SheetRead}
use Rattle.placing.proofs.Arrangement.{arrow_plain, arrow_back}

arrow_at : {K : Type 0} (d : Draft K) (x x' f y y' : ℕ) → x ≡ x' → y ≡ y' → Arrow d x f y → Arrow d x' f y'
arrow_at d x x' f y y' p q a = subst (λ z. Arrow d z f y') p (subst (λ z. Arrow d x f z) q a)

module _ {K F : Type 0} {below : K → K → Type 0} {top : K} {form : K → F} {kind : F → Option K} (laws : KindLaws below top form kind) where
  module _ (d : Draft K) (sound : Sound d) (ps : List (PlaceRecord F)) (ss : List SlotRecord) (arranged : Arranged form d ps ss)
      (outp : List (PlaceRecord F)) (outs : List SlotRecord) (q : Quotient ps ss (λ x. x) outp outs) where
    abbrev back_of : (p : ℕ) → (p < length outp) ⊎ (length outp ≤ p) → ℕ
    back_of p (inl h) = (q.onto p h).0
    back_of p (inr h) = 0

    -- the place of the text that has the number p
    abbrev back : ℕ → ℕ
    back p = back_of p (cases_lt p (length outp))

    back_is : (p : ℕ) (s : (p < length outp) ⊎ (length outp ≤ p)) → p < length outp → (back_of p s < length ps) × (q.class (back_of p s) ≡ p)
    back_is p (inl h) lt = ((q.onto p h).1, (q.onto p h).2)
    back_is p (inr h) lt = absurd (omega arith)

    back_in : (p : ℕ) → p < length outp → back p < length ps
    back_in p lt = (back_is p (cases_lt p (length outp)) lt).0

    back_class : (p : ℕ) → p < length outp → q.class (back p) ≡ p
    back_class p lt = (back_is p (cases_lt p (length outp)) lt).1

    back_from : (x p : ℕ) → x < length ps → q.class x ≡ p → x ≡ back p
    back_from x p lt e =
        let in_p : p < length outp = subst (λ z. z < length outp) e (q.within x lt) in
        q.apart x (back p) lt (back_in p in_p) (e ∙ sym (back_class p in_p))

    -- an edge of the sheet is a slot of the text
    arrow : (p f r : ℕ) → Edge outp outs p f r → Arrow d (back p) f (back r)
    arrow p f r e =
        let o = q.only p f r e in
        let edge = o.4 in
        let in_slots : edge.slot < length ss = omega (arith, edge.owns.upto, (draft_work ps ss arranged.draft (λ x. x) (λ x lt. refl)).blocks o.0) in
        let in_y : o.1 < length ps = subst (λ z. z < length ps) edge.leads (arranged.draft.aimed edge.slot in_slots) in
        arrow_at d o.0 (back p) f o.1 (back r) (back_from o.0 p edge.owns.place o.2) (back_from o.1 r in_y o.3) (arranged.only o.0 f o.1 edge)

    is_sheet : IsSheetOf d (sheet_of laws outp outs)
    is_sheet =
        let s : Sheet F = record { places = outp; slots = outs } in
        let long = same_size laws outp in
        let many = arranged.places in
        record {
          formed = formed_read laws s q.formed;
          number = q.class;
          back = back;
          root = q.root;
          start = sym (back_from 0 0 arranged.draft.some_place q.root);
          within = λ x lt. omega (arith, long, many, q.within x (omega arith));
          inside = λ p lt. omega (arith, long, many, back_in p (omega arith));
          onto = λ p lt. back_class p (omega arith);
          kinds = λ k x lt. kind_at_lem laws k outp (q.class x) ∙ ap (loaded laws) (q.kinds (form k) x (omega arith) ∙ arranged.kinds (form k) k x (omega arith)) ∙ form_read laws (kind_at k d.places x);
          edges = λ x f y a. slot_read laws s (q.class x) f (q.class y) (q.edges x f y (arranged.edges x f y a));
          only = λ p f r e. arrow p f r (read_slot laws s p f r e);
        }

    own_forms : (f : F) (p : ℕ) → p < length outp → form (loaded laws (tables.kind_at f outp p)) ≡ tables.kind_at f outp p
    own_forms f p lt =
        let is : tables.kind_at f outp p ≡ form (kind_at top d.places (back p)) =
        ap (tables.kind_at f outp) (sym (back_class p lt)) ∙ q.kinds f (back p) (back_in p lt) ∙ arranged.kinds f top (back p) (back_in p lt) in
        ap (λ v. form (loaded laws v)) is ∙ ap form (form_read laws (kind_at top d.places (back p))) ∙ sym is

    named : (i : ℕ) → i < length outs → IsName (name_at outs i)
    named i lt =
        let s : Sheet F = record { places = outp; slots = outs } in
        let o = owner s q.formed i lt in
        let a = arrow o.place (name_at outs i) (target_at outs i) (record { slot = i; owns = o.owns; named = refl; leads = refl }) in
        subst IsName a.named (sound.names a.slot a.inside)

  -- the tables into which a draft was numbered
  pub sheet_read : (d : Draft K) → Sound d → (ps : List (PlaceRecord F)) (ss : List SlotRecord) → Arranged form d ps ss → (c : Counts) (oldp newp : List (PlaceRecord F)) (olds news : List SlotRecord)
      → Renumbered ps ss c oldp newp olds news → length ps ≤ length newp → length ss ≤ length news → SheetRead laws d c newp news
  sheet_read d sound ps ss arranged c oldp newp olds news h roomp rooms =
      let outp = take c.places newp in
      let outs = take c.slots news in
      let inp : c.places ≤ length newp = omega (arith, h.places) in
      let ins : c.slots ≤ length news = omega (arith, h.slots) in
      let longp : length outp ≡ c.places = length-take-le c.places newp inp in
      let longs : length outs ≡ c.slots = length-take-le c.slots news ins in
      record {
        sheet = is_sheet d sound ps ss arranged outp outs h.quotient;
        forms = λ f p lt.
            let same : tables.kind_at f outp p ≡ tables.kind_at f newp p = ap (λ l. get_or l p f) (sym (take-map (λ r. r.kind) c.places newp)) ∙ get_or-take c.places (map (λ r. r.kind) newp) p f lt in
            subst (λ v. form (loaded laws v) ≡ v) same (own_forms d sound ps ss arranged outp outs h.quotient f p (omega arith));
        holds = record {
          places = inp;
          slots = ins;
          sheet = record {
            few_places = omega (arith, longp, h.places, arranged.draft.few_places);
            few_slots = omega (arith, longs, h.slots, arranged.draft.few_slots);
            formed = h.quotient.formed;
            named = named d sound ps ss arranged outp outs h.quotient;
          };
        };
      }

  -- the same of a draft in any mode
  pub read_back : (d : Draft K) (c : Counts) (ps : List (PlaceRecord F)) (ss : List SlotRecord) → SheetRead laws (drafted d.places d.slots) c ps ss → SheetRead laws d c ps ss
  read_back d c ps ss h =
      let s = h.sheet in
      record {
        sheet = record {
          formed = s.formed;
          number = s.number;
          back = s.back;
          root = s.root;
          start = s.start;
          within = s.within;
          inside = s.inside;
          onto = s.onto;
          kinds = s.kinds;
          edges = λ x f y a. s.edges x f y (arrow_plain d x f y a);
          only = λ p f q e. arrow_back d (s.back p) f (s.back q) (s.only p f q e);
        };
        forms = h.forms;
        holds = h.holds;
      }
