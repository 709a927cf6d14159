-- Two sheets side by side whose places are joined through links: the ends of the links are the classes, they can be numbered, and
-- with the meets of their kinds they are the merge.
use Rattle.std.proofs.Common.{◌≡◌, ℕ, ◌+◌, ◌-◌, ◌<◌, ◌≤◌, List, length, get_or, Option, sym, ap, ◌∙◌, subst, arith}
use native.Mathlib.Decide.{dec_lt}
use Rattle.kinds.specs.Laws.{KindLaws, loaded}
use Rattle.records.specs.declared.PlaceRecord.{PlaceRecord}
use Rattle.records.specs.declared.SlotRecord.{SlotRecord}
use Rattle.records.specs.Tables.{kind_at}
use Rattle.records.specs.Sheets.{Sheet, size, Formed, kind_of}
use Rattle.records.specs.Beside.{Joined, Beside}
use Rattle.records.proofs.Reading.{readings, same_size, kind_read, slot_read, read_slot, formed_read, side_read, read_side, joined_read}
use Rattle.unification.specs.Merge.{Under, IsMerge, Clash, Made}
use Rattle.unification.proofs.Making.{enough}
use Rattle.joining.specs.Forest.{Forest, end}
use Rattle.joining.specs.Two.{Two, EndsJoined}
use Rattle.joining.proofs.Forests.{end_le, end_ends, end_stays}
use Rattle.numbering.specs.Quotient.{Work, Quotient}
use Rattle.numbering.specs.Sides.{Alike, Shaped}
use Rattle.numbering.specs.Sides as numbering
use Rattle.numbering.proofs.Sides.{stands, ready, assembled}
use Rattle.meets.specs.Classes.{Classes, Kept, Met, NoMeet, kind_held}

-- s and t side by side in w, with links that join their places, and the end of each place
pub record Linked {F : Type 0} (s t w : Sheet F) (links ends : List ℕ) : Type 0 where
  pub formed_s : Formed s
  pub formed_t : Formed t
  pub beside : Beside s t w
  pub forest : Forest links
  pub room : size w ≤ length ends
  pub flat : (x : ℕ) → x < size w → get_or ends x 0 ≡ end links x
  pub joined : EndsJoined s t links

pub linked_of : {F : Type 0} (ps : List (PlaceRecord F)) (ss : List SlotRecord) (links ends : List ℕ) {second : ℕ} (two : Two ps ss second) → Forest links → length ps ≤ length ends → length links ≡ length ps
    → ((x : ℕ) → x < length links → get_or ends x 0 ≡ end links x) → EndsJoined two.s two.t links → Linked two.s two.t (record { places = ps; slots = ss }) links ends
linked_of ps ss links ends two forest room long flat joined = record {
  formed_s = two.formed_s;
  formed_t = two.formed_t;
  beside = two.beside;
  forest = forest;
  room = room;
  flat = λ x h. flat x (omega arith);
  joined = joined;
}

module _ {F : Type 0} (s t w : Sheet F) (links ends : List ℕ) (linked : Linked s t w links ends) where
  -- the end of a place stands for its class
  pub end_classes : Classes ends (size w)
  end_classes =
      record {
        listed = linked.room;
        earlier = λ x h. omega (arith, linked.flat x h, end_le links linked.forest x);
        settled = λ x h.
            let e = linked.flat x h in
            let l = end_le links linked.forest x in
            ap (λ n. get_or ends n 0) e ∙ linked.flat (end links x) (omega arith) ∙ end_stays links linked.forest (end links x) (end_ends links linked.forest x) ∙ sym e;
      }

  pub class_joined : (x y : ℕ) → x < size w → y < size w → get_or ends x 0 ≡ get_or ends y 0 → Joined s t x y
  class_joined x y h k e = (linked.joined x y).0 (sym (linked.flat x h) ∙ e ∙ linked.flat y k)

  pub joined_class : (x y : ℕ) → x < size w → y < size w → Joined s t x y → get_or ends x 0 ≡ get_or ends y 0
  joined_class x y h k j = linked.flat x h ∙ (linked.joined x y).1 j ∙ sym (linked.flat y k)

  -- the classes are those of joined places
  pub numbered_classes : numbering.Classes s t (λ x. get_or ends x 0)
  numbered_classes =
      let n = linked.beside.places in
      record {
        inside = λ x h. omega (arith, end_classes.earlier x (omega arith));
        member = λ x h.
            let l = end_classes.earlier x (omega arith) in
            class_joined x (get_or ends x 0) (omega arith) (omega arith) (sym (end_classes.settled x (omega arith)));
        one = λ x y h k j. joined_class x y (omega arith) (omega arith) j;
        apart = λ x y h k e. class_joined x y (omega arith) (omega arith) e;
      }

  module _ (v : Sheet F) (a : Alike w v) where
    -- so they can be numbered,
    pub classes_ready : Work v.places v.slots (λ x. get_or ends x 0)
    classes_ready = ready s t v linked.formed_s linked.formed_t (stands s t w v linked.beside a) (λ x. get_or ends x 0) numbered_classes

    -- and numbered they are the merge, but for the kinds
    pub classes_shaped : (m : Sheet F) → Quotient v.places v.slots (λ x. get_or ends x 0) m.places m.slots → Shaped s t v (λ x. get_or ends x 0) m
    classes_shaped m q = assembled s t v linked.formed_s linked.formed_t (stands s t w v linked.beside a) (λ x. get_or ends x 0) numbered_classes m q

-- v is w after the kinds of classes were met
pub kept_alike : {F : Type 0} (w v : Sheet F) (ends : List ℕ) → Kept ends w.places v.places → v.slots ≡ w.slots → Alike w v
kept_alike w v ends k e =
    record {
      places = k.size;
      slots = e;
      first = λ x. ap (λ l. get_or l x 0) k.before;
      count = λ x. ap (λ l. get_or l x 0) k.count;
    }

module _ {K F : Type 0} {below : K → K → Type 0} {top : K} {form : K → F} {kind : F → Option K} (laws : KindLaws below top form kind)
    (s t w : Sheet F) (links ends : List ℕ) (linked : Linked s t w links ends) where
  abbrev S : Sheet K
  S = readings laws s

  abbrev T : Sheet K
  T = readings laws t

  both_sizes : size w ≡ size S + size T
  both_sizes = omega (arith, linked.beside.places, same_size laws s.places, same_size laws t.places)

  -- the kind of a place side by side is that of its place in its own sheet
  left_kind : (x : ℕ) → x < size s → kind_held laws w.places x ≡ kind_of laws S x
  left_kind x h =
      kind_read laws w.places x ∙ ap (loaded laws) (linked.beside.kind_left (form top) x h) ∙ sym (kind_read laws s.places x)

  right_kind : (p : ℕ) → p < size t → kind_held laws w.places (size s + p) ≡ kind_of laws T p
  right_kind p h =
      kind_read laws w.places (size s + p) ∙ ap (loaded laws) (linked.beside.kind_right (form top) p h) ∙ sym (kind_read laws t.places p)

  -- so a kind is at or below the kind of a place exactly if it is at or below the one that the table holds there
  under_held : (k : K) (x : ℕ) → below k (kind_held laws w.places x) → Under laws S T k x
  under_held k x h =
      let n = same_size laws s.places in
      let m = same_size laws t.places in
      record {
        if_left = λ l. subst (λ (a : K). below k a) (left_kind x (omega arith)) h;
        if_right = λ p e l.
            let e' : x ≡ size s + p = omega arith in
            subst (λ (a : K). below k a) (ap (kind_held laws w.places) e' ∙ right_kind p (omega arith)) h;
      }

  held_under : (k : K) (x : ℕ) → x < size w → Under laws S T k x → below k (kind_held laws w.places x)
  held_under k x h u =
      let n = same_size laws s.places in
      let m = same_size laws t.places in
      elim (dec_lt x (size s)) [
        | yes lt ↦ subst (λ (a : K). below k a) (sym (left_kind x lt)) (u.if_left (omega arith))
        | no ge ↦
            let p : ℕ = x - size s in
            let e : x ≡ size s + p = omega arith in
            let in_t : p < size t = omega (arith, linked.beside.places) in
            subst (λ (a : K). below k a) (sym (ap (kind_held laws w.places) e ∙ right_kind p in_t)) (u.if_right p (omega arith) (omega arith))
      ]

  -- where some class has no meet, the sheets clash
  pub classes_clash : NoMeet laws ends w.places → Clash laws S T
  classes_clash none =
      let sizes = both_sizes in
      record {
        place = none.place;
        inside = omega (arith, none.inside);
        none = λ k all.
            none.none k (λ x h e.
            held_under k x h (all x (omega arith)
            (joined_read laws s t (class_joined s t w links ends linked none.place x none.inside h (none.stands ∙ sym e)))));
      }

  module _ (v : Sheet F) (a : Alike w v) (met : Met laws ends (size w) w.places v.places) (m : Sheet F)
      (shape : Shaped s t v (λ x. get_or ends x 0) m) where
    -- the kind of a class is the one that stands at its end
    class_kind : (x : ℕ) → x < size w → kind_of laws (readings laws m) (shape.class x) ≡ kind_held laws v.places (get_or ends x 0)
    class_kind x h =
        kind_read laws m.places (shape.class x)
        ∙ ap (loaded laws) (shape.kinds (form top) x (omega (arith, linked.beside.places)))
        ∙ sym (kind_read laws v.places (get_or ends x 0))

    classes_made : Made laws S T (readings laws m)
    classes_made =
        let n = same_size laws s.places in
        let k = same_size laws t.places in
        let sizes = both_sizes in
        let classes = end_classes s t w links ends linked in
        record {
          formed = formed_read laws m shape.formed;
          class = shape.class;
          root_left = shape.root_left;
          root_right = ap shape.class n ∙ shape.root_right;
          apart = λ x y h l e. joined_read laws s t (shape.apart x y (omega arith) (omega arith) e);
          under = λ x h.
              under_held (kind_of laws (readings laws m) (shape.class x)) x
              (subst (λ (c : K). below c (kind_held laws w.places x)) (sym (class_kind x (omega arith))) (met.under x (omega arith)));
          greatest = λ p c h all.
              let z = shape.onto p (omega (arith, same_size laws m.places)) in
              let x : ℕ = z.0 in
              let x_in : x < size w = omega (arith, z.1, linked.beside.places) in
              let e : ℕ = get_or ends x 0 in
              let e_in : e < size w = omega (arith, classes.earlier x x_in) in
              subst (λ (d : K). below c d) (sym (class_kind x x_in) ∙ ap (kind_of laws (readings laws m)) z.2)
              (met.greatest e c e_in (classes.settled x x_in) (λ y y_in same_end.
              held_under c y y_in (all y (omega arith)
              (shape.one y x (omega (arith, linked.beside.places)) z.1 (class_joined s t w links ends linked y x y_in x_in same_end) ∙ z.2))));
          all = λ x f y e. slot_read laws m (shape.class x) f (shape.class y) (shape.edges x f y (read_side laws s t x f y e));
          only = λ p f q e.
              let z = shape.only p f q (read_slot laws m p f q e) in
              (z.0, z.1, z.2, z.3, side_read laws s t z.0 f z.1 z.4);
        }

    -- and where each has one, numbered with their meets they are the merge
    pub classes_merge : IsMerge laws S T (readings laws m)
    classes_merge = enough laws S T (readings laws m) (formed_read laws s linked.formed_s) (formed_read laws t linked.formed_t) classes_made

    -- each kind of the merge lies in its own form
    pub classes_own : (p : ℕ) → p < size m → kind_at (form top) m.places p ≡ form (loaded laws (kind_at (form top) m.places p))
    classes_own p h =
        let classes = end_classes s t w links ends linked in
        let z = shape.onto p h in
        let x : ℕ = z.0 in
        let x_in : x < size w = omega (arith, z.1, linked.beside.places) in
        let e : ℕ = get_or ends x 0 in
        let e_in : e < size w = omega (arith, classes.earlier x x_in) in
        let at_p : kind_at (form top) m.places p ≡ kind_at (form top) v.places e = ap (kind_at (form top) m.places) (sym z.2) ∙ shape.kinds (form top) x z.1 in
        at_p ∙ met.own e e_in (classes.settled x x_in) ∙ ap form (kind_read laws v.places e) ∙ ap (λ f. form (loaded laws f)) (sym at_p)
