-- A draft is a graph whose quotient can be taken, each place a class of its own; and its quotient has as many places and slots.
use Rattle.std.proofs.Common.{◌≡◌, ℕ, zero, suc, ◌+◌, ◌<◌, ◌≤◌, List, map, length, sym, refl, ap, ◌∙◌, subst, arith}
use native.Mathlib.Decide.{dec_lt}
use lib.ListN.{length-map}
use Rattle.std.proofs.lemmas.List.{get_or_past}
use Rattle.records.specs.declared.PlaceRecord.{PlaceRecord}
use Rattle.records.specs.declared.SlotRecord.{SlotRecord}
use Rattle.records.specs.Tables.{first_at, count_at, kind_at, name_at, target_at, Owns, Edge}
use Rattle.records.specs.Sheets.{Sheet}
use Rattle.records.proofs.Pigeons.{pigeon}
use Rattle.records.proofs.Shape.{slot_in}
use Rattle.records.proofs.Shape as shape
use Rattle.renumbering.specs.Drafts.{Draft}
use Rattle.numbering.specs.Quotient.{Work, Reached, Quotient}
use Rattle.numbering.specs.Quotient.Reached.{start, along}
use Rattle.renumbering.proofs.Counts.{ends, owner_one, owner}

module _ {F : Type 0} (ps : List (PlaceRecord F)) (ss : List SlotRecord) (d : Draft ps ss) where
  -- within a place the names rise
  rises : (p i j : ℕ) → i < j → Owns ps p i → Owns ps p j → name_at ss i < name_at ss j
  rises p i zero l a b = absurd (omega arith)
  rises p i (suc j) l a b =
      let step = d.rising p j a.place (omega (arith, a.from)) b.upto in
      elim (dec_lt i j) [
        | yes lt ↦ omega (arith, rises p i j lt a (record { place = a.place; from = omega (arith, a.from); upto = omega (arith, b.upto) }))
        | no ge ↦
            let e : i ≡ j = omega arith in
            omega (arith, ap (name_at ss) e)
      ]

  -- so a place has one slot of a name
  one_slot : (p i j : ℕ) → Owns ps p i → Owns ps p j → name_at ss i ≡ name_at ss j → i ≡ j
  one_slot p i j a b e =
      elim (dec_lt i j) [
        | yes lt ↦ absurd (omega (arith, rises p i j lt a b))
        | no ge ↦ elim (dec_lt j i) [ yes lt ↦ absurd (omega (arith, rises p j i lt b a)) | no ge' ↦ omega arith ]
      ]

  module _ (c : ℕ → ℕ) (own : (x : ℕ) → x < length ps → c x ≡ x) where
    draft_reached : (n x : ℕ) → x < n → x < length ps → Reached ps ss c x
    draft_reached zero x l h = absurd (omega arith)
    draft_reached (suc n) x l h =
        elim (dec_lt 0 x) [
          | yes lt ↦
              let b = d.led x lt h in
              along (name_at ss b.slot) (draft_reached n b.place (omega (arith, b.earlier)) b.owns.place)
              (record { slot = b.slot; owns = b.owns; named = refl; leads = b.leads })
          | no ge ↦
              let e : 0 ≡ x = omega arith in
              subst (Reached ps ss c) e start
        ]

    block : (x : ℕ) → first_at ps x + count_at ps x ≤ length ss
    block x =
        elim (dec_lt x (length ps)) [
          | yes lt ↦ ends ps ss d.counted x lt
          | no ge ↦
              omega (
                arith,
                get_or_past (map (λ r. r.before) ps) x 0 (omega (arith, length-map ps (λ r. r.before))),
                get_or_past (map (λ r. r.count) ps) x 0 (omega (arith, length-map ps (λ r. r.count))),
              )
        ]

    pub draft_work : Work ps ss c
    draft_work =
        record {
          rooted = d.some_place;
          inside = λ x h. omega (arith, own x h);
          rests = λ x h. ap c (own x h);
          blocks = block;
          aimed = d.aimed;
          own = λ x y i a b. owner_one ps ss d.counted i x y a b;
          rising = rises;
          closed = λ x y f p q e g same.
              let at : x ≡ y = sym (own x e.owns.place) ∙ same ∙ own y g.owns.place in
              let owns' = subst (λ z. Owns ps z e.slot) at e.owns in
              let slots = one_slot y e.slot g.slot owns' g.owns (e.named ∙ sym g.named) in
              ap c (sym e.leads ∙ ap (target_at ss) slots ∙ g.leads);
          reached = λ x h. draft_reached (suc x) x (omega arith) h;
        }

    module _ (outp : List (PlaceRecord F)) (outs : List SlotRecord) (q : Quotient ps ss c outp outs) where
      -- the class of a place is its new number
      pub draft_quotient : Quotient ps ss (λ x. x) outp outs
      draft_quotient =
          record {
            formed = q.formed;
            class = q.class;
            root = q.root;
            within = q.within;
            onto = q.onto;
            one = λ x y h k e. ap q.class e;
            apart = λ x y h k e. sym (own x h) ∙ q.apart x y h k e ∙ own y k;
            kinds = λ f x h. q.kinds f x h ∙ ap (kind_at f ps) (own x h);
            edges = q.edges;
            only = q.only;
          }

      -- no two places become one,
      pub places_all : length ps ≤ length outp
      unfolding draft_quotient
      places_all =
          pigeon (length ps) (length outp) q.class q.within
          (λ i j l h e.
          let same = draft_quotient.apart i j (omega arith) h e in
          omega arith)

      -- and no two slots do
      abbrev s : Sheet F
      s = record { places = outp; slots = outs }

      edge_at : (i : ℕ) → i < length ss → (x : ℕ) × Edge ps ss x (name_at ss i) (target_at ss i) × Owns ps x i
      edge_at i h =
          let o = owner ps ss d.counted d.some_place i h in
          (o.0, record { slot = i; owns = o.1; named = refl; leads = refl }, o.1)

      moved : (i : ℕ) (h : i < length ss) → Edge outp outs (q.class (edge_at i h).0) (name_at ss i) (q.class (target_at ss i))
      moved i h = q.edges (edge_at i h).0 (name_at ss i) (target_at ss i) (edge_at i h).1

      pick : (i : ℕ) → Dec (i < length ss) → ℕ
      pick i (yes h) = (moved i h).slot
      pick i (no h) = 0

      pick_in : (i : ℕ) (e : Dec (i < length ss)) → i < length ss → pick i e < length outs
      unfolding pick
      pick_in i (yes h) l = slot_in s q.formed (q.class (edge_at i h).0) (name_at ss i) (q.class (target_at ss i)) (moved i h)
      pick_in i (no h) l = absurd (h l)

      pick_apart : (i j : ℕ) (d : Dec (i < length ss)) (e : Dec (j < length ss)) → i < length ss → j < length ss → pick i d ≡ pick j e → i ≡ j
      unfolding pick draft_quotient
      pick_apart i j (yes h) (yes k) l m e =
          let a = moved i h in
          let b = moved j k in
          let b_owns = subst (λ z. Owns outp (q.class (edge_at j k).0) z) (sym e) b.owns in
          let classes = shape.owner_one s q.formed a.slot (q.class (edge_at i h).0) (q.class (edge_at j k).0) a.owns b_owns in
          let places = draft_quotient.apart (edge_at i h).0 (edge_at j k).0 (edge_at i h).2.place (edge_at j k).2.place classes in
          let names : name_at ss i ≡ name_at ss j = sym a.named ∙ ap (name_at outs) e ∙ b.named in
          one_slot (edge_at j k).0 i j (subst (λ z. Owns ps z i) places (edge_at i h).2) (edge_at j k).2 names
      pick_apart i j (no h) e l m is = absurd (h l)
      pick_apart i j (yes h) (no k) l m is = absurd (k m)

      pub slots_all : length ss ≤ length outs
      slots_all =
          pigeon (length ss) (length outs) (λ i. pick i (dec_lt i (length ss))) (λ i h. pick_in i (dec_lt i (length ss)) h)
          (λ i j l h e.
          let same = pick_apart i j (dec_lt i (length ss)) (dec_lt j (length ss)) (omega arith) h e in
          omega arith)
