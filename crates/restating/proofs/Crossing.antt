-- The next slot of the innermost open place is read: it leads to a place that was written before, or to one that begins.
use Rattle.std.proofs.Common.{◌≡◌, ℕ, suc, ◌+◌, ◌-◌, ◌<◌, true, false, eqb, ◌⊎◌, List, [], ◌∷◌, ◌++◌, length, set, Option, sym, refl, ap, ◌∙◌, subst, inl, inr, ⊎_elim, arith}
use Rattle.std.proofs.ByRecursion.{All-weaker}
use Rattle.std.proofs.lemmas.List.{length_push, set_at}
use Rattle.std.proofs.lemmas.Bool.{eq-eqb, or_left, or_right, cases_eq, both_ways}
use Rattle.kinds.specs.Laws.{KindLaws}
use Rattle.records.specs.declared.SlotRecord.{SlotRecord}
use Rattle.records.specs.Tables.{Owns}
use Rattle.records.specs.Sheets.{Sheet, size, width, Formed, kind_of}
use Rattle.records.proofs.Fields.{first_of, name_of, target_of}
use Rattle.records.proofs.Shape.{ends, target_in}
use Rattle.reading.specs.declared.draft.Tag.{Tag}
use Rattle.reading.specs.declared.draft.Place.{Place}
use Rattle.reading.specs.declared.draft.Slot.{Slot}
use Rattle.reading.specs.declared.draft.Target.{Target}
use Rattle.reading.specs.declared.draft.Target.TheVariants.{To, ByTag}
use Rattle.reading.specs.Drafts.{Draft, slot_at, no_slot}
use Rattle.reading.specs.Steps.{by_tag}
use Rattle.showing.specs.Shown.{has, tagged, tag_of, slots_of}
use Rattle.restating.proofs.Chunks.{TagIs, placed, slotted, referred}
use Rattle.restating.proofs.Frames.{part, part_first, linked_below, linked_kept, whole_part, frames_kept}
use Rattle.restating.proofs.Listed.{at, index, has_at, has_more, has_last, at_one, index_in}
use Rattle.restating.proofs.Related.{end_of, Leads, Related, old, new, column_new, by_place, bump, bump_same, bump_other, related_place, related_slot, uncrossed}
use Rattle.restating.proofs.States.{Came, State}
use Rattle.restating.proofs.Tags.{tagged_root, tagged_twice}

-- the last slot leads by a tag
pub by_tag_lem : (ss : List Slot) (o n : ℕ) (x : Target) (t : Tag) → by_tag (ss ++ (record { owner = o; name = n; target = x } ∷ [])) t ≡ ss ++ (record { owner = o; name = n; target = ByTag t } ∷ [])
by_tag_lem ss o n x t =
    let y : Slot = record { owner = o; name = n; target = x } in
    let l : length (ss ++ (y ∷ [])) - 1 ≡ length ss = omega (arith, length_push ss y) in
    let e : slot_at (ss ++ (y ∷ [])) (length (ss ++ (y ∷ [])) - 1) ≡ y = new ss y (length (ss ++ (y ∷ [])) - 1) no_slot l in
    (λ i. set (ss ++ (y ∷ [])) (l i) (record { owner = (e i).owner; name = (e i).name; target = ByTag t })) ∙ set_at ss y [] (record { owner = o; name = n; target = ByTag t }) (length ss) refl

module _ {K F : Type 0} {below : K → K → Type 0} {top : K} {form : K → F} {kind : F → Option K} (laws : KindLaws below top form kind) (s : Sheet K) (w : Formed s) where
  came_more : (crossed : List ℕ) (i q : ℕ) → Came laws s w crossed q → Came laws s w (crossed ++ (i ∷ [])) q
  came_more crossed i q c = record { slot = c.slot; crosses = has_more crossed i c.slot c.crosses; leads = c.leads }

  -- ---- the next slot of the innermost open place

  pub record Next (x : SlotRecord) (xs : List SlotRecord) (k : ℕ) (written : List ℕ) (next : ℕ → ℕ) : Type 0 where
    pub slot : ℕ
    pub is : slot ≡ next (at written k)
    pub owns : Owns s.places (at written k) slot
    pub inside : slot < width s
    pub name : x.name ≡ name_of s slot
    pub target : x.target ≡ target_of s slot
    pub others : xs ≡ part s.slots (suc (next (at written k))) (end_of laws s w (at written k))

  module _ {x : SlotRecord} {xs : List SlotRecord} {left : List (List SlotRecord)} {k : ℕ} {ks written : List ℕ} {next : ℕ → ℕ} {crossed : List ℕ} {d : Draft K}
      (st : State laws s w ((x ∷ xs) ∷ left) (k ∷ ks) written next crossed d) where
    abbrev r : Related laws s w written d.places d.slots next crossed
    r = st.related

    known : k < length written
    known = st.frames.0.0

    pub next_slot : Next x xs k written next
    next_slot =
        let p : ℕ = at written k in
        let b : p < size s = r.listed.below k known in
        let f = part_first s.slots x xs (next p) (end_of laws s w p) st.frames.0.1 (ends s w p b) in
        record {
          slot = next p;
          is = refl;
          owns = record { place = b; from = r.from p; upto = f.some };
          inside = omega (arith, f.some, ends s w p b);
          name = ap (λ y. y.name) f.is;
          target = ap (λ y. y.target) f.is;
          others = f.others;
        }

    abbrev i : ℕ
    i = next_slot.slot

    pub not_crossed : has crossed i ≡ false
    not_crossed = uncrossed laws s w r (at written k) i next_slot.owns next_slot.is

    -- a place that is met again has a tag
    pub tagged_again : has written x.target ≡ true → tagged s x.target ≡ true
    tagged_again h =
        let j = index_in written x.target h in
        let e : target_of s i ≡ x.target = sym next_slot.target in
        ⊎_elim
        (λ z.
        let q : x.target ≡ 0 = sym j.1 ∙ ap (at written) z ∙ r.root in
        ap (tagged s) q ∙ tagged_root s i next_slot.inside (e ∙ q))
        (λ z.
        let c = st.came (index written x.target) (omega arith) j.0 in
        let f = index_in crossed c.slot c.crosses in
        tagged_twice s x.target c.slot i (λ same. both_ways (has crossed i) not_crossed (ap (has crossed) (sym same) ∙ c.crosses))
        (subst (λ y. y < width s) f.1 (r.through.below (index crossed c.slot) f.0)) next_slot.inside (c.leads ∙ j.1) e)
        (cases_eq (index written x.target) 0)

    -- the slots that the draft then has
    slots_with : (t : Target) → d.slots ++ (record { owner = k; name = name_of s i; target = t } ∷ []) ≡ d.slots ++ (record { owner = d.top; name = x.name; target = t } ∷ [])
    slots_with t = λ j. d.slots ++ (record { owner = sym st.innermost j; name = sym next_slot.name j; target = t } ∷ [])

    abbrev after : ℕ → ℕ
    after = bump (at written k) next

    same_next : (y : ℕ) → y < length written → (y ≡ k → ⊥) → after (at written y) ≡ next (at written y)
    same_next y h ne = bump_other (at written k) next (at written y) (λ e. ne (at_one r.listed y k h known e))

    others_left : xs ≡ part s.slots (after (at written k)) (end_of laws s w (at written k))
    others_left = next_slot.others ∙ ap (λ m. part s.slots m (end_of laws s w (at written k))) (sym (bump_same (at written k) next (at written k) refl))

    -- the next slot leads to a place that was written before
    pub refers : (t : Tag) → has written x.target ≡ true → t.number ≡ tag_of s written x.target
        → State laws s w (xs ∷ left) (k ∷ ks) written after (crossed ++ (i ∷ [])) (referred t (slotted x.name d))
    refers t h e =
        let leads : Leads laws s w written (ByTag t) (target_of s i) = subst (λ q. (has written q ≡ true) × (tagged s q ≡ true) × (t.number ≡ tag_of s written q)) next_slot.target (h, tagged_again h, e) in
        record {
          related = subst (λ ss. Related laws s w written d.places ss after (crossed ++ (i ∷ [])))
              (slots_with (ByTag t) ∙ sym (by_tag_lem d.slots d.top x.name (To (length d.places)) t))
              (related_slot laws s w r k i (ByTag t) known next_slot.owns next_slot.is leads);
          came = λ y a b. came_more crossed i (at written y) (st.came y a b);
          innermost = st.innermost;
          linked = st.linked;
          frames = (
            (known, others_left),
            frames_kept laws s w written written next after k
                (λ y a b. (b, refl, sym (same_next y b (λ z. omega arith)))) left ks (linked_below d.places k k ks (omega arith) st.linked) st.frames.1,
          );
          closed = λ y a.
              ⊎_elim
              (λ same. inr (or_left (eqb k y) (has ks y) (eq-eqb k y (sym same))))
              (λ other. ⊎_elim (λ full. inl (same_next y a other ∙ full)) (λ open₁. inr open₁) (st.closed y a))
              (cases_eq y k);
        }

    -- or it leads to a place that was not
    module _ (fresh : has written x.target ≡ false) where
      abbrev q : ℕ
      q = x.target

      abbrev more : List ℕ
      more = written ++ (q ∷ [])

      longer : length more ≡ length written + 1
      longer = length_push written q

      same_at : (y : ℕ) → y < length written → at more y ≡ at written y
      same_at y h = old written q y 0 h

      last_at : at more (length written) ≡ q
      last_at = new written q (length written) 0 refl

      untouched : after q ≡ first_of s q
      untouched = bump_other (at written k) next q (λ e. both_ways (has written q) fresh (ap (has written) e ∙ has_at written k known)) ∙ r.untouched q fresh

      same_after : (y : ℕ) → y < length written → (y ≡ k → ⊥) → after (at more y) ≡ next (at written y)
      same_after y h ne = ap after (same_at y h) ∙ same_next y h ne

      pub target_inside : q < size s
      target_inside = subst (λ z. z < size s) (sym next_slot.target) (target_in s w i next_slot.inside)

      related_more : (g : Option Tag) → TagIs (tagged s q) (tag_of s written q) g
          → Related laws s w more (placed g (kind_of laws s q) (slotted x.name d)).places (slotted x.name d).slots after (crossed ++ (i ∷ []))
      related_more g is =
          let e = same_at k known in
          let places : List (Place K) = (placed g (kind_of laws s q) (slotted x.name d)).places in
          let a = related_place laws s w r q d.top g target_inside fresh is in
          let b = related_slot laws s w a k i (To (length d.places)) (omega (arith, known, longer)) (subst (λ z. Owns s.places z i) (sym e) next_slot.owns) (next_slot.is ∙ ap next (sym e))
          (omega (arith, r.many, longer), ap (at more) r.many ∙ last_at ∙ next_slot.target) in
          subst (λ z. Related laws s w more places (slotted x.name d).slots (bump z next) (crossed ++ (i ∷ []))) e
          (subst (λ ss. Related laws s w more places ss (bump (at more k) next) (crossed ++ (i ∷ []))) (slots_with (To (length d.places))) b)

      pub enters : (g : Option Tag) → TagIs (tagged s q) (tag_of s written q) g
          → State laws s w (slots_of s q ∷ (xs ∷ left)) (length written ∷ (k ∷ ks)) more after (crossed ++ (i ∷ [])) (placed g (kind_of laws s q) (slotted x.name d))
      enters g is =
          let place : Place K = record { kind = kind_of laws s q; parent = d.top; tag = g } in
          let down = linked_below d.places k k ks (omega arith) st.linked in
          record {
            related = related_more g is;
            came = λ y b a. by_place written q (λ z. 0 < z → Came laws s w (crossed ++ (i ∷ [])) (at more z))
                (λ z c e. subst (Came laws s w (crossed ++ (i ∷ []))) (sym (same_at z c)) (came_more crossed i (at written z) (st.came z e c)))
                (λ e. record { slot = i; crosses = has_last crossed i; leads = sym next_slot.target ∙ sym last_at }) y a b;
            innermost = r.many;
            linked = (
              r.some,
              column_new d.places place (λ z. z.parent) (length written) 0 (sym r.many) ∙ st.innermost,
              known,
              linked_kept d.places place (k ∷ ks) (omega (arith, known, r.many), All-weaker (λ j. j < k) (λ j. j < length d.places) (λ j h. omega (arith, known, r.many)) ks down) st.linked,
            );
            frames = (
              (omega (arith, longer), whole_part laws s w q ∙ (λ j. part s.slots ((sym untouched ∙ ap after (sym last_at)) j) (end_of laws s w (sym last_at j)))),
              (
                (omega (arith, known, longer), others_left ∙ (λ j. part s.slots (after (sym (same_at k known) j)) (end_of laws s w (sym (same_at k known) j)))),
                frames_kept laws s w written more next after k (λ y a b. (omega (arith, longer), sym (same_at y b), sym (same_after y b (λ z. omega arith)))) left ks down st.frames.1,
              ),
            );
            closed = by_place written q (λ y. (after (at more y) ≡ end_of laws s w (at more y)) ⊎ (has (length written ∷ (k ∷ ks)) y ≡ true))
                (λ y a.
                ⊎_elim
                (λ same. inr (or_right (eqb (length written) y) (has (k ∷ ks) y) (or_left (eqb k y) (has ks y) (eq-eqb k y (sym same)))))
                (λ other.
                ⊎_elim
                (λ full. inl (same_after y a other ∙ full ∙ ap (end_of laws s w) (sym (same_at y a))))
                (λ open₁. inr (or_right (eqb (length written) y) (has (k ∷ ks) y) open₁))
                (st.closed y a))
                (cases_eq y k))
                (inr (or_left (eqb (length written) (length written)) (has (k ∷ ks) (length written)) (eq-eqb (length written) (length written) refl)));
          }
