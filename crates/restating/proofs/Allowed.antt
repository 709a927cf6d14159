-- What the reader checks is as it should be: a new tag is described for the first time, and a place has no name twice.
use Rattle.std.proofs.Common.{◌≡◌, ℕ, suc, ◌<◌, Bool, true, false, ◌&&◌, eqb, List, [], ◌∷◌, length, Option, sym, refl, ap, ◌∙◌, subst, inr, ⊎_elim, arith}
use Rattle.std.proofs.lemmas.Bool.{ne_eqb, eqb-true, or_from, and_parts, cases_Bool, both_ways}
use Rattle.kinds.specs.Laws.{KindLaws}
use Rattle.records.specs.declared.SlotRecord.{SlotRecord}
use Rattle.records.specs.Tables.{Owns}
use Rattle.records.specs.Sheets.{Sheet, Formed}
use Rattle.records.proofs.Fields.{name_of, target_of}
use Rattle.records.proofs.Shape.{ordered}
use Rattle.reading.specs.declared.draft.Tag.{Tag}
use Rattle.reading.specs.declared.draft.Place.{Place}
use Rattle.reading.specs.declared.draft.Slot.{Slot}
use Rattle.reading.specs.Drafts.{Draft, numbered, described, named, tag_at, slot_at}
use Rattle.showing.specs.Shown.{has, tagged, tag_of}
use Rattle.restating.proofs.Chunks.{TagIs}
use Rattle.restating.proofs.Listed.{at, has_at}
use Rattle.restating.proofs.Related.{Related}
use Rattle.restating.proofs.Crossing.{next_slot, not_crossed}
use Rattle.restating.proofs.States.{State}
use Rattle.restating.proofs.Tags.{tag_less}

module _ {K : Type 0} where
  none_described : (ps : List (Place K)) (n : ℕ) → ((x : ℕ) → x < length ps → numbered (tag_at ps x) n ≡ false) → described ps n ≡ false
  none_described [] n h = refl
  none_described (p ∷ ps) n h = or_from (numbered p.tag n) (described ps n) (h 0 (omega arith)) (none_described ps n (λ x l. h (suc x) (omega arith)))

none_named : (ss : List Slot) (o n : ℕ) → ((j : ℕ) → j < length ss → (slot_at ss j).owner ≡ o → (slot_at ss j).name ≡ n → ⊥) → named ss o n ≡ false
none_named [] o n h = refl
none_named (x ∷ ss) o n h =
    or_from (eqb x.owner o && eqb x.name n) (named ss o n)
    (⊎_elim
    (λ e. let p = and_parts (eqb x.owner o) (eqb x.name n) e in absurd (h 0 (omega arith) (eqb-true x.owner o p.0) (eqb-true x.name n p.1)))
    (λ e. e)
    (cases_Bool (eqb x.owner o && eqb x.name n)))
    (none_named ss o n (λ j l. h (suc j) (omega arith)))

-- a tag of a lesser number is another
other_tag : (b : Bool) (m n : ℕ) (g : Option Tag) → (b ≡ true → m < n) → TagIs b m g → numbered g n ≡ false
other_tag true m n g less is = ap (λ h. numbered h n) is.1 ∙ ne_eqb is.0.number n (λ e. omega (arith, less refl, is.2))
other_tag false m n g less is = ap (λ h. numbered h n) is

module _ {K F : Type 0} {below : K → K → Type 0} {top : K} {form : K → F} {kind : F → Option K} (laws : KindLaws below top form kind) (s : Sheet K) (w : Formed s) where
  pub not_described : {written : List ℕ} {places : List (Place K)} {slots : List Slot} {next : ℕ → ℕ} {crossed : List ℕ} → Related laws s w written places slots next crossed
      → (q : ℕ) → has written q ≡ false → described places (tag_of s written q) ≡ false
  not_described {written} {places} r q fresh =
      none_described places (tag_of s written q) (λ x h.
      let l : x < length written = omega (arith, r.many) in
      other_tag (tagged s (at written x)) (tag_of s written (at written x)) (tag_of s written q) (tag_at places x)
      (λ e. tag_less s written (at written x) q (has_at written x l) e fresh) (r.tags x l))

  -- a place has one slot of a name
  one_slot : (p i j : ℕ) → Owns s.places p i → Owns s.places p j → name_of s i ≡ name_of s j → i ≡ j
  one_slot p i j a b e =
      let one = ordered s w p (name_of s i) (target_of s i) p (name_of s j) (target_of s j) (record { slot = i; owns = a; named = refl; leads = refl }) (record { slot = j; owns = b; named = refl; leads = refl }) (inr (refl, omega arith)) in
      let two = ordered s w p (name_of s j) (target_of s j) p (name_of s i) (target_of s i) (record { slot = j; owns = b; named = refl; leads = refl }) (record { slot = i; owns = a; named = refl; leads = refl }) (inr (refl, omega arith)) in
      omega arith

  pub not_named : {x : SlotRecord} {xs : List SlotRecord} {left : List (List SlotRecord)} {k : ℕ} {ks written : List ℕ} {next : ℕ → ℕ} {crossed : List ℕ} {d : Draft K}
      → State laws s w ((x ∷ xs) ∷ left) (k ∷ ks) written next crossed d → named d.slots d.top x.name ≡ false
  not_named {x} {k = k} {written = written} {crossed = crossed} {d = d} st =
      let n = next_slot laws s w st in
      let r = st.related in
      none_named d.slots d.top x.name (λ j h owner name.
      let l : j < length crossed = omega (arith, r.as_many) in
      let c = r.drawn j l in
      let there : Owns s.places (at written k) (at crossed j) = subst (λ z. Owns s.places (at written z) (at crossed j)) (owner ∙ st.innermost) c.owns in
      let same = one_slot (at written k) (at crossed j) n.slot there n.owns (sym c.name ∙ name ∙ n.name) in
      both_ways (has crossed n.slot) (not_crossed laws s w st) (ap (has crossed) (sym same) ∙ has_at crossed j l))
