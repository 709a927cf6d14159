-- The state of reading a text back: it begins with the root, and a bracket ends a place.
use Rattle.std.proofs.Common.{◌≡◌, ℕ, zero, suc, ◌<◌, true, eqb, ◌⊎◌, List, [], ◌∷◌, length, None, Option, refl, ap, ◌∙◌, subst, inl, inr, ⊎_elim, arith}
use Rattle.std.proofs.lemmas.Bool.{cond-true, cond-false, eq-eqb, ne_eqb, or_cases, eqb-true}
use Rattle.kinds.specs.Laws.{KindLaws}
use Rattle.records.specs.declared.SlotRecord.{SlotRecord}
use Rattle.records.specs.Sheets.{Sheet, size, Formed, kind_of}
use Rattle.records.proofs.Fields.{first_of, target_of}
use Rattle.records.proofs.Shape.{ends}
use Rattle.reading.specs.declared.draft.Tag.{Tag}
use Rattle.reading.specs.declared.draft.Mode.{Mode}
use Rattle.reading.specs.declared.draft.Mode.TheVariants.{Inside, Done}
use Rattle.reading.specs.Drafts.{Draft, nothing, kind_at, tag_at, parent_at}
use Rattle.reading.specs.Steps.{go, close}
use Rattle.showing.specs.Shown.{has, tagged, tag_of, slots_of}
use Rattle.restating.proofs.Chunks.{TagIs, in_mode, placed}
use Rattle.restating.proofs.Frames.{part_none, Linked, whole_part, Frames}
use Rattle.restating.proofs.Listed.{at}
use Rattle.restating.proofs.Related.{end_of, Related}

-- the mode of the reader while places are open, and in the end
abbrev pub mode_of : List (List SlotRecord) → Mode
mode_of [] = Done None
mode_of (xs ∷ left) = Inside

-- the innermost open place is the first of the stack
abbrev pub Top : List ℕ → ℕ → Type 0
Top [] t = Unit {0}
Top (k ∷ ks) t = t ≡ k

-- the only number below one
only_root : (P : ℕ → Type 0) → P 0 → (x : ℕ) → x < 1 → P x
only_root P z zero h = z
only_root P z (suc x) h = absurd (omega arith)

module _ {K F : Type 0} {below : K → K → Type 0} {top : K} {form : K → F} {kind : F → Option K} (laws : KindLaws below top form kind) (s : Sheet K) (w : Formed s) where
  -- a slot that is crossed leads to the place q
  pub record Came (crossed : List ℕ) (q : ℕ) : Type 0 where
    pub slot : ℕ
    pub crosses : has crossed slot ≡ true
    pub leads : target_of s slot ≡ q

  -- Writing has come to `left` and `written`, and reading to the draft d: the stack has the open places of the draft, the innermost
  -- first; every other place has all its slots crossed; and every place but the root was come to by a slot.
  pub record State (left : List (List SlotRecord)) (stack written : List ℕ) (next : ℕ → ℕ) (crossed : List ℕ) (d : Draft K) : Type 0 where
    pub related : Related laws s w written d.places d.slots next crossed
    pub came : (x : ℕ) → 0 < x → x < length written → Came crossed (at written x)
    pub innermost : Top stack d.top
    pub linked : Linked d.places stack
    pub frames : Frames laws s w written next left stack
    pub closed : (x : ℕ) → x < length written → (next (at written x) ≡ end_of laws s w (at written x)) ⊎ (has stack x ≡ true)

  -- ---- a place ends

  pub record Closed (left : List (List SlotRecord)) (ks written : List ℕ) (next : ℕ → ℕ) (crossed : List ℕ) (d : Draft K) : Type 0 where
    pub draft : Draft K
    pub closes : close (in_mode Inside d) ≡ go (in_mode (mode_of left) draft)
    pub state : State left ks written next crossed draft

  module _ {k : ℕ} {written : List ℕ} {next : ℕ → ℕ} {crossed : List ℕ} {d : Draft K} where
    all_read : {left : List (List SlotRecord)} {ks : List ℕ} → State ([] ∷ left) (k ∷ ks) written next crossed d
        → (y : ℕ) → y < length written → (next (at written y) ≡ end_of laws s w (at written y)) ⊎ (has ks y ≡ true)
    all_read {left} {ks} st y a =
        let p : ℕ = at written k in
        let full : next p ≡ end_of laws s w p = part_none s.slots (next p) (end_of laws s w p) st.frames.0.1 (st.related.upto p) (ends s w p (st.related.listed.below k st.frames.0.0)) in
        ⊎_elim
        (λ e. inl e)
        (λ h. ⊎_elim (λ e. inl (subst (λ z. next (at written z) ≡ end_of laws s w (at written z)) (eqb-true k y e) full)) (λ e. inr e) (or_cases (eqb k y) (has ks y) h))
        (st.closed y a)

    pub ends_place : (left : List (List SlotRecord)) (ks : List ℕ) → State ([] ∷ left) (k ∷ ks) written next crossed d → Closed left ks written next crossed d
    ends_place [] [] st = record {
      draft = d;
      closes = cond-true (eqb d.top 0) _ _ (eq-eqb d.top 0 (st.innermost ∙ st.linked));
      state = record { related = st.related; came = st.came; innermost = tt; linked = tt; frames = tt; closed = all_read st };
    }
    ends_place [] (j ∷ ks) st = absurd st.frames.1
    ends_place (xs ∷ left) [] st = absurd st.frames.1
    ends_place (xs ∷ left) (j ∷ ks) st = record {
      draft = record { mode = Inside; top = parent_at d.places d.top; places = d.places; slots = d.slots };
      closes = cond-false (eqb d.top 0) _ _ (ne_eqb d.top 0 (λ z. omega (arith, st.innermost, st.linked.0)));
      state = record {
        related = st.related;
        came = st.came;
        innermost = ap (parent_at d.places) st.innermost ∙ st.linked.1;
        linked = st.linked.3;
        frames = st.frames.1;
        closed = all_read st;
      };
    }

  -- ---- it begins with the root

  pub begins : (g : Option Tag) → TagIs (tagged s 0) (tag_of s [] 0) g → State (slots_of s 0 ∷ []) (0 ∷ []) (0 ∷ []) (first_of s) [] (placed g (kind_of laws s 0) nothing)
  begins g is = record {
    related = record {
      listed = record { apart = (refl, tt); below = only_root (λ x. at (0 ∷ []) x < size s) w.rooted };
      some = omega arith;
      root = refl;
      many = refl;
      kinds = λ k. only_root (λ x. kind_at k (placed g (kind_of laws s 0) nothing).places x ≡ kind_of laws s (at (0 ∷ []) x)) refl;
      tags = only_root (λ x. TagIs (tagged s (at (0 ∷ []) x)) (tag_of s (0 ∷ []) (at (0 ∷ []) x)) (tag_at (placed g (kind_of laws s 0) nothing).places x)) is;
      through = record { apart = tt; below = λ k h. absurd (omega arith) };
      as_many = refl;
      drawn = λ j h. absurd (omega arith);
      from = λ p. omega arith;
      upto = λ p. omega arith;
      untouched = λ p h. refl;
      covered = λ p i o h l. absurd (omega (arith, o.from));
    };
    came = λ x h l. absurd (omega arith);
    innermost = refl;
    linked = refl;
    frames = ((omega arith, whole_part laws s w 0), tt);
    closed = only_root (λ x. (first_of s (at (0 ∷ []) x) ≡ end_of laws s w (at (0 ∷ []) x)) ⊎ (has (0 ∷ []) x ≡ true)) (inr refl);
  }
