-- What is shown reads back: each step of writing is followed by reading what was written.
use Rattle.std.proofs.Common.{◌≡◌, ℕ, ◌<◌, ◌≤◌, true, false, List, [], ◌∷◌, ◌++◌, length, ℤ, None, Option, sym, refl, ap, ◌∙◌, subst, ⊎_elim, append_assoc, arith}
use Rattle.std.proofs.lemmas.List.{append-nil, length_push}
use Rattle.std.proofs.lemmas.Bool.{cond-false, le-ltb, both_ways}
use Rattle.kinds.specs.Laws.{KindLaws}
use Rattle.names.specs.Names.{IsName}
use Rattle.records.specs.declared.SlotRecord.{SlotRecord}
use Rattle.records.specs.Sheets.{Sheet, size, width, Formed, kind_of}
use Rattle.sheets.specs.Checks.{Named}
use Rattle.vocabulary.specs.Texts.{Text, VocabularyLaws}
use Rattle.tokens.proofs.Stops.{Stops}
use Rattle.reading.specs.declared.draft.Mode.TheVariants.{Inside, Done}
use Rattle.reading.specs.Drafts.{Draft, nothing}
use Rattle.reading.specs.Meaning.{IsSheetOf}
use Rattle.reading.specs.Steps.{go, fault, on_some, read_place}
use Rattle.showing.specs.Shown.{has, tagged, tags, tag_of, slots_of, opening, again, naming, Walk, Shown}
use Rattle.showing.specs.Shown.Walk.{begins, closes, refers, enters}
use Rattle.restating.specs.Back.{ReadsBack}
use Rattle.restating.proofs.Allowed.{not_described, not_named}
use Rattle.restating.proofs.Chunks.{in_mode, placed, slotted, referred, reads_opening, reads_again, reads_name, reads_close}
use Rattle.restating.proofs.Ending.{nothing_left, is_sheet}
use Rattle.restating.proofs.Listed.{few, listed_push, has_last}
use Rattle.restating.proofs.States as states
use Rattle.restating.proofs.Crossing as crossing
use Rattle.restating.proofs.Crossing.{next_slot, not_crossed, tagged_again, target_inside}
use Rattle.restating.proofs.States.{State, mode_of, ends_place}
use Rattle.restating.proofs.Tags.{tag_some, tag_few, tag_last}
use Rattle.restating.proofs.Turns.{Reading, starts, at_last}

module _ {K F : Type 0} {below : K → K → Type 0} {top : K} {form : K → F} {kind : F → Option K} (laws : KindLaws below top form kind)
    {words : List ℕ → Option K} {ranges : ℤ → ℤ → Option K} {texts : K → Text} (vocabulary : VocabularyLaws words ranges texts)
    (s : Sheet K) (w : Formed s) (names : Named s.slots) (pl sl : ℕ) (places_fit : size s ≤ pl) (slots_fit : width s ≤ sl) (few_tags : tags s ≤ 99) (line : List ℕ) where
  -- writing has come to `left` and `written`, the line has been read as far, and `rest` is left of it
  record Followed (left : List (List SlotRecord)) (written rest : List ℕ) : Type 0 where
    stack : List ℕ
    next : ℕ → ℕ
    crossed : List ℕ
    draft : Draft K
    state : State laws s w left stack written next crossed draft
    reading : Reading words ranges pl sl line rest (in_mode (mode_of left) draft)

  first : (rest : List ℕ) → Stops rest → line ≡ opening laws texts s [] 0 ++ rest → Followed (slots_of s 0 ∷ []) (0 ∷ []) rest
  first rest stops e =
      let k : K = kind_of laws s 0 in
      let r = reads_opening words ranges pl sl line nothing rest stops k (texts k) (vocabulary.writable k) (vocabulary.reads k) (omega (arith, w.rooted)) (tagged s 0) (tag_of s [] 0)
      (λ t. (omega arith, omega arith, refl)) (subst (λ l. Reading words ranges pl sl line l nothing) e (starts words ranges pl sl line)) in
      record { stack = 0 ∷ []; next = _; crossed = []; draft = placed r.0 k nothing; state = states.begins laws s w r.0 r.1; reading = r.2 }

  close_one : (left : List (List SlotRecord)) (written rest : List ℕ) → Followed ([] ∷ left) written (41 ∷ rest) → Followed left written rest
  close_one left written rest f = by f.stack f.state
    where
      by : (stack : List ℕ) → State laws s w ([] ∷ left) stack written f.next f.crossed f.draft → Followed left written rest
      by [] st = absurd st.frames
      by (k ∷ ks) st =
          let c = ends_place laws s w left ks st in
          record { stack = ks; next = f.next; crossed = f.crossed; draft = c.draft; state = c.state; reading = reads_close words ranges pl sl line f.draft rest (in_mode (mode_of left) c.draft) c.closes f.reading }

  module _ {x : SlotRecord} {xs : List SlotRecord} {left : List (List SlotRecord)} {k : ℕ} {ks written : List ℕ} {next : ℕ → ℕ} {crossed : List ℕ} {d : Draft K}
      (st : State laws s w ((x ∷ xs) ∷ left) (k ∷ ks) written next crossed d) (rest : List ℕ) (stops : Stops rest) where
    -- the name of the next slot is read
    name_read : (later : List ℕ) → Reading words ranges pl sl line (naming laws texts s x ++ later) (in_mode Inside d) → Reading words ranges pl sl line later (slotted x.name d)
    name_read later r =
        let n = next_slot laws s w st in
        let one_more = few (listed_push st.related.through n.slot n.inside (not_crossed laws s w st)) in
        reads_name words ranges pl sl line d later x.name (subst IsName (sym n.name) (names n.slot n.inside)) (not_named laws s w st)
        (omega (arith, one_more, length_push crossed n.slot, st.related.as_many)) r

    refer_one : has written x.target ≡ true → Reading words ranges pl sl line (naming laws texts s x ++ (again laws texts s written x.target ++ rest)) (in_mode Inside d) → Followed (xs ∷ left) written rest
    refer_one h r =
        let q : ℕ = x.target in
        let a = reads_again words ranges pl sl line (slotted x.name d) rest (tag_of s written q) (tag_some s written q) (omega (arith, tag_few s st.related.listed q h (tagged_again laws s w st h)))
        (more_slots d.slots _) (name_read _ r) in
        record { stack = k ∷ ks; next = _; crossed = _; draft = referred a.0 (slotted x.name d); state = crossing.refers laws s w st a.0 h a.1; reading = a.2 }
      where
        more_slots : {X : Type 0} (ys : List X) (y : X) → 0 < length (ys ++ (y ∷ []))
        more_slots ys y = omega (arith, length_push ys y)

    enter_one : has written x.target ≡ false → Reading words ranges pl sl line (naming laws texts s x ++ (opening laws texts s written x.target ++ rest)) (in_mode Inside d)
        → Followed (slots_of s x.target ∷ (xs ∷ left)) (written ++ (x.target ∷ [])) rest
    enter_one h r =
        let q : ℕ = x.target in
        let kd : K = kind_of laws s q in
        let more = listed_push st.related.listed q (target_inside laws s w st h) h in
        let a = reads_opening words ranges pl sl line (slotted x.name d) rest stops kd (texts kd) (vocabulary.writable kd) (vocabulary.reads kd)
        (omega (arith, few more, length_push written q, st.related.many)) (tagged s q) (tag_of s written q)
        (λ t. (tag_some s written q, omega (arith, tag_last s written q, tag_few s more q (has_last written q) t), not_described laws s w st.related q h)) (name_read _ r) in
        record { stack = _; next = _; crossed = _; draft = placed a.0 kd (slotted x.name d); state = crossing.enters laws s w st h a.0 a.1; reading = a.2 }

  module _ {x : SlotRecord} {xs : List SlotRecord} {left : List (List SlotRecord)} {written : List ℕ} (rest : List ℕ) (stops : Stops rest) where
    refer_on : has written x.target ≡ true → Followed ((x ∷ xs) ∷ left) written (naming laws texts s x ++ (again laws texts s written x.target ++ rest)) → Followed (xs ∷ left) written rest
    refer_on h f = by f.stack f.state
      where
        by : (stack : List ℕ) → State laws s w ((x ∷ xs) ∷ left) stack written f.next f.crossed f.draft → Followed (xs ∷ left) written rest
        by [] st = absurd st.frames
        by (k ∷ ks) st = refer_one st rest stops h f.reading

    enter_on : has written x.target ≡ false → Followed ((x ∷ xs) ∷ left) written (naming laws texts s x ++ (opening laws texts s written x.target ++ rest))
        → Followed (slots_of s x.target ∷ (xs ∷ left)) (written ++ (x.target ∷ [])) rest
    enter_on h f = by f.stack f.state
      where
        by : (stack : List ℕ) → State laws s w ((x ∷ xs) ∷ left) stack written f.next f.crossed f.draft → Followed (slots_of s x.target ∷ (xs ∷ left)) (written ++ (x.target ∷ [])) rest
        by [] st = absurd st.frames
        by (k ∷ ks) st = enter_one st rest stops h f.reading

  followed : {left : List (List SlotRecord)} {written text : List ℕ} → Walk laws texts s left written text → (rest : List ℕ) → Stops rest → line ≡ text ++ rest → Followed left written rest
  followed begins rest stops e = first rest stops e
  followed (closes {left} {written} {text} walk) rest stops e = close_one left written rest (followed walk (41 ∷ rest) refl (e ∙ append_assoc text (41 ∷ []) rest))
  followed (refers {x} {xs} {left} {written} {text} walk h) rest stops e =
      refer_on rest stops h (followed walk (naming laws texts s x ++ (again laws texts s written x.target ++ rest)) refl (e ∙ simp append_assoc))
  followed (enters {x} {xs} {left} {written} {text} walk h) rest stops e =
      enter_on rest stops h (followed walk (naming laws texts s x ++ (opening laws texts s written x.target ++ rest)) refl (e ∙ simp append_assoc))

  read_back : length line ≤ 60000 → Shown laws texts s line → (d : Draft K) × (read_place words ranges pl sl line ≡ go d) × IsSheetOf d s
  unfolding read_place
  read_back short shown = by f.stack f.state
    where
      f : Followed [] shown.written []
      f = followed shown.walk [] tt (sym (append-nil line))

      by : (stack : List ℕ) → State laws s w [] stack shown.written f.next f.crossed f.draft → (d : Draft K) × (read_place words ranges pl sl line ≡ go d) × IsSheetOf d s
      by [] st = (
        in_mode (Done None) f.draft,
        cond-false _ _ _ (le-ltb 60000 (length line) short) ∙ at_last words ranges pl sl line f.reading ∙ ap (λ o. on_some o (fault 26) (go (in_mode (Done None) f.draft))) (nothing_left laws s w st.related),
        is_sheet laws s w st.related (λ x h. ⊎_elim (λ e. e) (λ none. absurd (both_ways false refl none)) (st.closed x h)) (Done None) f.draft.top,
      )
      by (k ∷ ks) st = absurd st.frames

pub reads_back : {K F : Type 0} {below : K → K → Type 0} {top : K} {form : K → F} {kind : F → Option K} (laws : KindLaws below top form kind)
    {words : List ℕ → Option K} {ranges : ℤ → ℤ → Option K} {texts : K → Text} (vocabulary : VocabularyLaws words ranges texts) → ReadsBack laws vocabulary
reads_back laws vocabulary s pl sl text w names places_fit slots_fit few_tags short shown =
    read_back laws vocabulary s w names pl sl (omega arith) (omega arith) (omega arith) text (omega arith) shown
