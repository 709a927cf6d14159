-- From what the draft of a line came to, to the answer.
use Rattle.std.proofs.Common.{◌≡◌, ℕ, ◌<◌, List, map, length, get_or, take, ℤ, Some, None, Ok, Err, Option, Result, sym, refl, ap, ◌∙◌, subst, arith}
use Rattle.std.proofs.lemmas.List.{take-map, get_or-take}
use Rattle.kinds.specs.Laws.{KindLaws, loaded}
use Rattle.records.specs.declared.PlaceRecord.{PlaceRecord}
use Rattle.records.specs.declared.SlotRecord.{SlotRecord}
use Rattle.records.specs.declared.Counts.{Counts}
use Rattle.records.specs.Sheets.{sheet_of}
use Rattle.sheets.specs.Checks.{IsSheet}
use Rattle.reading.specs.declared.fault.ReadFault.{ReadFault}
use Rattle.reading.specs.Faults.{number_of, byte_of}
use Rattle.reading.specs.declared.draft.Cursor.{Cursor}
use Rattle.reading.specs.declared.draft.Place.{Place}
use Rattle.reading.specs.declared.draft.Slot.{Slot}
use Rattle.reading.specs.Answers.{draft}
use Rattle.reading.specs.Steps.{Step, go, fault, on_some, read_place}
use Rattle.reading.specs.Meaning.{IsSheetOf}
use Rattle.placing.specs.Arranged.{Sound, drafted}
use Rattle.placing.specs.Reading.{SheetRead, ReadAs, places_read, slots_read}
use Rattle.placing.proofs.Soundness.{read_sound}
use Rattle.placing.proofs.Arrangement.{sound_plain}
use Rattle.placing.proofs.Sheeting.{read_back}

-- a field of a record of the front
field_front : {A B : Type 0} (f : A → B) (n : ℕ) (xs ys : List A) (i : ℕ) (d : B) → i < n → take n xs ≡ take n ys → get_or (map f xs) i d ≡ get_or (map f ys) i d
field_front f n xs ys i d lt e =
    sym (get_or-take n (map f xs) i d lt) ∙ ap (λ l. get_or l i d) (take-map f n xs ∙ ap (map f) e ∙ sym (take-map f n ys)) ∙ get_or-take n (map f ys) i d lt

module _ {K F : Type 0} {below : K → K → Type 0} {top : K} {form : K → F} {kind : F → Option K} (laws : KindLaws below top form kind)
    (words : List ℕ → Option K) (ranges : ℤ → ℤ → Option K) (pl sl : ℕ) (line : List ℕ) where
  told : (f : ReadFault) (o : Option ℕ) (s : Step K) (ps : List (PlaceRecord F)) (ss : List SlotRecord) → byte_of f ≡ o → on_some o (fault (number_of f)) (fault 0 0) ≡ s
      → (fault 0 0 ≡ s → ⊥) → ReadAs laws s (Err f) ps ss
  told f None s ps ss byte is never = absurd (never is)
  told f (Some b) s ps ss byte is never = subst (λ t. ReadAs laws t (Err f) ps ss) is (refl, byte)

  module _ (cur : Cursor) (dps : List (Place K)) (dss : List Slot) (is : go (draft cur dps dss) ≡ read_place words ranges pl sl line) where
    pub draft_sound : Sound (drafted (take cur.places dps) (take cur.slots dss))
    draft_sound = sound_plain (draft cur dps dss) (read_sound words ranges pl sl line (draft cur dps dss) (sym is)).0

    -- a sheet
    pub read_sheet : (c : Counts) (ps : List (PlaceRecord F)) (ss : List SlotRecord) → SheetRead laws (drafted (take cur.places dps) (take cur.slots dss)) c ps ss → ReadAs laws (read_place words ranges pl sl line) (Ok c) ps ss
    read_sheet c ps ss h = subst (λ s. ReadAs laws s (Ok c) ps ss) is (read_back laws (draft cur dps dss) c ps ss h)

  -- the answer stands where the first records of the tables do
  pub read_moved : (s : Step K) (r : Result Counts ReadFault) (ps qs : List (PlaceRecord F)) (ss ts : List SlotRecord) → take (places_read r) qs ≡ take (places_read r) ps → take (slots_read r) ts ≡ take (slots_read r) ss
      → length qs ≡ length ps → length ts ≡ length ss → ReadAs laws s r ps ss → ReadAs laws s r qs ts
  read_moved (go d) (Ok c) ps qs ss ts same_p same_s long_p long_s h = record {
    sheet = subst (λ l. IsSheetOf d (sheet_of laws l (take c.slots ts))) (sym same_p) (subst (λ l. IsSheetOf d (sheet_of laws (take c.places ps) l)) (sym same_s) h.sheet);
    forms = λ f p lt. subst (λ v. form (loaded laws v) ≡ v) (field_front (λ r. r.kind) c.places ps qs p f lt (sym same_p)) (h.forms f p lt);
    holds = record {
      places = omega (arith, h.holds.places);
      slots = omega (arith, h.holds.slots);
      sheet = subst (λ l. IsSheet l (take c.slots ts)) (sym same_p) (subst (λ l. IsSheet (take c.places ps) l) (sym same_s) h.holds.sheet);
    };
  }
  read_moved (go d) (Err f) ps qs ss ts same_p same_s long_p long_s h = h
  read_moved (fault n b) (Ok c) ps qs ss ts same_p same_s long_p long_s h = h
  read_moved (fault n b) (Err f) ps qs ss ts same_p same_s long_p long_s h = h
