-- From the text that was measured to the answer.
use Rattle.std.proofs.Common.{◌≡◌, ℕ, ◌+◌, ◌<◌, ◌≤◌, min, List, ◌++◌, length, take, drop, count_by, Option, sym, ap, ◌∙◌, subst, zero-add, arith}
use lib.Seq.{sets-eq}
use Rattle.std.specs.List.{range_with_len}
use Rattle.std.proofs.lemmas.List.{take_at, drop_at}
use Rattle.kinds.specs.Laws.{KindLaws}
use Rattle.kinds.specs.declared.kind.Kind.{Ghosts}
use Rattle.records.specs.declared.PlaceRecord.{PlaceRecord}
use Rattle.records.specs.declared.SlotRecord.{SlotRecord}
use Rattle.records.specs.Sheets as records
use Rattle.records.specs.Sheets.{size, sheet_of}
use Rattle.records.proofs.Reading.{same_size, formed_read}
use Rattle.sheets.specs.declared.sheet.Sheet.{Sheet}
use Rattle.sheets.specs.Checks.{IsSheet}
use Rattle.sheets.specs.Shown.{ShowsNothing, ShowsSheet}
use Rattle.vocabulary.specs.Texts.{Text}
use Rattle.showing.specs.Shown.{Shown, TooDeep, tags, tagged}
use Rattle.showing.specs.Showing.{TooLong, Written}
use Rattle.showing.specs.Progress.{Wrote}
use Rattle.showing.proofs.Depth.{not_deep}
use Rattle.showing.proofs.Walking.{one_text}

pub not_nothing : {K F : Type 0} {g : Ghosts K F} (sheet : Sheet K F g) → ShowsSheet sheet → ShowsNothing sheet → ⊥
not_nothing sheet is none = omega (arith, is.formed.rooted, ap length none.places)

module _ {K F : Type 0} {below : K → K → Type 0} {top : K} {form : K → F} {kind : F → Option K} (laws : KindLaws below top form kind) (texts : K → Text) (ps : List (PlaceRecord F)) (ss : List SlotRecord) (sheet : IsSheet ps ss) where
  abbrev s : records.Sheet K
  s = sheet_of laws ps ss

  pub never_deep : TooDeep laws texts s → ⊥
  never_deep = not_deep laws texts s (formed_read laws (record { places = ps; slots = ss }) sheet.formed) (omega (arith, same_size laws ps, sheet.few_places))

module _ {K F : Type 0} {below : K → K → Type 0} {top : K} {form : K → F} {kind : F → Option K} (laws : KindLaws below top form kind) (texts : K → Text) where
  pub tags_are : {qs ps : List (PlaceRecord F)} {ts ss : List SlotRecord} → qs ≡ ps → ts ≡ ss → count_by (tagged (sheet_of laws qs ts)) (range_with_len 0 (length qs)) ≡ tags (sheet_of laws ps ss)
  tags_are {ps = ps} {ss = ss} e f = (λ i. count_by (tagged (sheet_of laws (e i) (f i))) (range_with_len 0 (length (e i)))) ∙ ap (λ (n : ℕ). count_by (tagged (sheet_of laws ps ss)) (range_with_len 0 n)) (sym (same_size laws ps))

  pub wrote_of : {qs ps : List (PlaceRecord F)} {ts ss : List SlotRecord} {before after : List ℕ} {n : ℕ} → qs ≡ ps → ts ≡ ss → Wrote laws texts (sheet_of laws qs ts) before after n → Wrote laws texts (sheet_of laws ps ss) before after n
  wrote_of {before = before} {after = after} {n = n} e f w = subst (λ (s : records.Sheet K). Wrote laws texts s before after n) (λ i. sheet_of laws (e i) (f i)) w

module _ {K F : Type 0} {below : K → K → Type 0} {top : K} {form : K → F} {kind : F → Option K} (laws : KindLaws below top form kind) (texts : K → Text) (s : records.Sheet K) where
  pub too_long : (before after out : List ℕ) (n : ℕ) → Wrote laws texts s before after n → min 60000 (length out) < n → TooLong laws texts s out
  too_long before after out n w long = record { text = w.text; shown = w.shown; long = omega (arith, w.count) }

  pub not_too_long : (before after out : List ℕ) (n : ℕ) → Wrote laws texts s before after n → n ≤ 60000 → n ≤ length out → TooLong laws texts s out → ⊥
  not_too_long before after out n w most fits t = omega (arith, w.count, t.long, ap length (one_text laws texts s w.text t.text w.shown t.shown))

  pub written : (first second before after : List ℕ) (n m : ℕ) → Wrote laws texts s first second n → n ≤ 60000 → n ≤ length before → Wrote laws texts s before after m → Written laws texts s before m after
  written first second before after n m measured most fits w =
      let same = ap length (one_text laws texts s measured.text w.text measured.shown w.shown) in
      let long : length w.text ≡ m = omega (arith, w.count, measured.count) in
      let is : after ≡ w.text ++ drop (0 + length w.text) before = w.out ∙ sets-eq w.text before 0 (omega (arith, measured.count)) in
      let front : take m after ≡ w.text = ap (λ (l : List ℕ). take m l) is ∙ take_at w.text (drop (0 + length w.text) before) m long in
      record {
        text = subst (λ (t : List ℕ). Shown laws texts s t) (sym front) w.shown;
        whole = ap length front ∙ long;
        kept = ap (λ (l : List ℕ). drop m l) is ∙ drop_at w.text (drop (0 + length w.text) before) m long ∙ ap (λ (k : ℕ). drop k before) (zero-add (length w.text) ∙ long);
      }
