-- What is shown reads back: the text of a sheet is read as a draft that describes this sheet, and a draft describes one sheet.
use Rattle.std.specs.Prelude.{◌≡◌, ℕ, ◌≤◌, List, length, ℤ, Option}
use Rattle.kinds.specs.Laws.{KindLaws}
use Rattle.records.specs.Sheets.{Sheet, size, width, Formed}
use Rattle.sheets.specs.Checks.{Named}
use Rattle.vocabulary.specs.Texts.{Text, VocabularyLaws}
use Rattle.reading.specs.Drafts.{Draft}
use Rattle.reading.specs.Meaning.{IsSheetOf}
use Rattle.reading.specs.Steps.{go, read_place}
use Rattle.showing.specs.Shown.{Shown, tags}

-- A draft describes one sheet.
abbrev pub OneSheet : Type 0 → Type 0
OneSheet K = (d : Draft K) (s t : Sheet K) → IsSheetOf d s → IsSheetOf d t → s ≡ t

module _ {K F : Type 0} {below : K → K → Type 0} {top : K} {form : K → F} {kind : F → Option K} (laws : KindLaws below top form kind) where
  module _ {words : List ℕ → Option K} {ranges : ℤ → ℤ → Option K} {texts : K → Text} (vocabulary : VocabularyLaws words ranges texts) where
    -- A sheet with at most 99 tags whose text fits a line: where there is room for its places and slots, the text is read, and what is
    -- read describes the sheet.
    abbrev pub ReadsBack : Type 0
    ReadsBack =
        (s : Sheet K) (pl sl : ℕ) (text : List ℕ) → Formed s → Named s.slots → size s ≤ pl → width s ≤ sl → tags s ≤ 99 → length text ≤ 60000
        → Shown laws texts s text → (d : Draft K) × (read_place words ranges pl sl text ≡ go d) × IsSheetOf d s
