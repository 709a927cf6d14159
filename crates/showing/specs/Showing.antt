-- Show: its checks, and what it leaves.
use Rattle.std.specs.Prelude.{◌≡◌, ℕ, ◌<◌, min, List, [], ◌∷◌, length, take, drop, Ok, Err, Option, Result}
use Rattle.kinds.specs.Laws.{KindLaws}
use Rattle.kinds.specs.declared.kind.Kind.{Ghosts}
use Rattle.records.specs.Sheets as records
use Rattle.records.specs.Sheets.{sheet_of}
use Rattle.sheets.specs.declared.sheet.Sheet.{Sheet}
use Rattle.sheets.specs.Refusals.{Checks}
use Rattle.sheets.specs.Shown.{ShowsNothing, shown_places, shown_slots}
use Rattle.vocabulary.specs.Texts.{Text}
use Rattle.showing.specs.declared.fault.ShowFault.{ShowFault}
use Rattle.showing.specs.Shown.{Shown, TooDeep, tags}

module _ {K F : Type 0} {below : K → K → Type 0} {top : K} {form : K → F} {kind : F → Option K} (laws : KindLaws below top form kind) (texts : K → Text) where
  -- the text is longer than 60,000 bytes or than the output
  pub record TooLong (s : records.Sheet K) (out : List ℕ) : Type 0 where
    pub text : List ℕ
    pub shown : Shown laws texts s text
    pub long : min 60000 (length out) < length text

  -- the checks of a show in order
  abbrev pub show_checks : {g : Ghosts K F} → Sheet K F g → List ℕ → Checks
  show_checks sheet out =
      (51, ShowsNothing sheet)
      ∷ (37, 99 < tags (sheet_of laws (shown_places sheet) (shown_slots sheet)))
      ∷ (38, TooDeep laws texts (sheet_of laws (shown_places sheet) (shown_slots sheet)))
      ∷ (36, TooLong (sheet_of laws (shown_places sheet) (shown_slots sheet)) out)
      ∷ []

  -- the first n bytes of the output are the text of the sheet, and those past it are as they were
  pub record Written (s : records.Sheet K) (before : List ℕ) (n : ℕ) (after : List ℕ) : Type 0 where
    pub text : Shown laws texts s (take n after)
    pub whole : length (take n after) ≡ n
    pub kept : drop n after ≡ drop n before

  -- what a show that was answered so leaves in the output
  abbrev pub Leaves : records.Sheet K → List ℕ → Result ℕ ShowFault → List ℕ → Type 0
  Leaves s before (Ok n) after = Written s before n after
  Leaves s before (Err fault) after = after ≡ before
