-- A sheet has one text.
use Rattle.std.specs.Prelude.{◌≡◌, ℕ, List, Option}
use Rattle.kinds.specs.Laws.{KindLaws}
use Rattle.records.specs.Sheets.{Sheet}
use Rattle.vocabulary.specs.Texts.{Text}
use Rattle.showing.specs.Shown.{Shown}

module _ {K F : Type 0} {below : K → K → Type 0} {top : K} {form : K → F} {kind : F → Option K} (laws : KindLaws below top form kind) (texts : K → Text) (s : Sheet K) where
  -- two texts of a sheet are the same
  abbrev pub OneText : Type 0
  OneText = (one other : List ℕ) → Shown laws texts s one → Shown laws texts s other → one ≡ other
