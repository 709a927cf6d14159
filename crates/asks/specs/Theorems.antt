-- What holds of the sheet that an add stands for.
use Rattle.std.specs.Prelude.{◌≡◌, ℕ, ◌+◌, ◌↔◌, List, length, Option}
use Rattle.kinds.specs.Laws.{KindLaws}
use Rattle.records.specs.Sheets.{Sheet, size, width, Formed, sheet_of}
use Rattle.records.specs.Satisfaction.{Satisfies}
use Rattle.records.specs.Beside.{Beside}
use Rattle.asks.specs.Paths.{Leads, From}
use Rattle.asks.specs.Asks.{chained}

module _ {K F : Type 0} {below : K → K → Type 0} {top : K} {form : K → F} {kind : F → Option K} (laws : KindLaws below top form kind) where
  -- it has one place and one slot more than t for each name of the path
  abbrev pub AddSized : Type 0
  AddSized =
      (path : List ℕ) (t : Sheet K)
      → (size (chained top path t) ≡ length path + size t) × (width (chained top path t) ≡ length path + width t)

  -- it is well formed where t is
  abbrev pub AddFormed : Type 0
  AddFormed = (path : List ℕ) (t : Sheet K) → Formed t → Formed (chained top path t)

  -- a sheet satisfies s exactly when the path leads in it from the root to a place from which t is satisfied
  abbrev pub AsksAt : List ℕ → Sheet K → Sheet K → Type 0
  AsksAt path t s = (u : Sheet K) → Formed u → Satisfies laws u s ↔ ((x : ℕ) × Leads u 0 path x × From laws u x t)

  -- it asks just that
  abbrev pub AddLaw : Type 0
  AddLaw = (path : List ℕ) (t : Sheet K) → Formed t → AsksAt path t (chained top path t)

  -- and it is the only well formed sheet that does, record for record
  abbrev pub AddOnly : Type 0
  AddOnly = (path : List ℕ) (t s : Sheet K) → Formed t → Formed s → AsksAt path t s → s ≡ chained top path t

  -- the sheet that tables of stored forms hold
  abbrev pub held : Sheet F → Sheet K
  held t = sheet_of laws t.places t.slots

  -- drawn over stored forms, with that of the greatest kind, it reads as it is drawn over kinds
  abbrev pub AddRead : Type 0
  AddRead = (path : List ℕ) (t : Sheet F) → held (chained (form top) path t) ≡ chained top path (held t)

  -- and where tables have it side by side with s, so have the sheets that they hold
  abbrev pub AddBeside : Type 0
  AddBeside =
      (path : List ℕ) (s t w : Sheet F) → Beside s (chained (form top) path t) w
      → Beside (held s) (chained top path (held t)) (held w)
