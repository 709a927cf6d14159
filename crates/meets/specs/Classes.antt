-- Classes of joined places, and the meet of the kinds of each. A list `ends` has for each place the one that stands for its class.
use Rattle.std.specs.Prelude.{◌≡◌, ℕ, ◌<◌, ◌≤◌, List, map, length, Option, ◌≢◌, slice_index, slice_index_or, slice_set}
use Rattle.kinds.specs.Laws.{KindLaws}
use Rattle.records.specs.declared.PlaceRecord.{PlaceRecord}
use Rattle.records.specs.Tables.{kind_at}
use Rattle.records.specs.Sheets.{blank_place, read_place}

-- the place that stands for the class of x
abbrev pub class_of : List ℕ → ℕ → ℕ
class_of ends x = slice_index ends x

-- each of the first n places has a place that stands for its class: itself or an earlier one, and one that stands for itself
pub record Classes (ends : List ℕ) (n : ℕ) : Type 0 where
  pub listed : n ≤ length ends
  pub earlier : (x : ℕ) → x < n → class_of ends x ≤ x
  pub settled : (x : ℕ) → x < n → class_of ends (class_of ends x) ≡ class_of ends x

-- from one table to the other the numbers of every record are kept, and so is the kind of every place that stands for no class
pub record Kept {F : Type 0} (ends : List ℕ) (old new : List (PlaceRecord F)) : Type 0 where
  pub size : length new ≡ length old
  pub before : map (λ r. r.before) new ≡ map (λ r. r.before) old
  pub count : map (λ r. r.count) new ≡ map (λ r. r.count) old
  pub members : (d : F) (x : ℕ) → (class_of ends x ≢ x) → kind_at d new x ≡ kind_at d old x

module _ {K F : Type 0} {below : K → K → Type 0} {top : K} {form : K → F} {kind : F → Option K} (laws : KindLaws below top form kind) where
  -- the kind that the record of the place x holds, and the greatest past the table (`kind_of` of the sheet that the table holds)
  abbrev pub kind_held : List (PlaceRecord F) → ℕ → K
  kind_held ps x = kind_at top (map (read_place laws) ps) x

  -- k is at or below the kind of each of the first n places that is in the class of e
  abbrev pub BelowClass : List ℕ → ℕ → List (PlaceRecord F) → ℕ → K → Type 0
  BelowClass ends n ps e k = (x : ℕ) → x < n → class_of ends x ≡ e → below k (kind_held ps x)

  -- Each of the first n places that stands for its class holds in new the meet of the kinds that those of its class have in old: it
  -- is at or below the kind of every member, every kind that is so is at or below it, and it lies in its own stored form.
  pub record Met (ends : List ℕ) (n : ℕ) (old new : List (PlaceRecord F)) : Type 0 where
    pub under : (x : ℕ) → x < n → below (kind_held new (class_of ends x)) (kind_held old x)
    pub greatest : (e : ℕ) (k : K) → e < n → class_of ends e ≡ e → BelowClass ends n old e k → below k (kind_held new e)
    pub own : (e : ℕ) → e < n → class_of ends e ≡ e → kind_at (form top) new e ≡ form (kind_held new e)

  -- some class has no meet: no kind is at or below the kinds of all its members
  pub record NoMeet (ends : List ℕ) (ps : List (PlaceRecord F)) : Type 0 where
    pub place : ℕ
    pub inside : place < length ps
    pub stands : class_of ends place ≡ place
    pub none : (k : K) → BelowClass ends (length ps) ps place k → ⊥

  -- ---- one place

  -- in new the place e holds the meet of the kinds that e and x have in old, in its own stored form, and all else is kept
  pub record MetInto (e x : ℕ) (old new : List (PlaceRecord F)) : Type 0 where
    pub meet : K
    pub left : below meet (kind_held old e)
    pub right : below meet (kind_held old x)
    pub most : (k : K) → below k (kind_held old e) → below k (kind_held old x) → below k meet
    pub table : new ≡ slice_set old e (record { kind = form meet; before = (slice_index_or old e (blank_place laws)).before; count = (slice_index_or old e (blank_place laws)).count })

  -- no kind is at or below the kinds of both e and x, and the table is kept
  pub record Apart (e x : ℕ) (old new : List (PlaceRecord F)) : Type 0 where
    pub none : (k : K) → below k (kind_held old e) → below k (kind_held old x) → ⊥
    pub table : new ≡ old
