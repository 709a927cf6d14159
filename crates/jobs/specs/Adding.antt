-- Add: its checks, and what it leaves.
use Rattle.std.specs.Prelude.{◌≡◌, ℕ, ◌+◌, ◌<◌, ◌≤◌, List, [], ◌∷◌, length, take, Ok, Err, Option, Result, slice_index}
use Rattle.kinds.specs.Laws.{KindLaws}
use Rattle.kinds.specs.declared.kind.Kind.{Ghosts}
use Rattle.names.specs.Names.{IsName}
use Rattle.records.specs.declared.Counts.{Counts}
use Rattle.records.specs.Tables.{blank_slot}
use Rattle.records.specs.Sheets as records
use Rattle.records.specs.Sheets.{Formed, blank_place, sheet_of}
use Rattle.records.specs.Satisfaction.{Satisfies}
use Rattle.unification.specs.Merge.{IsMerge}
use Rattle.sheets.specs.declared.sheet.Sheet as view
use Rattle.sheets.specs.Refusals.{Checks}
use Rattle.sheets.specs.Shown.{ShowsNothing, ShowsSheet, shown_places, shown_slots}
use Rattle.asks.specs.Asks.{chained}
use Rattle.merging.specs.Core.{OwnForms, Replaced, Worked}
use Rattle.jobs.specs.declared.job.Job.{Job}
use Rattle.jobs.specs.declared.fault.JobFault.{JobFault}
use Rattle.jobs.specs.declared.fault.JobFault.TheVariants.{NoRoom, TooLarge, Clash, Sheet}
use Rattle.jobs.specs.Jobs.{place_limit, slot_limit, place_count, slot_count, standing_sheet}

-- ---- the checks

-- a path has a number that is no name's
pub record Nameless (path : List ℕ) : Type 0 where
  pub at : ℕ
  pub within : at < length path
  pub nameless : IsName (slice_index path at) → ⊥

-- the checks of the path and the sheet alone
abbrev pub path_checks : {K F : Type 0} {g : Ghosts K F} → List ℕ → view.Sheet K F g → Checks
path_checks path sheet = (51, ShowsNothing sheet) ∷ (29, 16 < length path) ∷ (53, Nameless path) ∷ []

module _ {K F : Type 0} {g : Ghosts K F} (j : Job K F g) (path : List ℕ) (sheet : view.Sheet K F g) where
  -- the places and slots of the standing sheet and of the ask, side by side
  abbrev pub all_places : ℕ
  all_places = place_count j + length path + length (shown_places sheet)

  abbrev pub all_slots : ℕ
  all_slots = slot_count j + length path + length (shown_slots sheet)

  -- they pass P places or Q slots
  pub data TooMany : Type 0 where
    places : place_limit j < all_places → TooMany
    slots : slot_limit j < all_slots → TooMany

  -- the checks of an add in order; the last is the condition of a clash
  abbrev pub add_checks : Type 0 → Checks
  add_checks clash =
      (30, place_limit j ≡ 0)
      ∷ (51, ShowsNothing sheet)
      ∷ (29, 16 < length path)
      ∷ (53, Nameless path)
      ∷ (31, TooMany)
      ∷ (32, clash)
      ∷ []

  -- all of them but the last
  abbrev pub room_checks : Checks
  room_checks = (30, place_limit j ≡ 0) ∷ (51, ShowsNothing sheet) ∷ (29, 16 < length path) ∷ (53, Nameless path) ∷ (31, TooMany) ∷ []

  -- what holds where none of these refuses
  pub record Ready : Type 0 where
    pub some : 0 < place_limit j
    pub shows : ShowsSheet sheet
    pub places : all_places ≤ place_limit j
    pub slots : all_slots ≤ slot_limit j

-- ---- what it leaves

-- the limits, the standing sheet, the links and the shelf are as they were
pub record Stands {K F : Type 0} {g : Ghosts K F} (before after : Job K F g) : Type 0 where
  pub limit_places : place_limit after ≡ place_limit before
  pub limit_slots : slot_limit after ≡ slot_limit before
  pub counted_places : place_count after ≡ place_count before
  pub counted_slots : slot_count after ≡ slot_count before
  pub places : after.places.now ≡ before.places.now
  pub slots : after.slots.now ≡ before.slots.now
  pub links : after.links.now ≡ before.links.now
  pub shelf_places : after.shelf_places.now ≡ before.shelf_places.now
  pub shelf_slots : after.shelf_slots.now ≡ before.shelf_slots.now

-- nothing has changed
pub record Unchanged {K F : Type 0} {g : Ghosts K F} (before after : Job K F g) : Type 0 where
  pub stands : Stands before after
  pub work_places : after.work_places.now ≡ before.work_places.now
  pub work_slots : after.work_slots.now ≡ before.work_slots.now

module _ {K F : Type 0} {below : K → K → Type 0} {top : K} {form : K → F} {kind : F → Option K} (laws : KindLaws below top form kind) where
  -- the sheet that the add of a sheet at a path stands for
  abbrev pub ask_of : {g : Ghosts K F} → List ℕ → view.Sheet K F g → records.Sheet K
  ask_of path sheet = chained top path (sheet_of laws (shown_places sheet) (shown_slots sheet))

  -- no sheet, of any size, satisfies both
  abbrev pub NoSheet : records.Sheet K → records.Sheet K → Type 0
  NoSheet s t = (u : records.Sheet K) → Formed u → Satisfies laws u s → Satisfies laws u t → ⊥

  -- The merge of the standing sheet and the ask stands, each kind in its own form, and its counts are the answer. The records past
  -- it are blank as far as the old sheet went, and so are the work records that were used; all else is as it was.
  pub record Accepted {g : Ghosts K F} (before : Job K F g) (path : List ℕ) (sheet : view.Sheet K F g) (counts : Counts) (after : Job K F g) : Type 0 where
    pub limit_places : place_limit after ≡ place_limit before
    pub limit_slots : slot_limit after ≡ slot_limit before
    pub counted_places : place_count after ≡ counts.places
    pub counted_slots : slot_count after ≡ counts.slots
    pub merge : IsMerge laws (standing_sheet laws before) (ask_of path sheet) (standing_sheet laws after)
    pub own : OwnForms laws (take counts.places after.places.now)
    pub places : Replaced (blank_place laws) (place_count before) counts.places before.places.now after.places.now
    pub slots : Replaced blank_slot (slot_count before) counts.slots before.slots.now after.slots.now
    pub work_places : Worked (blank_place laws) (all_places before path sheet) before.work_places.now after.work_places.now
    pub work_slots : Worked blank_slot (all_slots before path sheet) before.work_slots.now after.work_slots.now
    pub links : after.links.now ≡ before.links.now
    pub shelf_places : after.shelf_places.now ≡ before.shelf_places.now
    pub shelf_slots : after.shelf_slots.now ≡ before.shelf_slots.now

  -- After a clash the standing sheet and all else is as it was, and the work records that were used are blank: as they were before,
  -- in a job whose work records were blank.
  pub record Clashed {g : Ghosts K F} (before : Job K F g) (path : List ℕ) (sheet : view.Sheet K F g) (after : Job K F g) : Type 0 where
    pub stands : Stands before after
    pub work_places : Worked (blank_place laws) (all_places before path sheet) before.work_places.now after.work_places.now
    pub work_slots : Worked blank_slot (all_slots before path sheet) before.work_slots.now after.work_slots.now

  -- after an add that was answered so
  abbrev pub Added : {g : Ghosts K F} → Job K F g → List ℕ → view.Sheet K F g → Result Counts JobFault → Job K F g → Type 0
  Added before path sheet (Ok counts) after = Accepted before path sheet counts after
  Added before path sheet (Err NoRoom) after = Unchanged before after
  Added before path sheet (Err TooLarge) after = Unchanged before after
  Added before path sheet (Err Clash) after = Clashed before path sheet after
  Added before path sheet (Err (Sheet fault)) after = Unchanged before after
