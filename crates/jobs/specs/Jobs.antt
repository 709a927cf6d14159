-- A job's numbers, its standing sheet, what its tables hold between calls, and what open leaves in them.
use Rattle.std.specs.Prelude.{◌≡◌, ℕ, ◌<◌, min, length, take, Option}
use Rattle.kinds.specs.Laws.{KindLaws}
use Rattle.kinds.specs.declared.kind.Kind.{Ghosts}
use Rattle.records.specs.Tables.{blank_slot}
use Rattle.records.specs.Sheets.{Sheet, blank_place, sheet_of}
use Rattle.jobs.specs.declared.job.Job.{Job}
use Rattle.jobs.specs.Contents.{numbered, blanked, Blank, OwnLinks}

-- ---- numbers

-- P: the least of 1,000 and the lengths of the standing places, the work places and the links
abbrev pub place_room : {K F : Type 0} {g : Ghosts K F} → Job K F g → ℕ
place_room j = min 1000 (min (length j.places.now) (min (length j.work_places.now) (length j.links.now)))

-- Q: the least of 4,000 and the lengths of the standing slots and the work slots
abbrev pub slot_room : {K F : Type 0} {g : Ghosts K F} → Job K F g → ℕ
slot_room j = min 4000 (min (length j.slots.now) (length j.work_slots.now))

-- how many records of the shelf count
abbrev pub shelf_place_room : {K F : Type 0} {g : Ghosts K F} → Job K F g → ℕ
shelf_place_room j = min 8000 (length j.shelf_places.now)

abbrev pub shelf_slot_room : {K F : Type 0} {g : Ghosts K F} → Job K F g → ℕ
shelf_slot_room j = min 32000 (length j.shelf_slots.now)

-- P and Q of a job that was opened, as it keeps them; P is 0 of one that was not
abbrev pub place_limit : {K F : Type 0} {g : Ghosts K F} → Job K F g → ℕ
place_limit j = j.state.limits.places

abbrev pub slot_limit : {K F : Type 0} {g : Ghosts K F} → Job K F g → ℕ
slot_limit j = j.state.limits.slots

-- how many places and slots the standing sheet has
abbrev pub place_count : {K F : Type 0} {g : Ghosts K F} → Job K F g → ℕ
place_count j = j.state.standing.places

abbrev pub slot_count : {K F : Type 0} {g : Ghosts K F} → Job K F g → ℕ
slot_count j = j.state.standing.slots

-- ---- the same tables

-- the seven references are the same seven loans
pub record SameLoans {K F : Type 0} {g : Ghosts K F} (a b : Job K F g) : Type 0 where
  pub places : a.places.ghost_name ≡ b.places.ghost_name
  pub slots : a.slots.ghost_name ≡ b.slots.ghost_name
  pub work_places : a.work_places.ghost_name ≡ b.work_places.ghost_name
  pub work_slots : a.work_slots.ghost_name ≡ b.work_slots.ghost_name
  pub links : a.links.ghost_name ≡ b.links.ghost_name
  pub shelf_places : a.shelf_places.ghost_name ≡ b.shelf_places.ghost_name
  pub shelf_slots : a.shelf_slots.ghost_name ≡ b.shelf_slots.ghost_name

-- each table is as long in the one as in the other
pub record SameLengths {K F : Type 0} {g : Ghosts K F} (a b : Job K F g) : Type 0 where
  pub places : length a.places.now ≡ length b.places.now
  pub slots : length a.slots.now ≡ length b.slots.now
  pub work_places : length a.work_places.now ≡ length b.work_places.now
  pub work_slots : length a.work_slots.now ≡ length b.work_slots.now
  pub links : length a.links.now ≡ length b.links.now
  pub shelf_places : length a.shelf_places.now ≡ length b.shelf_places.now
  pub shelf_slots : length a.shelf_slots.now ≡ length b.shelf_slots.now

module _ {K F : Type 0} {below : K → K → Type 0} {top : K} {form : K → F} {kind : F → Option K} (laws : KindLaws below top form kind) where
  -- the sheet that stands
  abbrev pub standing_sheet : {g : Ghosts K F} → Job K F g → Sheet K
  standing_sheet j = sheet_of laws (take (place_count j) j.places.now) (take (slot_count j) j.slots.now)

  -- ---- between calls

  -- the records past the standing sheet, the work records and the shelf are blank, and each link holds its own number
  pub record Tidied {g : Ghosts K F} (j : Job K F g) : Type 0 where
    pub places : Blank (blank_place laws) j.places.now (place_count j) (place_limit j)
    pub slots : Blank blank_slot j.slots.now (slot_count j) (slot_limit j)
    pub work_places : Blank (blank_place laws) j.work_places.now 0 (place_limit j)
    pub work_slots : Blank blank_slot j.work_slots.now 0 (slot_limit j)
    pub links : OwnLinks j.links.now (place_limit j)
    pub shelf_places : Blank (blank_place laws) j.shelf_places.now 0 (shelf_place_room j)
    pub shelf_slots : Blank blank_slot j.shelf_slots.now 0 (shelf_slot_room j)

  -- the same of a job with room for a place; nothing is said of the tables of another
  abbrev pub Tidy : {g : Ghosts K F} → Job K F g → Type 0
  Tidy j = 0 < place_limit j → Tidied j

  -- ---- open

  -- what open leaves in the seven tables: up to the limits blank records, and links that hold their own numbers; past them what
  -- each held; and in a job with no room for a place all that each held
  pub record Opened {g : Ghosts K F} (before after : Job K F g) : Type 0 where
    pub places : after.places.now ≡ blanked (place_room before) (place_room before) (blank_place laws) before.places.now
    pub slots : after.slots.now ≡ blanked (place_room before) (slot_room before) blank_slot before.slots.now
    pub work_places : after.work_places.now ≡ blanked (place_room before) (place_room before) (blank_place laws) before.work_places.now
    pub work_slots : after.work_slots.now ≡ blanked (place_room before) (slot_room before) blank_slot before.work_slots.now
    pub links : after.links.now ≡ numbered (place_room before) before.links.now
    pub shelf_places : after.shelf_places.now ≡ blanked (place_room before) (shelf_place_room before) (blank_place laws) before.shelf_places.now
    pub shelf_slots : after.shelf_slots.now ≡ blanked (place_room before) (shelf_slot_room before) blank_slot before.shelf_slots.now
