-- What an add leaves, put together from its checks and from what the merge leaves.
use Rattle.std.proofs.Common.{◌≡◌, ℕ, ◌<◌, List, take, Option, subst}
use mathlib.Core.Logic.{∥∥₁_elim}
use native.Mathlib.Nat.{ℕ_set}
use Rattle.kinds.specs.Laws.{KindLaws}
use Rattle.kinds.specs.declared.kind.Kind.{Ghosts}
use Rattle.records.specs.declared.PlaceRecord.{PlaceRecord}
use Rattle.records.specs.declared.SlotRecord.{SlotRecord}
use Rattle.records.specs.declared.Counts.{Counts}
use Rattle.records.specs.Tables.{WellFormed}
use Rattle.records.specs.Sheets.{Formed, blank_place, sheet_of}
use Rattle.records.specs.Sheets as records
use Rattle.sheets.specs.declared.sheet.Sheet as view
use Rattle.sheets.specs.Shown.{shown_places, shown_slots}
use Rattle.sheets.proofs.Showing.{formed_prop}
use Rattle.unification.specs.Merge as merge
use Rattle.unification.proofs.Merging.{greatest, refused, not_both}
use Rattle.asks.specs.Asks.{chained}
use Rattle.asks.proofs.Adds.{add_formed}
use Rattle.merging.specs.Core.{Merges}
use Rattle.records.proofs.Reading.{formed_read}
use Rattle.jobs.specs.declared.job.Job.{Job}
use Rattle.jobs.specs.Contents.{OwnLinks}
use Rattle.jobs.specs.Jobs.{place_limit, place_count, slot_count, standing_sheet}
use Rattle.jobs.specs.Adding.{Ready, ask_of, NoSheet}

module _ {K F : Type 0} {g : Ghosts K F} (j : Job K F g) where
  -- the standing tables hold a sheet, and the links their own numbers
  pub standing_formed : 0 < place_limit j → WellFormed (take (place_count j) j.places.now) (take (slot_count j) j.slots.now)
  standing_formed some = ∥∥₁_elim (j.sound some) formed_prop (λ s. s.formed)

  pub standing_links : 0 < place_limit j → OwnLinks j.links.now (place_limit j)
  standing_links some k h = ∥∥₁_elim (j.sound some) (ℕ_set _ _) (λ s. s.own k h)

module _ {K F : Type 0} {below : K → K → Type 0} {top : K} {form : K → F} {kind : F → Option K} (laws : KindLaws below top form kind)
    {g : Ghosts K F} (j : Job K F g) (path : List ℕ) (sheet : view.Sheet K F g) where
  -- what the merge answers of the tables that a sheet shows, it answers of the ask
  pub asked_merge : {ps : List (PlaceRecord F)} {ss : List SlotRecord} (r : Option Counts) (qs : List (PlaceRecord F)) (ts : List SlotRecord) → ps ≡ shown_places sheet → ss ≡ shown_slots sheet
      → Merges laws (standing_sheet laws j) (chained top path (sheet_of laws ps ss)) r qs ts → Merges laws (standing_sheet laws j) (ask_of laws path sheet) r qs ts
  asked_merge r qs ts at_places at_slots m =
      subst (λ (t : records.Sheet K). Merges laws (standing_sheet laws j) t r qs ts) (λ i. chained top path (sheet_of laws (at_places i) (at_slots i))) m

  module _ (ready : Ready j path sheet) where
    standing : Formed (standing_sheet laws j)
    standing = formed_read laws (record { places = take (place_count j) j.places.now; slots = take (slot_count j) j.slots.now }) (standing_formed j ready.some)

    asked : Formed (ask_of laws path sheet)
    asked = add_formed top path (sheet_of laws (shown_places sheet) (shown_slots sheet)) (formed_read laws (record { places = shown_places sheet; slots = shown_slots sheet }) ready.shows.formed)

    pub no_clash : (m : records.Sheet K) → merge.IsMerge laws (standing_sheet laws j) (ask_of laws path sheet) m → merge.Clash laws (standing_sheet laws j) (ask_of laws path sheet) → ⊥
    no_clash m is c = not_both laws (standing_sheet laws j) (ask_of laws path sheet) m standing asked is c

    pub some_sheet : (m : records.Sheet K) → merge.IsMerge laws (standing_sheet laws j) (ask_of laws path sheet) m → NoSheet laws (standing_sheet laws j) (ask_of laws path sheet) → ⊥
    some_sheet m is none =
        let g = greatest laws (standing_sheet laws j) (ask_of laws path sheet) m standing asked is in
        none m is.formed g.0 g.1

    pub no_sheet : merge.Clash laws (standing_sheet laws j) (ask_of laws path sheet) → NoSheet laws (standing_sheet laws j) (ask_of laws path sheet)
    no_sheet c u = refused laws (standing_sheet laws j) (ask_of laws path sheet) u standing asked c
