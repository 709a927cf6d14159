-- What the tables of every open job hold between calls, at any type of kind.
use Rattle.std.specs.Prelude.{ℕ, List, take}
use Rattle.records.specs.declared.PlaceRecord.{PlaceRecord}
use Rattle.records.specs.declared.SlotRecord.{SlotRecord}
use Rattle.records.specs.Tables.{WellFormed}
use Rattle.jobs.specs.declared.job.State.{State}
use Rattle.jobs.specs.Contents.{OwnLinks}

-- the first records of the standing tables are a sheet, and each link holds its own number
pub record Sound {F : Type 0} (s : State) (places : List (PlaceRecord F)) (slots : List SlotRecord) (links : List ℕ) : Type 0 where
  pub formed : WellFormed (take s.standing.places places) (take s.standing.slots slots)
  pub own : OwnLinks links s.limits.places
