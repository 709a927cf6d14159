-- Two sheets laid side by side in the work tables.
use Rattle.std.specs.Prelude.{◌≡◌, ℕ, ◌+◌, List, [], length, take, drop}
use Rattle.records.specs.declared.PlaceRecord.{PlaceRecord}
use Rattle.records.specs.declared.SlotRecord.{SlotRecord}
use Rattle.records.specs.Sheets.{Sheet, size, width}
use Rattle.records.specs.Beside.{Beside}
use Rattle.asks.specs.Asks.{chained}

module _ {F : Type 0} where
  -- two tables of records, as a sheet of stored forms
  abbrev pub tables : List (PlaceRecord F) → List SlotRecord → Sheet F
  tables ps ss = record { places = ps; slots = ss }

  -- the chain of a path with nothing at its end: the last slot leads to the place that comes next
  abbrev pub chain : F → List ℕ → Sheet F
  chain any path = chained any path (tables [] [])

  -- the first n places and m slots of the new tables are s and t side by side, and past these they hold what the old ones held
  pub record Laid (s t : Sheet F) (n m : ℕ) (old new : Sheet F) : Type 0 where
    pub beside : Beside s t (tables (take n new.places) (take m new.slots))
    pub places_past : drop n new.places ≡ drop n old.places
    pub slots_past : drop m new.slots ≡ drop m old.slots
    pub places_length : length new.places ≡ length old.places
    pub slots_length : length new.slots ≡ length old.slots

  -- s and the add of t at a path are laid side by side
  abbrev pub AddLaid : F → Sheet F → List ℕ → Sheet F → Sheet F → Sheet F → Type 0
  AddLaid any s path t old new = Laid s (chained any path t) (size s + length path + size t) (width s + length path + width t) old new
