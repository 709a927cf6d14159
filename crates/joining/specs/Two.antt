-- Tables that hold two sheets side by side.
use Rattle.std.specs.Prelude.{◌≡◌, ℕ, ◌↔◌, List}
use Rattle.records.specs.declared.PlaceRecord.{PlaceRecord}
use Rattle.records.specs.declared.SlotRecord.{SlotRecord}
use Rattle.records.specs.Sheets.{Sheet, size, Formed}
use Rattle.records.specs.Beside.{Beside, Joined}
use Rattle.joining.specs.Forest.{Same}

-- ps and ss hold two well formed sheets side by side, the second from the place `second` on
pub record Two {F : Type 0} (ps : List (PlaceRecord F)) (ss : List SlotRecord) (second : ℕ) : Type 0 where
  pub s : Sheet F
  pub t : Sheet F
  pub formed_s : Formed s
  pub formed_t : Formed t
  pub beside : Beside s t (record { places = ps; slots = ss })
  pub from : size s ≡ second

-- two places have one end exactly where the two sheets have them joined
abbrev pub EndsJoined : {F : Type 0} → Sheet F → Sheet F → List ℕ → Type 0
EndsJoined s t links = (x y : ℕ) → Same links x y ↔ Joined s t x y
