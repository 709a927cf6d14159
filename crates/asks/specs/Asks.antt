-- The sheet that an add stands for, over kinds or over their stored forms: all that is asked of them is the greatest, `top`.
use Rattle.std.specs.Prelude.{ℕ, ◌+◌, List, [], ◌∷◌, map}
use Rattle.records.specs.declared.PlaceRecord.{PlaceRecord}
use Rattle.records.specs.declared.SlotRecord.{SlotRecord}
use Rattle.records.specs.Sheets.{Sheet}

-- a place record behind n more slots
abbrev pub moved_place : {K : Type 0} → ℕ → PlaceRecord K → PlaceRecord K
moved_place n r = record { kind = r.kind; before = n + r.before; count = r.count }

-- a slot record behind n more places
abbrev pub moved_slot : ℕ → SlotRecord → SlotRecord
moved_slot n r = record { name = r.name; target = n + r.target }

module _ {K : Type 0} (top : K) where
  -- a root of the greatest kind, and a slot of the name f from it to the root of t
  abbrev pub under : ℕ → Sheet K → Sheet K
  under f t =
      record {
        places = record { kind = top; before = 0; count = 1 } ∷ map (moved_place 1) t.places;
        slots = record { name = f; target = 1 } ∷ map (moved_slot 1) t.slots;
      }

  -- the add of t at a path: a place of the greatest kind for each name, in a chain, and the last slot leads to the root of t
  abbrev pub chained : List ℕ → Sheet K → Sheet K
  chained [] t = t
  chained (f ∷ path) t = under f (chained path t)
