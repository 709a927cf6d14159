-- The faults of sheets: the number of each.
use Rattle.std.specs.Prelude.{ℕ}
use Rattle.sheets.specs.declared.fault.SheetFault.{SheetFault}
use Rattle.sheets.specs.declared.fault.SheetFault.TheVariants.{NoPlace, TooMany, LongPath, WrongCounts, WrongNames, OtherNumbering}

-- the number of a fault
abbrev pub number_of : SheetFault → ℕ
number_of NoPlace = 51
number_of TooMany = 28
number_of LongPath = 29
number_of WrongCounts = 52
number_of WrongNames = 53
number_of OtherNumbering = 54
