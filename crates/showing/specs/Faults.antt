-- The faults of show: the number of each.
use Rattle.std.specs.Prelude.{ℕ}
use Rattle.showing.specs.declared.fault.ShowFault.{ShowFault}
use Rattle.showing.specs.declared.fault.ShowFault.TheVariants.{NoPlace, TooManyTags, TooDeep, TooLong}

-- the number of a fault
abbrev pub number_of : ShowFault → ℕ
number_of NoPlace = 51
number_of TooManyTags = 37
number_of TooDeep = 38
number_of TooLong = 36
