-- Each fault of sheets has a number of a layer, shown. (A proof, and nothing that a reader has to believe: it stands here because the
-- trait of faults takes it as a ghost member.)
use Rattle.std.proofs.Common.{inl, inr, arith}
use Rattle.faults.specs.Layers.{InSomeLayer}
use Rattle.sheets.specs.declared.fault.SheetFault.{SheetFault}
use Rattle.sheets.specs.declared.fault.SheetFault.TheVariants.{NoPlace, TooMany, LongPath, WrongCounts, WrongNames, OtherNumbering}
use Rattle.sheets.specs.Faults.{number_of}

pub fault_layered : (fault : SheetFault) → InSomeLayer (number_of fault)
fault_layered NoPlace = inr (inl (inr (omega arith, omega arith)))
fault_layered TooMany = inr (inl (inl (omega arith, omega arith)))
fault_layered LongPath = inr (inl (inl (omega arith, omega arith)))
fault_layered WrongCounts = inr (inl (inr (omega arith, omega arith)))
fault_layered WrongNames = inr (inl (inr (omega arith, omega arith)))
fault_layered OtherNumbering = inr (inl (inr (omega arith, omega arith)))
