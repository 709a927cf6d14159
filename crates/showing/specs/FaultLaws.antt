-- Each fault of show has a number of a layer, shown. (A proof, and nothing that a reader has to believe: it stands here because the
-- trait of faults takes it as a ghost member.)
use Rattle.std.proofs.Common.{inl, inr, arith}
use Rattle.faults.specs.Layers.{InSomeLayer}
use Rattle.showing.specs.declared.fault.ShowFault.{ShowFault}
use Rattle.showing.specs.declared.fault.ShowFault.TheVariants.{NoPlace, TooManyTags, TooDeep, TooLong}
use Rattle.showing.specs.Faults.{number_of}

pub fault_layered : (fault : ShowFault) → InSomeLayer (number_of fault)
fault_layered NoPlace = inr (inl (inr (omega arith, omega arith)))
fault_layered TooManyTags = inr (inr (omega arith, omega arith))
fault_layered TooDeep = inr (inr (omega arith, omega arith))
fault_layered TooLong = inr (inr (omega arith, omega arith))
