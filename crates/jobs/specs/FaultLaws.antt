-- Each fault of a job has a number of a layer, shown. (A proof, and nothing that a reader has to believe: it stands here because the
-- trait of faults takes it as a ghost member.)
use Rattle.std.proofs.Common.{inr, arith}
use Rattle.faults.specs.Layers.{InSomeLayer}
use Rattle.sheets.specs.FaultLaws as sheet
use Rattle.jobs.specs.declared.fault.JobFault.{JobFault}
use Rattle.jobs.specs.declared.fault.JobFault.TheVariants.{NoRoom, TooLarge, Clash, Sheet}
use Rattle.jobs.specs.Faults.{fault_number}

pub fault_layered : (fault : JobFault) → InSomeLayer (fault_number fault)
fault_layered NoRoom = inr (inr (omega arith, omega arith))
fault_layered TooLarge = inr (inr (omega arith, omega arith))
fault_layered Clash = inr (inr (omega arith, omega arith))
fault_layered (Sheet fault) = sheet.fault_layered fault
