-- The number of each fault of a job.
use Rattle.std.specs.Prelude.{ℕ}
use Rattle.sheets.specs.Faults.{number_of}
use Rattle.jobs.specs.declared.fault.JobFault.{JobFault}
use Rattle.jobs.specs.declared.fault.JobFault.TheVariants.{NoRoom, TooLarge, Clash, Sheet}

abbrev pub fault_number : JobFault → ℕ
fault_number NoRoom = 30
fault_number TooLarge = 31
fault_number Clash = 32
fault_number (Sheet fault) = number_of fault
