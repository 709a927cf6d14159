-- How a kind and a reply are printed. What the program prints of a kind is written out here in its own words, and that it is what the
-- kind's type prints is proved.
use Rattle.std.specs.Prelude.{ℕ, List, ◌++◌, Ok, Err, codes, decimal, Result}
use Rattle.std.specs.Fmt.{signed_decimal}
use Rattle.kinds.specs.declared.catalogue.Catalogue.{Catalogue}
use Rattle.kinds.specs.Catalogue.{word}
use Rattle.ranges.specs.declared.range.Range.{Range}
use Rattle.ranges.specs.declared.range.RangeForm.{RangeForm}
use Rattle.ranges.specs.Ranges.{form_of}
use Rattle.either_kind.specs.declared.either.Either.{Either}
use Rattle.either_kind.specs.declared.either.Either.TheVariants.{Any, First, Second}
use Rattle.records.specs.declared.Counts.{Counts}
use Rattle.jobs.specs.declared.fault.JobFault.{JobFault}
use Rattle.jobs.specs.Faults.{fault_number}

-- A range as [LOW..HIGH].
abbrev pub ends_text : RangeForm → List ℕ
ends_text ends = codes "[" ++ (signed_decimal ends.low ++ (codes ".." ++ (signed_decimal ends.high ++ codes "]")))

-- A kind as sheets spell it.
abbrev pub kind_text : Either Catalogue Range → List ℕ
kind_text Any = codes "any"
kind_text (First k) = word k
kind_text (Second r) = ends_text (form_of r)

-- The counts of an accepted step, or the number of a refusal.
abbrev pub reply_text : Result Counts JobFault → List ℕ
reply_text (Ok c) = codes "ok " ++ (decimal c.places ++ (codes " " ++ decimal c.slots))
reply_text (Err f) = codes "no " ++ decimal (fault_number f)
