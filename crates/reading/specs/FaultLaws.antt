-- Each fault of a line has a number of a layer, shown. (A proof, and nothing that a reader has to believe: it stands here because the
-- trait of faults takes it as a ghost member.)
use Rattle.std.proofs.Common.{inl, inr, arith}
use Rattle.faults.specs.Layers.{InSomeLayer}
use Rattle.tokens.specs.FaultLaws.{text_layered}
use Rattle.reading.specs.declared.fault.Rule.{Rule}
use Rattle.reading.specs.declared.fault.Rule.TheVariants as rule
use Rattle.reading.specs.declared.fault.ReadFault.{ReadFault}
use Rattle.reading.specs.declared.fault.ReadFault.TheVariants.{Text, Broken}
use Rattle.reading.specs.Faults.{rule_number, number_of}

rule_layered : (rule : Rule) → InSomeLayer (rule_number rule)
rule_layered rule.NotAllowed = inr (inl (inl (omega arith, omega arith)))
rule_layered rule.NoKind = inr (inl (inl (omega arith, omega arith)))
rule_layered rule.LowAboveHigh = inr (inl (inl (omega arith, omega arith)))
rule_layered rule.LongName = inr (inl (inl (omega arith, omega arith)))
rule_layered rule.NameTwice = inr (inl (inl (omega arith, omega arith)))
rule_layered rule.TagTwice = inr (inl (inl (omega arith, omega arith)))
rule_layered rule.TagNever = inr (inl (inl (omega arith, omega arith)))
rule_layered rule.TagNumber = inr (inl (inl (omega arith, omega arith)))
rule_layered rule.TooMany = inr (inl (inl (omega arith, omega arith)))
rule_layered rule.LongPath = inr (inl (inl (omega arith, omega arith)))

pub fault_layered : (fault : ReadFault) → InSomeLayer (number_of fault)
fault_layered (Text fault) = text_layered fault
fault_layered (Broken rule b) = rule_layered rule
