-- The faults of a line: the number and the byte of each.
use Rattle.std.specs.Prelude.{ℕ, Some, Option}
use Rattle.tokens.specs.Faults.{text_number, text_byte}
use Rattle.reading.specs.declared.fault.Rule.{Rule}
use Rattle.reading.specs.declared.fault.Rule.TheVariants as rule
use Rattle.reading.specs.declared.fault.ReadFault.{ReadFault}
use Rattle.reading.specs.declared.fault.ReadFault.TheVariants.{Text, Broken}

-- the number of a rule that a line breaks
abbrev pub rule_number : Rule → ℕ
rule_number rule.NotAllowed = 20
rule_number rule.NoKind = 21
rule_number rule.LowAboveHigh = 22
rule_number rule.LongName = 23
rule_number rule.NameTwice = 24
rule_number rule.TagTwice = 25
rule_number rule.TagNever = 26
rule_number rule.TagNumber = 27
rule_number rule.TooMany = 28
rule_number rule.LongPath = 29

-- the number of a fault
abbrev pub number_of : ReadFault → ℕ
number_of (Text fault) = text_number fault
number_of (Broken rule b) = rule_number rule

-- the byte of the line where a fault shows
abbrev pub byte_of : ReadFault → Option ℕ
byte_of (Text fault) = Some (text_byte fault)
byte_of (Broken rule b) = Some b
