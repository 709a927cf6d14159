-- The faults of text: the number and the byte of each.
use Rattle.std.specs.Prelude.{ℕ}
use Rattle.tokens.specs.declared.fault.TextFault.{TextFault}
use Rattle.tokens.specs.declared.fault.TextFault.TheVariants.{LongLine, NoToken, LongWord, WrongNumber}

-- the number of a fault
abbrev pub text_number : TextFault → ℕ
text_number LongLine = 10
text_number (NoToken b) = 11
text_number (LongWord b) = 12
text_number (WrongNumber b) = 13

-- the byte of the line where a fault shows, counted from 0
abbrev pub text_byte : TextFault → ℕ
text_byte LongLine = 0
text_byte (NoToken b) = b
text_byte (LongWord b) = b
text_byte (WrongNumber b) = b
