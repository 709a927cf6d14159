-- Each fault of text has a number of a layer, shown. (A proof, and nothing that a reader has to believe: it stands here because the
-- trait of faults takes it as a ghost member.)
use Rattle.std.proofs.Common.{inl, arith}
use Rattle.faults.specs.Layers.{InSomeLayer}
use Rattle.tokens.specs.declared.fault.TextFault.{TextFault}
use Rattle.tokens.specs.declared.fault.TextFault.TheVariants.{LongLine, NoToken, LongWord, WrongNumber}
use Rattle.tokens.specs.Faults.{text_number}

pub text_layered : (fault : TextFault) → InSomeLayer (text_number fault)
text_layered LongLine = inl (omega arith, omega arith)
text_layered (NoToken b) = inl (omega arith, omega arith)
text_layered (LongWord b) = inl (omega arith, omega arith)
text_layered (WrongNumber b) = inl (omega arith, omega arith)
