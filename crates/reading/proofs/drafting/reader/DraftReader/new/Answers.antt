use Rattle.reading.proofs.Holding.{held_none}
use Rattle.reading.proofs.drafting.reader.DraftReader.new.Goals as goal

pub invariant_of-result : goal.invariant_of-result
invariant_of-result g c = record { held = held_none _ _ _ c.requires.few.0 c.requires.few.1 c.new.ensures }
