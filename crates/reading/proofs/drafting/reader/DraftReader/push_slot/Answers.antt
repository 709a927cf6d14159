use Rattle.std.proofs.Common.{refl, arith}
use Rattle.reading.proofs.Holding.{held_slot}
use Rattle.reading.proofs.drafting.reader.DraftReader.push_slot.Goals as goal

pub invariant_of-self : goal.invariant_of-self
invariant_of-self g c = record { held = held_slot _ _ _ _ _ c.args.self.now.look _ _ c.args.self.now.held (omega arith) refl c.add.ensures.tags c.add.ensures.newest c.add.ensures.earlier }
