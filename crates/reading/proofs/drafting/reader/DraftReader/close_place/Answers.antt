use Rattle.std.proofs.Common.{sym, arith}
use Rattle.reading.specs.Readers.{read}
use Rattle.reading.proofs.Tables.{closed_up}
use Rattle.reading.proofs.Holding.{held_up}
use Rattle.reading.proofs.drafting.reader.DraftReader.close_place.Goals as goal

pub invariant_of-self-2 : goal.invariant_of-self-2
invariant_of-self-2 g c = record { held = held_up _ _ _ _ _ _ _ c.args.self.now.held (sym c.parent.ensures) }

pub returns-clause-is : goal.returns-clause-is
returns-clause-is g c = closed_up (read c.args.self.now) _ (λ z. omega arith) (sym c.parent.ensures)
