use Rattle.std.proofs.Common.{refl, arith}
use Rattle.reading.specs.Readers.{read}
use Rattle.reading.proofs.Tables.{tag_set}
use Rattle.reading.proofs.Holding.{held_target}
use Rattle.reading.proofs.drafting.reader.DraftReader.refer_to.Goals as goal

pub invariant_of-self-2 : goal.invariant_of-self-2
invariant_of-self-2 g c = record { held = held_target _ _ _ _ _ _ _ c.args.self.now.held (λ z. omega arith) refl }

pub returns-clause-is : goal.returns-clause-is
returns-clause-is g c = tag_set c.args.self.now.slots.now c.args.self.now.cur.slots (read c.args.self.now) c.args.tag (λ z. omega arith) c.args.self.now.held.slots_fit refl
