use Rattle.records.specs.Tables.{Edge}
use Rattle.joining.proofs.Growth.{pair_closure}
use Rattle.joining.proofs.closing.unify.Goals as goal

pub returns-clause-least : goal.returns-clause-least
returns-clause-least g c =
    pair_closure (Edge c.args.sides.now.tables.places.now c.args.sides.now.tables.slots.now) c.args.links.now c.join.new.links c.close.new.links
    c.args.a c.args.b c.requires.own c.join.ensures.merges c.close.ensures.least
