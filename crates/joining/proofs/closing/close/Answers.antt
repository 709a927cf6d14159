use Rattle.std.proofs.Common.{refl, ◌∙◌}
use Rattle.records.specs.Tables.{Edge}
use Rattle.joining.proofs.Growth.{grows_none, grows_then, closed_least}
use Rattle.joining.proofs.closing.close.Goals as goal

pub loop-ring-init : goal.loop-ring-init
loop-ring-init g c = (refl, grows_none (Edge c.args.sides.now.tables.places.now c.args.sides.now.tables.slots.now) c.args.links.now c.requires.forest)

pub loop-ring-preserved : goal.loop-ring-preserved
loop-ring-preserved g c = (c.pass.auto.ring ∙ c.loop-ring.invariant.0, grows_then (Edge c.args.sides.now.tables.places.now c.args.sides.now.tables.slots.now) c.loop-ring.invariant.1 c.pass.ensures.grows)

pub returns-clause-least : goal.returns-clause-least
returns-clause-least g c =
    let edges = Edge c.args.sides.now.tables.places.now c.args.sides.now.tables.slots.now in
    closed_least edges c.args.links.now c.pass.new.links (grows_then edges c.loop-ring.invariant.1 c.pass.ensures.grows) (c.pass.ensures.closed c.loop-ring-test.false)
