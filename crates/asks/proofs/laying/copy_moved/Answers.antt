use Rattle.std.proofs.Common.{length, map, sym, ◌∙◌, arith}
use lib.ListN.{length-map}
use Rattle.asks.proofs.Pasting.{front_put, front_all, mapped_read}
use Rattle.asks.proofs.laying.copy_moved.Goals as goal

pub moved-requires : goal.moved-requires
moved-requires g c =
    let number = mapped_read g.T.Moved.number c.args.from.now c.loop-i.i c.index-from-i.result 0 c.loop-i-test.true c.index-from-i.is in
    omega (arith, number, c.requires.fits c.loop-i.i c.loop-i-test.true)

pub loop-i-preserved : goal.loop-i-preserved
loop-i-preserved g c =
    let from = c.args.from.now in
    let move = g.T.Moved.behind c.args.by in
    front_put _ _ (map move from) c.loop-i.i _ c.loop-i.invariant
    (c.moved.ensures ∙ mapped_read move from c.loop-i.i c.index-from-i.result _ c.loop-i-test.true c.index-from-i.is) (omega arith)
    (omega (arith, length-map from move))

pub returns : goal.returns
returns g c =
    let move = g.T.Moved.behind c.args.by in
    front_all _ _ (map move c.args.from.now) c.loop-i.i (length c.args.from.now) c.loop-i.invariant (omega arith) (sym (length-map c.args.from.now move))
