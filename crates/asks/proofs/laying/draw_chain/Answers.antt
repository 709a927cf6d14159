use Rattle.std.proofs.Common.{map, length, arith}
use lib.ListN.{length-map}
use Rattle.asks.specs.Asks.{moved_place, moved_slot}
use Rattle.asks.specs.Laying.{chain}
use Rattle.asks.proofs.Pasting.{front_put, front_all}
use Rattle.asks.proofs.Drawing.{chain_sized, place_drawn, slot_drawn}
use Rattle.asks.proofs.laying.draw_chain.Goals as goal

pub loop-i-preserved : goal.loop-i-preserved
loop-i-preserved g c =
    let any = c.args.any in
    let path = c.args.path.now in
    let i = c.loop-i.i in
    let drawn = chain any path in
    let sized = chain_sized any path in (
      front_put _ _ (map (moved_place c.args.behind.slots) drawn.places) i _ c.loop-i.invariant.0 (place_drawn any path c.args.behind.slots i _ c.loop-i-test.true) (omega arith)
          (omega (arith, sized.0, length-map drawn.places (moved_place c.args.behind.slots))),
      front_put _ _ (map (moved_slot c.args.behind.places) drawn.slots) i _ c.loop-i.invariant.1 (slot_drawn any path c.args.behind.places i _ c.loop-i-test.true) (omega arith)
          (omega (arith, sized.1, length-map drawn.slots (moved_slot c.args.behind.places))),
    )

pub returns : goal.returns
returns g c =
    let sized = chain_sized c.args.any c.args.path.now in
    let drawn = chain c.args.any c.args.path.now in
    record {
      places = front_all _ _ (map (moved_place c.args.behind.slots) drawn.places) c.loop-i.i (length c.args.path.now) c.loop-i.invariant.0 (omega arith) (omega (arith, sized.0, length-map drawn.places (moved_place c.args.behind.slots)));
      slots = front_all _ _ (map (moved_slot c.args.behind.places) drawn.slots) c.loop-i.i (length c.args.path.now) c.loop-i.invariant.1 (omega arith) (omega (arith, sized.1, length-map drawn.slots (moved_slot c.args.behind.places)));
    }
