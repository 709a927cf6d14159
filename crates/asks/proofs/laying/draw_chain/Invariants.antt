use Rattle.std.proofs.Common.{◌≡◌, map}
use lib.Seq.{paste}
use Rattle.asks.specs.Asks.{moved_place, moved_slot}
use Rattle.asks.specs.Laying.{chain}
use Rattle.asks.proofs.laying.draw_chain.Given as goal

abbrev pub invariant-loop-i : goal.invariant-loop-i
invariant-loop-i g l =
    (l.places ≡ paste l.initial.places 0 (map (moved_place l.behind.slots) (chain l.any l.path).places) l.i)
    × (l.slots ≡ paste l.initial.slots 0 (map (moved_slot l.behind.places) (chain l.any l.path).slots) l.i)
