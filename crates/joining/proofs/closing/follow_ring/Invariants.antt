use Rattle.std.proofs.Common.{◌≡◌, ℕ, ◌+◌, ◌<◌, ◌≤◌, false}
use Rattle.records.specs.Tables.{Edge}
use Rattle.joining.specs.Forest.{Same, Tells}
use Rattle.joining.specs.Closure.{Agree, Grows}
use Rattle.joining.specs.Rings.{Whole}
use Rattle.joining.proofs.closing.follow_ring.Given as goal

abbrev pub invariant-loop-y : goal.invariant-loop-y
invariant-loop-y g l =
    Grows (Edge l.sides.tables.places.now l.sides.tables.slots.now) l.initial.links l.links × Tells l.changed l.initial.links l.links
    × (l.y ≤ l.x) × Same l.initial.links l.x l.y
    × (l.changed ≡ false → Whole l.initial.links l.ring (l.x + 1)
    → (z : ℕ) → l.y ≤ z → z < l.x → Same l.initial.links l.x z → Agree (Edge l.sides.tables.places.now l.sides.tables.slots.now) l.links l.x z)

abbrev pub decreases-loop-y : goal.decreases-loop-y
decreases-loop-y g l = l.y
