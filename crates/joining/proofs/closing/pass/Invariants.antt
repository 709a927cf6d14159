use Rattle.std.proofs.Common.{◌≡◌, ℕ, ◌<◌, false}
use Rattle.records.specs.Tables.{Edge}
use Rattle.joining.specs.Forest.{Tells}
use Rattle.joining.specs.Closure.{Agree, Grows}
use Rattle.joining.specs.Rings.{Rings, Whole}
use Rattle.joining.proofs.closing.pass.Given as goal

abbrev pub invariant-loop-x : goal.invariant-loop-x
invariant-loop-x g l =
    Grows (Edge l.sides.tables.places.now l.sides.tables.slots.now) l.initial.links l.links × Tells l.changed l.initial.links l.links × Rings l.links l.ring l.x
    × (l.changed ≡ false → Whole l.links l.ring l.x)
    × (l.changed ≡ false → (k : ℕ) → k < l.x → (i : ℕ) → i < k → Agree (Edge l.sides.tables.places.now l.sides.tables.slots.now) l.links k i)
