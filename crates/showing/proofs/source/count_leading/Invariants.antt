use Rattle.std.proofs.Common.{◌≡◌, ℕ, ◌<◌, length, get_or, take}
use Rattle.showing.specs.Tags.{led}
use Rattle.showing.proofs.source.count_leading.Given as goal

abbrev pub invariant-loop-slot : goal.invariant-loop-slot
invariant-loop-slot l = (length l.leading ≡ 1000) × ((p : ℕ) → p < 1000 → get_or l.leading p 0 ≡ led (take l.slot-index l.slots) p)
