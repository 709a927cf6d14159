use Rattle.std.proofs.Common.{◌≡◌, length}
use Rattle.renumbering.specs.Drafts.{Marks}
use Rattle.renumbering.proofs.drafts.mark.Given as goal

abbrev pub invariant-loop-slot : goal.invariant-loop-slot
invariant-loop-slot l = (length l.marks ≡ length l.initial.marks) × Marks l.slots l.slot-index l.initial.marks l.marks
