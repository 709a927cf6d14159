use Rattle.reading.specs.Lookups.{up_to}
use Rattle.reading.proofs.Listing.{Sought}
use Rattle.reading.proofs.drafting.lookup.Lookup.has_name.Given as goal

abbrev pub invariant-loop-slot : goal.invariant-loop-slot
invariant-loop-slot l = Sought l.slots l.owner l.name l.slot

abbrev pub decreases-loop-slot : goal.decreases-loop-slot
decreases-loop-slot l = up_to l.slot
