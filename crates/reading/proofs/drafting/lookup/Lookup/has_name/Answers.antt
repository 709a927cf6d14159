use Rattle.std.proofs.Common.{sym, subst}
use Rattle.reading.proofs.Listing.{Sought, sought_start, sought_next, sought_found}
use Rattle.reading.proofs.drafting.lookup.Lookup.has_name.Goals as goal

pub loop-slot-init : goal.loop-slot-init
loop-slot-init c = sought_start _ _ _ c.args.self.now.newest c.args.self.now.earlier c.requires.lists c.requires.within.0

pub returns-then-slots-i : goal.returns-then-slots-i
returns-then-slots-i c = sym (sought_found _ _ _ _ (subst (Sought c.args.slots.now c.args.owner c.args.name) c.in-Some.is c.loop-slot.invariant) c.if-slots-i.true)

pub loop-slot-preserved : goal.loop-slot-preserved
loop-slot-preserved c = sought_next _ _ _ c.args.self.now.newest c.args.self.now.earlier _ c.requires.lists (subst (Sought c.args.slots.now c.args.owner c.args.name) c.in-Some.is c.loop-slot.invariant) c.if-slots-i.false
