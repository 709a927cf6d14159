use Rattle.std.proofs.Common.{ℕ, ◌↔◌, sym, subst}
use Rattle.records.specs.Tables.{Edge}
use Rattle.joining.specs.Forest.{Same}
use Rattle.joining.specs.Closure.{Closure, Pair}
use Rattle.joining.proofs.Beside.{beside_ordered, joined_ends}
use Rattle.joining.proofs.roots.join_roots.Goals as goal

pub invariant_of-unify : goal.invariant_of-unify
invariant_of-unify g c =
    let two = c.requires.two in
    record { ordered = beside_ordered two.s two.t (record { places = c.args.tables.places.now; slots = c.args.tables.slots.now }) two.formed_s two.formed_t two.beside }

pub returns-clause-joined : goal.returns-clause-joined
returns-clause-joined g c two =
    joined_ends two.s two.t (record { places = c.args.tables.places.now; slots = c.args.tables.slots.now }) two.formed_s two.formed_t two.beside c.unify.new.links
    (subst (λ (k : ℕ). (x y : ℕ) → Same c.unify.new.links x y ↔ Closure (Edge c.args.tables.places.now c.args.tables.slots.now) (Pair 0 k) x y) (sym two.from) c.unify.ensures.least)
