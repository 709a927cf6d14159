use Rattle.std.proofs.Common.{ℕ, ◌+◌, ◌<◌, List, sym, refl, subst, arith, below_none}
use Rattle.std.proofs.lemmas.Bool.{or_parts}
use Rattle.records.specs.Tables.{Edge}
use Rattle.joining.specs.Closure.{Agree}
use Rattle.joining.specs.Rings.{Whole}
use Rattle.joining.proofs.Growth.{grows_none, grows_then, tells_then, still, quiet_more}
use Rattle.joining.proofs.Ringing.{rings_none, whole_none, rings_grow}
use Rattle.joining.proofs.Walks.{closed_all}
use Rattle.joining.proofs.closing.pass.Goals as goal

pub loop-x-init : goal.loop-x-init
loop-x-init g c = (
  grows_none (Edge c.args.sides.now.tables.places.now c.args.sides.now.tables.slots.now) c.args.links.now c.requires.forest,
  refl,
  rings_none c.args.links.now c.args.ring.now,
  λ _. whole_none c.args.links.now c.args.ring.now,
  λ _. below_none (λ (k : ℕ). (i : ℕ) → i < k → Agree (Edge c.args.sides.now.tables.places.now c.args.sides.now.tables.slots.now) c.args.links.now k i),
)

pub loop-x-preserved : goal.loop-x-preserved
loop-x-preserved g c =
    let inv = c.loop-x.invariant in
    let step = c.follow_ring-changed in (
      grows_then (Edge c.args.sides.now.tables.places.now c.args.sides.now.tables.slots.now) inv.0 step.ensures.grows,
      tells_then c.loop-x.changed step.result c.args.links.now c.loop-x.links step.new.links inv.1 step.ensures.tells,
      rings_grow c.loop-x.links step.new.links c.put.new.ring (c.loop-x.x + 1) step.ensures.grows.keeps c.put.ensures.rings,
      λ e.
          let parts = or_parts c.loop-x.changed step.result e in
          subst (λ (ls : List ℕ). Whole ls c.put.new.ring (c.loop-x.x + 1))
          (sym (still step.result c.loop-x.links step.new.links step.ensures.tells parts.1))
          (c.put.ensures.whole (inv.3 parts.0)),
      quiet_more (λ (ls : List ℕ) (k : ℕ). (i : ℕ) → i < k → Agree (Edge c.args.sides.now.tables.places.now c.args.sides.now.tables.slots.now) ls k i)
          c.loop-x.changed step.result c.loop-x.links step.new.links c.loop-x.x step.ensures.tells inv.4
          (λ a b. step.ensures.agree b (c.put.ensures.whole (inv.3 a)) (inv.4 a)),
    )

pub returns-clause-closed : goal.returns-clause-closed
returns-clause-closed g c e =
    closed_all c.args.sides.now.tables.places.now c.args.sides.now.tables.slots.now c.args.sides.now.ordered c.loop-x.links
    (λ k l. c.loop-x.invariant.4 e k (omega (arith, c.loop-x-test.false)))
