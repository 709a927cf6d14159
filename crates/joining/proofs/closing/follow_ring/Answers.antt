use Rattle.std.proofs.Common.{◌≡◌, ℕ, ◌+◌, ◌||◌, List, sym, refl, ◌∙◌, subst, arith}
use Rattle.std.proofs.lemmas.Bool.{or_parts}
use Rattle.records.specs.Tables.{Edge}
use Rattle.joining.specs.Forest.{Same}
use Rattle.joining.specs.Closure.{Agree, AgreeBelow}
use Rattle.joining.specs.Rings.{next}
use Rattle.joining.proofs.Walks.{covered_agree}
use Rattle.joining.proofs.Growth.{grows_none, grows_then, tells_then, still}
use Rattle.joining.proofs.Ringing.{along, at_last}
use Rattle.joining.proofs.closing.follow_ring.Goals as goal

pub loop-y-init : goal.loop-y-init
loop-y-init g c = (
  grows_none (Edge c.args.sides.now.tables.places.now c.args.sides.now.tables.slots.now) c.args.links.now c.requires.forest,
  refl,
  omega arith,
  refl,
  λ _ _ z l u s. absurd (omega arith),
)

pub loop-y-preserved : goal.loop-y-preserved
loop-y-preserved g c =
    let inv = c.loop-y.invariant in
    let step = c.join_common-common in (
      grows_then (Edge c.args.sides.now.tables.places.now c.args.sides.now.tables.slots.now) inv.0 step.ensures.grows,
      tells_then c.loop-y.changed step.result.changed c.args.links.now c.loop-y.links step.new.links inv.1 step.ensures.tells,
      omega (arith, inv.2),
      inv.3 ∙ c.requires.rings.joined c.loop-y.y (omega (arith, inv.2)),
      λ e whole.
          let parts = or_parts c.loop-y.changed step.result.changed e in
          let same : c.loop-y.links ≡ step.new.links = sym (still step.result.changed c.loop-y.links step.new.links step.ensures.tells parts.1) in
          along c.args.links.now c.args.ring.now c.requires.forest (c.args.x + 1) whole
          (Agree (Edge c.args.sides.now.tables.places.now c.args.sides.now.tables.slots.now) step.new.links c.args.x) c.args.x c.loop-y.y
          (omega (arith, inv.2)) inv.3 c.loop-y-test.true
          (λ z l u s. subst (λ (ls : List ℕ). Agree (Edge c.args.sides.now.tables.places.now c.args.sides.now.tables.slots.now) ls c.args.x z) same (inv.4 parts.0 whole z l u s))
          (λ _. step.ensures.agree),
    )

pub returns-clause-agree : goal.returns-clause-agree
returns-clause-agree g c e whole _ z l s =
    let inv = c.loop-y.invariant in
    let same : c.loop-y.links ≡ c.args.links.now = still c.loop-y.changed c.args.links.now c.loop-y.links inv.1 e in
    at_last c.args.links.now c.args.ring.now c.requires.forest (c.args.x + 1) whole
    (Agree (Edge c.args.sides.now.tables.places.now c.args.sides.now.tables.slots.now) c.loop-y.links c.args.x) c.args.x c.loop-y.y
    (omega (arith, inv.2)) inv.3 (omega (arith, c.loop-y-test.false)) (inv.4 e whole)
    z l (subst (λ (ls : List ℕ). Same ls c.args.x z) same s) s

pub returns-then-common-clause-grows : goal.returns-then-common-clause-grows
returns-then-common-clause-grows g c =
    grows_then (Edge c.args.sides.now.tables.places.now c.args.sides.now.tables.slots.now) c.loop-y.invariant.0 c.join_common-common.ensures.grows

pub returns-then-common-clause-agree : goal.returns-then-common-clause-agree
returns-then-common-clause-agree g c e whole below =
    let ps = c.args.sides.now.tables.places.now in
    let ss = c.args.sides.now.tables.slots.now in
    let inv = c.loop-y.invariant in
    let step = c.join_common-common in
    let told = tells_then c.loop-y.changed step.result.changed c.args.links.now c.loop-y.links step.new.links inv.1 step.ensures.tells in
    let same : c.args.links.now ≡ step.new.links = sym (still (c.loop-y.changed || step.result.changed) c.args.links.now step.new.links told e) in
    covered_agree ps ss c.args.sides.now.ordered step.new.links c.args.x (next c.args.ring.now c.loop-y.y)
    (omega (arith, inv.2)) (step.ensures.covers c.if-common.true)
    ((grows_then (Edge ps ss) inv.0 step.ensures.grows).keeps _ _ (inv.3 ∙ c.requires.rings.joined c.loop-y.y (omega (arith, inv.2)))) step.ensures.agree
    (subst (λ (ls : List ℕ). AgreeBelow (Edge ps ss) ls c.args.x) same below)
