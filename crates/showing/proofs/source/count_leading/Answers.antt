use Rattle.std.proofs.Common.{ℕ, ◌+◌, ◌<◌, get_or, refl, arith, rules}
use Rattle.std.proofs.lemmas.List.{length-set, get_or-replicate}
use Rattle.records.specs.Tables.{target_at}
use Rattle.showing.proofs.Tagging.{leads_more, led_few}
use Rattle.showing.proofs.source.count_leading.Goals as goal

pub loop-slot-init : goal.loop-slot-init
loop-slot-init c = (refl, λ p h. get_or-replicate 1000 p 0 0 h)

pub overflow_add-leading : goal.overflow_add-leading
overflow_add-leading c =
    let ss = c.args.slots.now in
    let i : ℕ = c.loop-slot.slot-index in
    let low = c.requires.1 i (omega arith) in
    let few = led_few ss i (target_at ss i) (omega arith) in
    let is = c.loop-slot.invariant.1 (target_at ss i) low in
    let small : get_or c.loop-slot.leading (target_at ss i) 0 + 1 < 65536 = omega arith in
    search rules

pub loop-slot-preserved : goal.loop-slot-preserved
loop-slot-preserved c =
    let ss = c.args.slots.now in
    let i : ℕ = c.loop-slot.slot-index in (
      simp length-set c.loop-slot.invariant.0,
      leads_more c.loop-slot.leading ss i c.loop-slot.invariant.0 (omega arith) (c.requires.1 i (omega arith)) c.loop-slot.invariant.1,
    )
