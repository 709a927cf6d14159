use Rattle.std.proofs.Common.{◌+◌, sym, refl, ◌∙◌, arith}
use Rattle.std.proofs.lemmas.Bool.{false≢true}
use Rattle.records.specs.Tables.{first_at}
use Rattle.records.proofs.Counting.{to_within}
use Rattle.records.proofs.Owned.{own_length, own_target}
use Rattle.renumbering.proofs.Deciding.{decides_no}
use Rattle.renumbering.proofs.Marking.{root_marked, marked_more, marked_in_turn, led_more}
use Rattle.renumbering.proofs.drafts.is_led_on.Goals as goal

pub loop-p-init : goal.loop-p-init
loop-p-init g c = (refl, root_marked c.args.tables.places.now c.args.tables.slots.now 1000 (omega arith), λ q l h. absurd (omega arith))

pub returns-then-not-marks-p : goal.returns-then-not-marks-p
returns-then-not-marks-p g c =
    decides_no (λ led.
    false≢true (sym c.if-not-marks-p.true ∙ marked_in_turn c.args.tables.places.now c.args.tables.slots.now c.loop-p.p c.loop-p.marks c.loop-p.invariant.1 led c.loop-p-test.true))

pub mark-requires : goal.mark-requires
mark-requires g c =
    let ps = c.args.tables.places.now in
    let ss = c.args.tables.slots.now in
    λ i l.
    let k = own_length ps ss c.requires.counted c.loop-p.p c.loop-p-test.true _ c.slots_of.ensures in
    let within = to_within ps ss c.requires.counted c.loop-p.p c.loop-p-test.true in
    omega (arith, own_target ps ss c.requires.counted c.loop-p.p c.loop-p-test.true _ c.slots_of.ensures i (omega arith), c.requires.aimed (first_at ps c.loop-p.p + i) (omega arith))

pub loop-p-preserved : goal.loop-p-preserved
loop-p-preserved g c =
    let ps = c.args.tables.places.now in
    let ss = c.args.tables.slots.now in (
      omega arith,
      marked_more ps ss c.loop-p.p _ c.loop-p.marks c.mark.new.marks c.requires.counted c.loop-p-test.true c.slots_of.ensures c.loop-p.invariant.1 c.mark.ensures,
      led_more ps ss c.loop-p.p c.loop-p.marks c.loop-p.invariant.1 c.if-not-marks-p.false c.loop-p.invariant.2,
    )
