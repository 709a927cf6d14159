use Rattle.std.proofs.Common.{◌≡◌, ◌+◌, ◌++◌, map, length, drop, refl, sym, ◌∙◌, arith}
use Rattle.records.specs.Sheets.{size, width}
use Rattle.asks.specs.Asks.{moved_place, moved_slot, chained}
use Rattle.asks.specs.Laying.{tables}
use Rattle.asks.proofs.Adds.{add_sized}
use Rattle.asks.proofs.Pasting.{front_both}
use Rattle.asks.proofs.Sides.{laid_beside}
use Rattle.asks.proofs.laying.lay_beside.Goals as goal

pub returns : goal.returns
returns g c =
    let any = c.args.any in
    let path = c.args.path.now in
    let s = tables c.args.standing.places.now c.args.standing.slots.now in
    let t = tables c.args.asked.places.now c.args.asked.slots.now in
    let old = tables c.args.work_places.now c.args.work_slots.now in
    let add = chained any path t in
    let sized = add_sized any path t in
    let behind = c.counts-behind.result in
    let bp = c.counts-behind.ensures.places in
    let bs = c.counts-behind.ensures.slots in
    let np : behind.places + (length path + size t) ≡ size s + length path + size t = omega (arith, bp) in
    let ns : behind.slots + (length path + width t) ≡ width s + length path + width t = omega (arith, bs) in
    laid_beside s add old (tables _ _) _ _
    (front_both old.places c.copy_front.new.to s.places (map (moved_place behind.slots) add.places) c.draw_add.new.places behind.places (length path + size t) _ bp
    (c.copy_front.ensures ∙ (λ i. s.places ++ drop (sym bp i) old.places)) refl c.draw_add.ensures.places
    ∙ (λ i. (s.places ++ map (moved_place (bs i)) add.places) ++ drop (np i) old.places))
    (front_both old.slots c.copy_front-2.new.to s.slots (map (moved_slot behind.places) add.slots) c.draw_add.new.slots behind.slots (length path + width t) _ bs
    (c.copy_front-2.ensures ∙ (λ i. s.slots ++ drop (sym bs i) old.slots)) refl c.draw_add.ensures.slots
    ∙ (λ i. (s.slots ++ map (moved_slot (bp i)) add.slots) ++ drop (ns i) old.slots))
    (omega (arith, sized.0)) (omega (arith, sized.1)) (omega arith) (omega arith)
