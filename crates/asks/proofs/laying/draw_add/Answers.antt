use Rattle.std.proofs.Common.{◌+◌, ◌++◌, map, length, drop, refl, sym, ap, ◌∙◌, arith}
use lib.ListN.{length-map}
use Rattle.std.proofs.lemmas.List.{get_or-map}
use Rattle.records.specs.Tables.{blank_slot}
use Rattle.records.proofs.Shape.{ends, target_in}
use Rattle.asks.specs.Asks.{moved_place, moved_slot}
use Rattle.asks.specs.Laying.{tables, chain}
use Rattle.asks.proofs.Pasting.{front_both}
use Rattle.asks.proofs.Drawing.{chain_sized, places_drawn, slots_drawn}
use Rattle.asks.proofs.laying.draw_add.Goals as goal

pub copy_moved-requires-clause-fits : goal.copy_moved-requires-clause-fits
copy_moved-requires-clause-fits g c k h =
    omega (arith, c.requires.slots, ends (tables c.args.asked.places.now c.args.asked.slots.now) c.requires.asked k h)

pub copy_moved-requires-2-clause-fits : goal.copy_moved-requires-2-clause-fits
copy_moved-requires-2-clause-fits g c k h =
    let read = get_or-map (λ r. r.target) c.args.asked.slots.now k blank_slot 0 h in
    omega (arith, c.requires.places, read, target_in (tables c.args.asked.places.now c.args.asked.slots.now) c.requires.asked k h)

pub returns : goal.returns
returns g c =
    let any = c.args.any in
    let path = c.args.path.now in
    let ps = c.args.asked.places.now in
    let ss = c.args.asked.slots.now in
    let m = c.args.behind.places in
    let n = c.args.behind.slots in
    let drawn = chain any path in
    let sized = chain_sized any path in
    record {
      places =
          front_both c.args.places.now c.draw_chain.new.places (map (moved_place n) drawn.places) (map (moved_place (n + length path)) ps)
          c.copy_moved.new.to (length path) (length ps) _ (omega (arith, sized.0, length-map drawn.places (moved_place n))) c.draw_chain.ensures.places refl
          c.copy_moved.ensures
          ∙ ap (λ l. l ++ drop (length path + length ps) c.args.places.now) (sym (places_drawn any path n (tables ps ss)));
      slots =
          front_both c.args.slots.now c.draw_chain.new.slots (map (moved_slot m) drawn.slots) (map (moved_slot (m + length path)) ss)
          c.copy_moved-2.new.to (length path) (length ss) _ (omega (arith, sized.1, length-map drawn.slots (moved_slot m))) c.draw_chain.ensures.slots refl
          c.copy_moved-2.ensures
          ∙ ap (λ l. l ++ drop (length path + length ss) c.args.slots.now) (sym (slots_drawn any path m (tables ps ss)));
    }
