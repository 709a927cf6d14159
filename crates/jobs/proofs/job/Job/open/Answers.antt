use Rattle.std.proofs.Common.{◌≡◌, ◌<◌, ◌++◌, min, drop, ap, ◌∙◌, arith}
use Rattle.records.specs.Tables.{blank_slot}
use Rattle.records.specs.Sheets.{blank_place}
use Rattle.jobs.specs.Contents.{filled, numbered}
use Rattle.jobs.specs.Jobs.{place_room, slot_room, shelf_place_room, shelf_slot_room}
use Rattle.jobs.proofs.Opened.{front_filled, front_numbered, table_opened, table_blank, links_own, sound_opened, sheet_opened}
use Rattle.jobs.proofs.job.Job.open.Goals as goal

pub invariant_of-self-9-clause-sound : goal.invariant_of-self-9-clause-sound
invariant_of-self-9-clause-sound g c pos =
    let j = c.args.self.now in
    let some : 0 < place_room j = omega arith in
    let blank = blank_place g.K.Kind.laws in
    let limit = c.room-limits.ensures.places in
    let places : c.blank_from.new.records ≡ filled (place_room j) blank j.places.now = front_filled _ _ _ _ _ c.blank_from.ensures c.no_place.ensures limit in
    let links : c.own_numbers.new.entries ++ drop c.room-limits.result.places j.links.now ≡ numbered (place_room j) j.links.now = front_numbered _ _ j.links.now limit (omega arith) (omega arith) c.own_numbers.ensures in
    let limits = c.opened-state.ensures.limits.0 ∙ limit in
    let one : c.opened-state.result.standing.places ≡ 1 = omega (arith, c.opened-state.ensures.counts.0) in
    ∣ sound_opened (place_room j) _ j.places.now j.links.now some places links limits one c.opened-state.ensures.counts.1 ∣₁

pub returns-clause-tables : goal.returns-clause-tables
returns-clause-tables g c =
    let j = c.args.self.now in
    let p = place_room j in
    let q = slot_room j in
    let sp = shelf_place_room j in
    let sq = shelf_slot_room j in
    let some : 0 < p = omega arith in
    let blank = blank_place g.K.Kind.laws in
    let limit = c.room-limits.ensures.places in
    let slot_limit = c.room-limits.ensures.slots in
    record {
      places = table_opened p p blank j.places.now some (front_filled _ _ _ _ _ c.blank_from.ensures c.no_place.ensures limit);
      slots = table_opened p q blank_slot j.slots.now some (front_filled _ _ _ _ _ c.blank_from-2.ensures c.no_slot.ensures slot_limit);
      work_places = table_opened p p blank j.work_places.now some (front_filled _ _ _ _ _ c.blank_from-3.ensures c.no_place-2.ensures limit);
      work_slots = table_opened p q blank_slot j.work_slots.now some (front_filled _ _ _ _ _ c.blank_from-4.ensures c.no_slot-2.ensures slot_limit);
      links = front_numbered _ _ j.links.now limit (omega arith) (omega arith) c.own_numbers.ensures;
      shelf_places = table_opened p sp blank j.shelf_places.now some (front_filled _ _ _ _ _ c.blank_from-5.ensures c.no_place-3.ensures c.shelf_room-shelf.ensures.places);
      shelf_slots = table_opened p sq blank_slot j.shelf_slots.now some (front_filled _ _ _ _ _ c.blank_from-6.ensures c.no_slot-3.ensures c.shelf_room-shelf.ensures.slots);
    }

pub returns-clause-sheet : goal.returns-clause-sheet
returns-clause-sheet g c h =
    let j = c.args.self.now in
    let p = place_room j in
    let one : c.opened-state.result.standing.places ≡ 1 = omega (arith, c.opened-state.ensures.counts.0, c.room-limits.ensures.places) in
    sheet_opened g.K.Kind.laws p j.places.now _ h (front_filled _ _ _ _ _ c.blank_from.ensures c.no_place.ensures c.room-limits.ensures.places) one c.opened-state.ensures.counts.1

pub returns-clause-tidy : goal.returns-clause-tidy
returns-clause-tidy g c h =
    let j = c.args.self.now in
    let p = place_room j in
    let q = slot_room j in
    let sp = shelf_place_room j in
    let sq = shelf_slot_room j in
    let blank = blank_place g.K.Kind.laws in
    let limit = c.room-limits.ensures.places in
    let slots = c.room-limits.ensures.slots in
    let place_limit = c.opened-state.ensures.limits.0 ∙ limit in
    let slot_limit = c.opened-state.ensures.limits.1 ∙ slots in
    record {
      places = table_blank p blank j.places.now (front_filled _ _ _ _ _ c.blank_from.ensures c.no_place.ensures limit) place_limit;
      slots = table_blank q blank_slot j.slots.now (front_filled _ _ _ _ _ c.blank_from-2.ensures c.no_slot.ensures slots) slot_limit;
      work_places = table_blank p blank j.work_places.now (front_filled _ _ _ _ _ c.blank_from-3.ensures c.no_place-2.ensures limit) place_limit;
      work_slots = table_blank q blank_slot j.work_slots.now (front_filled _ _ _ _ _ c.blank_from-4.ensures c.no_slot-2.ensures slots) slot_limit;
      links = links_own p j.links.now (front_numbered _ _ j.links.now limit (omega arith) (omega arith) c.own_numbers.ensures) place_limit;
      shelf_places = table_blank sp blank j.shelf_places.now (front_filled _ _ _ _ _ c.blank_from-5.ensures c.no_place-3.ensures c.shelf_room-shelf.ensures.places) (ap (min 8000) c.blank_from-5.auto.records);
      shelf_slots = table_blank sq blank_slot j.shelf_slots.now (front_filled _ _ _ _ _ c.blank_from-6.ensures c.no_slot-3.ensures c.shelf_room-shelf.ensures.slots) (ap (min 32000) c.blank_from-6.auto.records);
    }
