use Rattle.std.proofs.Common.{ℕ, ◌+◌, List, length, take, ap, ◌∙◌, subst, arith, length-take}
use Rattle.records.specs.Sheets.{Sheet, blank_place, sheet_of}
use Rattle.joining.specs.Two.{Two}
use Rattle.asks.specs.Asks.{chained}
use Rattle.asks.proofs.Adds.{add_formed}
use Rattle.asks.proofs.Reading.{add_read}
use Rattle.std.specs.Result.{result_ok}
use Rattle.merging.specs.Core.{Merges}
use Rattle.merging.proofs.Tables.{merged_holds, places_after, slots_after, own_front, links_back, laid_beside}
use Rattle.merging.proofs.merge.Goals as goal

pub unite-made-requires : goal.unite-made-requires
unite-made-requires g c =
    let any = g.K.Kind.form g.K.Kind.top in
    let asked : Sheet g.row.K-Form.Denot = record { places = c.args.asked.places.now; slots = c.args.asked.slots.now } in
    let n : ℕ = c.args.standing.places + length c.args.path.now + length c.args.asked.places.now in
    let m : ℕ = c.args.standing.slots + length c.args.path.now + length c.args.asked.slots.now in
    let lp = c.lay_beside.ensures.places_length in
    let ls = c.lay_beside.ensures.slots_length in
    record {
      two = record {
        s = record { places = take c.args.standing.places c.args.places.now; slots = take c.args.standing.slots c.args.slots.now };
        t = chained any c.args.path.now asked;
        formed_s = c.requires.stands;
        formed_t = add_formed any c.args.path.now asked c.requires.asked;
        beside =
            laid_beside c.store.result any c.args.places.now c.args.slots.now c.args.standing.places c.args.standing.slots c.args.path.now asked
            c.lay_beside.new.work_places c.lay_beside.new.work_slots (c.store.ensures ∙ ap g.K.Kind.form c.greatest.ensures)
            c.requires.counted.0 c.requires.counted.1 c.lay_beside.ensures.beside;
        from = simp length-take (omega arith);
      };
      own = own_front c.args.links.now n (omega arith) c.requires.own;
      work = (simp length-take (omega arith), (simp length-take (omega arith), simp length-take (omega arith)));
      output = (simp length-take (omega arith), simp length-take (omega arith));
    }

pub returns-clause-answer : goal.returns-clause-answer
returns-clause-answer g c =
    let laws = g.K.Kind.laws in
    let any = g.K.Kind.form g.K.Kind.top in
    let path : List ℕ = c.args.path.now in
    let standing : Sheet g.row.K-Form.Denot = record { places = take c.args.standing.places c.args.places.now; slots = take c.args.standing.slots c.args.slots.now } in
    let asked : Sheet g.row.K-Form.Denot = record { places = c.args.asked.places.now; slots = c.args.asked.slots.now } in
    let n : ℕ = c.args.standing.places + length path + length c.args.asked.places.now in
    let m : ℕ = c.args.standing.slots + length path + length c.args.asked.slots.now in
    let lp = c.lay_beside.ensures.places_length in
    let ls = c.lay_beside.ensures.slots_length in
    let two : Two (take n c.lay_beside.new.work_places) (take m c.lay_beside.new.work_slots) c.args.standing.places =
    record {
      s = standing;
      t = chained any path asked;
      formed_s = c.requires.stands;
      formed_t = add_formed any path asked c.requires.asked;
      beside =
          laid_beside c.store.result any c.args.places.now c.args.slots.now c.args.standing.places c.args.standing.slots path asked
          c.lay_beside.new.work_places c.lay_beside.new.work_slots (c.store.ensures ∙ ap g.K.Kind.form c.greatest.ensures)
          c.requires.counted.0 c.requires.counted.1 c.lay_beside.ensures.beside;
      from = simp length-take (omega arith);
    } in
    let united : Merges laws (sheet_of laws standing.places standing.slots) (chained g.K.Kind.top path (sheet_of laws asked.places asked.slots)) (result_ok c.unite-made.result) c.unite-made.new.places c.unite-made.new.slots =
    subst (λ (t : Sheet g.row.K.Denot). Merges laws (sheet_of laws standing.places standing.slots) t (result_ok c.unite-made.result) c.unite-made.new.places c.unite-made.new.slots)
    (add_read laws path asked) (c.unite-made.ensures.answer two) in
    merged_holds laws (sheet_of laws standing.places standing.slots) (chained g.K.Kind.top path (sheet_of laws asked.places asked.slots))
    c.args.standing.places c.args.standing.slots c.args.places.now c.unite-made.new.places c.blank_past.new.places
    c.args.slots.now c.unite-made.new.slots c.blank_past.new.slots (result_ok c.unite-made.result)
    (length (take n c.lay_beside.new.work_places)) (length (take m c.lay_beside.new.work_slots))
    (simp length-take (omega arith)) (simp length-take (omega arith))
    united c.unite-made.ensures.places c.unite-made.ensures.slots c.blank_past.ensures.places c.blank_past.ensures.slots

pub returns-clause-places : goal.returns-clause-places
returns-clause-places g c =
    let lp = c.lay_beside.ensures.places_length in
    places_after (blank_place g.K.Kind.laws) c.args.standing.places c.args.places.now c.unite-made.new.places c.blank_past.new.places (result_ok c.unite-made.result)
    (length (take (c.args.standing.places + length c.args.path.now + length c.args.asked.places.now) c.lay_beside.new.work_places)) (simp length-take (omega arith))
    c.unite-made.ensures.places c.blank_past.ensures.places

pub returns-clause-slots : goal.returns-clause-slots
returns-clause-slots g c =
    let ls = c.lay_beside.ensures.slots_length in
    slots_after c.args.standing.slots c.args.slots.now c.unite-made.new.slots c.blank_past.new.slots (result_ok c.unite-made.result)
    (length (take (c.args.standing.slots + length c.args.path.now + length c.args.asked.slots.now) c.lay_beside.new.work_slots)) (simp length-take (omega arith))
    c.unite-made.ensures.slots c.blank_past.ensures.slots

pub returns-clause-links : goal.returns-clause-links
returns-clause-links g c =
    links_back c.args.links.now c.unite-made.new.links (c.args.standing.places + length c.args.path.now + length c.args.asked.places.now) c.requires.places.1.1.0 c.requires.own c.unite-made.ensures.links
