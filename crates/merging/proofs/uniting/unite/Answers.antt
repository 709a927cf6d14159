use Rattle.std.proofs.Common.{◌≡◌, length, take, refl, sym, subst, arith}
use Rattle.std.specs.Result.{result_ok}
use Rattle.std.proofs.lemmas.Result.{err_from_is_err_and}
use Rattle.records.specs.Sheets.{Sheet}
use Rattle.merging.specs.United.{United}
use Rattle.merging.proofs.Classing.{linked_of, end_classes, classes_ready, classes_shaped, kept_alike, classes_clash, classes_merge, classes_own}
use Rattle.merging.proofs.uniting.unite.Goals as goal

pub meet_classes-requires : goal.meet_classes-requires
meet_classes-requires g c =
    let two = c.requires.two in
    let linked = linked_of c.args.work_places.now c.args.work_slots.now c.join_roots.new.links c.flatten.new.ends two c.join_roots.ensures.forest (omega arith) (omega arith) c.flatten.ensures (c.join_roots.ensures.joined two) in
    end_classes two.s two.t _ c.join_roots.new.links c.flatten.new.ends linked

pub returns-in_err-meet_classes-clause-answer : goal.returns-in_err-meet_classes-clause-answer
returns-in_err-meet_classes-clause-answer g c two =
    let linked = linked_of c.args.work_places.now c.args.work_slots.now c.join_roots.new.links c.flatten.new.ends two c.join_roots.ensures.forest (omega arith) (omega arith) c.flatten.ensures (c.join_roots.ensures.joined two) in
    let refused = err_from_is_err_and c.from_residual.result c.from_residual.ensures.1 in
    subst (λ made. United g.K.Kind.laws two.s two.t (result_ok made) c.args.places.now c.args.slots.now) (sym refused.1)
    (classes_clash g.K.Kind.laws two.s two.t _ c.join_roots.new.links c.flatten.new.ends linked c.in_err-meet_classes.ensures.clash)

pub number-requires : goal.number-requires
number-requires g c =
    let two = c.requires.two in
    let linked = linked_of c.args.work_places.now c.args.work_slots.now c.join_roots.new.links c.flatten.new.ends two c.join_roots.ensures.forest (omega arith) (omega arith) c.flatten.ensures (c.join_roots.ensures.joined two) in
    let w : Sheet g.row.K-Form.Denot = record { places = c.args.work_places.now; slots = c.args.work_slots.now } in
    let v : Sheet g.row.K-Form.Denot = record { places = c.meet_classes.new.places; slots = c.args.work_slots.now } in
    let same : length c.meet_classes.new.places ≡ length c.args.work_places.now = c.meet_classes.ensures.kept.size in
    record {
      work = classes_ready two.s two.t w c.join_roots.new.links c.flatten.new.ends linked v (kept_alike w v c.flatten.new.ends c.meet_classes.ensures.kept refl);
      size = (omega arith, (omega arith, omega arith));
      output = (omega arith, omega arith);
    }

pub returns-clause-answer : goal.returns-clause-answer
returns-clause-answer g c two =
    let linked = linked_of c.args.work_places.now c.args.work_slots.now c.join_roots.new.links c.flatten.new.ends two c.join_roots.ensures.forest (omega arith) (omega arith) c.flatten.ensures (c.join_roots.ensures.joined two) in
    let w : Sheet g.row.K-Form.Denot = record { places = c.args.work_places.now; slots = c.args.work_slots.now } in
    let v : Sheet g.row.K-Form.Denot = record { places = c.meet_classes.new.places; slots = c.args.work_slots.now } in
    let m : Sheet g.row.K-Form.Denot = record { places = take c.number.result.places c.number.new.outp; slots = take c.number.result.slots c.number.new.outs } in
    let alike = kept_alike w v c.flatten.new.ends c.meet_classes.ensures.kept refl in
    let met = c.in_ok-meet_classes.ensures.met in
    let shape = classes_shaped two.s two.t w c.join_roots.new.links c.flatten.new.ends linked v alike m c.number.ensures.quotient in
    record {
      formed = c.number.ensures.quotient.formed;
      merge = classes_merge g.K.Kind.laws two.s two.t w c.join_roots.new.links c.flatten.new.ends linked v alike met m shape;
      own = classes_own g.K.Kind.laws two.s two.t w c.join_roots.new.links c.flatten.new.ends linked v alike met m shape;
    }
