use Rattle.std.proofs.Common.{◌≡◌, ℕ, length, get_or, Some, None, Err, Result, sym, refl, ap, ◌∙◌, subst, arith}
use Rattle.std.proofs.lemmas.Result.{err_from_is_err_and}
use Rattle.records.specs.declared.Counts.{Counts}
use Rattle.records.specs.Tables.{blank_slot}
use Rattle.records.specs.Sheets.{blank_place}
use Rattle.unification.specs.Merge as merge
use Rattle.sheets.specs.Refusals.{Answered, refusal}
use Rattle.jobs.specs.declared.fault.JobFault.{JobFault}
use Rattle.jobs.specs.declared.fault.JobFault.TheVariants.{Clash}
use Rattle.jobs.specs.Faults.{fault_number}
use Rattle.jobs.specs.Jobs.{standing_sheet}
use Rattle.jobs.specs.Adding.{Ready, add_checks, room_checks, ask_of, NoSheet}
use Rattle.jobs.proofs.Answering.{last_refuses, none_refuses}
use Rattle.jobs.proofs.Added.{standing_formed, standing_links, asked_merge, no_clash, some_sheet, no_sheet}
use Rattle.jobs.proofs.Blanks.{worked_same, worked_blank, replaced_blank}
use Rattle.jobs.proofs.job.Job.add.Goals as goal

pub merge-requires-clause-stands : goal.merge-requires-clause-stands
merge-requires-clause-stands g c = standing_formed c.args.self.now (c.in_ok-admit.ensures.ready refl).some

pub merge-requires-clause-own : goal.merge-requires-clause-own
merge-requires-clause-own g c x h =
    let ready : Ready c.args.self.now c.args.path.now c.args.sheet.now = c.in_ok-admit.ensures.ready refl in
    standing_links c.args.self.now ready.some x (omega (arith, ap length c.tables.ensures.places, ready.places))

pub returns-in_err-counts-clause-answer : goal.returns-in_err-counts-clause-answer
returns-in_err-counts-clause-answer g c =
    let laws = g.K.Kind.laws in
    let j = c.args.self.now in
    let path = c.args.path.now in
    let sheet = c.args.sheet.now in
    let cond = merge.Clash laws (standing_sheet laws j) (ask_of laws path sheet) in
    let p = err_from_is_err_and c.from_residual-in_err-counts.result c.from_residual-in_err-counts.ensures.1 in
    let e : Err Clash ≡ c.from_residual-in_err-counts.result = sym (p.1 ∙ ap Err p.2) in
    let clashes = asked_merge laws j path sheet None c.merge.new.places c.merge.new.slots c.tables.ensures.places c.tables.ensures.slots c.in_err-counts.ensures.answer in
    subst (λ (r : Result Counts JobFault). Answered (add_checks j path sheet cond) (refusal fault_number r)) e (last_refuses (room_checks j path sheet) 32 cond c.in_ok-admit.ensures.answer clashes)

pub returns-in_err-counts-clause-clash : goal.returns-in_err-counts-clause-clash
returns-in_err-counts-clause-clash g c =
    let laws = g.K.Kind.laws in
    let j = c.args.self.now in
    let path = c.args.path.now in
    let sheet = c.args.sheet.now in
    let cond = NoSheet laws (standing_sheet laws j) (ask_of laws path sheet) in
    let p = err_from_is_err_and c.from_residual-in_err-counts.result c.from_residual-in_err-counts.ensures.1 in
    let e : Err Clash ≡ c.from_residual-in_err-counts.result = sym (p.1 ∙ ap Err p.2) in
    let clashes = asked_merge laws j path sheet None c.merge.new.places c.merge.new.slots c.tables.ensures.places c.tables.ensures.slots c.in_err-counts.ensures.answer in
    subst (λ (r : Result Counts JobFault). Answered (add_checks j path sheet cond) (refusal fault_number r)) e (last_refuses (room_checks j path sheet) 32 cond c.in_ok-admit.ensures.answer (no_sheet laws j path sheet (c.in_ok-admit.ensures.ready refl) clashes))

pub returns-in_err-counts-clause-refused : goal.returns-in_err-counts-clause-refused
returns-in_err-counts-clause-refused g c tidy err =
    let blank = blank_place g.K.Kind.laws in
    let j = c.args.self.now in
    let ready : Ready j c.args.path.now c.args.sheet.now = c.in_ok-admit.ensures.ready refl in
    let t = tidy ready.some in
    let after = c.in_err-counts.ensures in
    record {
      stands = record {
        limit_places = refl;
        limit_slots = refl;
        counted_places = refl;
        counted_slots = refl;
        places = after.places;
        slots = after.slots;
        links = after.links;
        shelf_places = refl;
        shelf_slots = refl;
      };
      work_places = worked_same blank j.work_places.now c.merge.new.work_places _ j.state.limits.places (omega (arith, ap length c.tables.ensures.places, ready.places)) j.place_room.2 t.work_places after.work_places;
      work_slots = worked_same blank_slot j.work_slots.now c.merge.new.work_slots _ j.state.limits.slots (omega (arith, ap length c.tables.ensures.slots, ready.slots)) j.slot_room.2 t.work_slots after.work_slots;
    }

pub returns-in_err-counts-clause-tidy : goal.returns-in_err-counts-clause-tidy
returns-in_err-counts-clause-tidy g c tidy some =
    let blank = blank_place g.K.Kind.laws in
    let j = c.args.self.now in
    let ready : Ready j c.args.path.now c.args.sheet.now = c.in_ok-admit.ensures.ready refl in
    let t = tidy ready.some in
    let after = c.in_err-counts.ensures in
    record {
      places = λ k l h. ap (λ xs. get_or xs k blank) after.places ∙ t.places k l h;
      slots = λ k l h. ap (λ xs. get_or xs k blank_slot) after.slots ∙ t.slots k l h;
      work_places = worked_blank blank j.work_places.now c.merge.new.work_places _ j.state.limits.places (omega (arith, ap length c.tables.ensures.places, ready.places)) j.place_room.2 t.work_places after.work_places;
      work_slots = worked_blank blank_slot j.work_slots.now c.merge.new.work_slots _ j.state.limits.slots (omega (arith, ap length c.tables.ensures.slots, ready.slots)) j.slot_room.2 t.work_slots after.work_slots;
      links = λ k h. ap (λ l. get_or l k 0) after.links ∙ t.links k h;
      shelf_places = t.shelf_places;
      shelf_slots = t.shelf_slots;
    }

pub invariant_of-self-2-clause-sound : goal.invariant_of-self-2-clause-sound
invariant_of-self-2-clause-sound g c some =
    let j = c.args.self.now in
    let path = c.args.path.now in
    let sheet = c.args.sheet.now in
    let ready : Ready j path sheet = c.in_ok-admit.ensures.ready refl in
    let held = asked_merge g.K.Kind.laws j path sheet (Some c.in_ok-counts.counts) c.merge.new.places c.merge.new.slots c.tables.ensures.places c.tables.ensures.slots c.in_ok-counts.ensures.answer in
    ∣ record { formed = held.formed; own = λ k h. ap (λ l. get_or l k 0) c.merge.ensures.links ∙ standing_links j ready.some k h } ∣₁

pub returns-clause-answer : goal.returns-clause-answer
returns-clause-answer g c =
    let laws = g.K.Kind.laws in
    let j = c.args.self.now in
    let path = c.args.path.now in
    let sheet = c.args.sheet.now in
    let held = asked_merge laws j path sheet (Some c.in_ok-counts.counts) c.merge.new.places c.merge.new.slots c.tables.ensures.places c.tables.ensures.slots c.in_ok-counts.ensures.answer in
    none_refuses (room_checks j path sheet) 32 (merge.Clash laws (standing_sheet laws j) (ask_of laws path sheet)) c.in_ok-admit.ensures.answer
    (no_clash laws j path sheet (c.in_ok-admit.ensures.ready refl) _ held.merge)

pub returns-clause-clash : goal.returns-clause-clash
returns-clause-clash g c =
    let laws = g.K.Kind.laws in
    let j = c.args.self.now in
    let path = c.args.path.now in
    let sheet = c.args.sheet.now in
    let held = asked_merge laws j path sheet (Some c.in_ok-counts.counts) c.merge.new.places c.merge.new.slots c.tables.ensures.places c.tables.ensures.slots c.in_ok-counts.ensures.answer in
    none_refuses (room_checks j path sheet) 32 (NoSheet laws (standing_sheet laws j) (ask_of laws path sheet)) c.in_ok-admit.ensures.answer
    (some_sheet laws j path sheet (c.in_ok-admit.ensures.ready refl) _ held.merge)

pub returns-clause-tidy : goal.returns-clause-tidy
returns-clause-tidy g c tidy some =
    let blank = blank_place g.K.Kind.laws in
    let j = c.args.self.now in
    let ready : Ready j c.args.path.now c.args.sheet.now = c.in_ok-admit.ensures.ready refl in
    let t = tidy ready.some in
    let n : ℕ = j.state.standing.places in
    let m : ℕ = j.state.standing.slots in
    let after = c.in_ok-counts.ensures in
    record {
      places = replaced_blank blank j.places.now c.merge.new.places n c.in_ok-counts.counts.places j.state.limits.places t.places after.places;
      slots = replaced_blank blank_slot j.slots.now c.merge.new.slots m c.in_ok-counts.counts.slots j.state.limits.slots t.slots after.slots;
      work_places = worked_blank blank j.work_places.now c.merge.new.work_places _ j.state.limits.places (omega (arith, ap length c.tables.ensures.places, ready.places)) j.place_room.2 t.work_places after.work_places;
      work_slots = worked_blank blank_slot j.work_slots.now c.merge.new.work_slots _ j.state.limits.slots (omega (arith, ap length c.tables.ensures.slots, ready.slots)) j.slot_room.2 t.work_slots after.work_slots;
      links = λ k h. ap (λ l. get_or l k 0) after.links ∙ t.links k h;
      shelf_places = t.shelf_places;
      shelf_slots = t.shelf_slots;
    }
