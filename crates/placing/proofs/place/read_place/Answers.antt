use Rattle.std.proofs.Common.{◌≡◌, ℕ, ◌≤◌, min, ◌++◌, length, take, drop, refl, ◌∙◌, subst, arith, length-append, length-drop, length-take}
use Rattle.std.proofs.lemmas.Slice.{drop-append-drop}
use Rattle.records.specs.Tables.{blank_slot}
use Rattle.records.specs.Sheets.{blank_place}
use Rattle.reading.specs.Steps.{read_place}
use Rattle.placing.specs.Reading.{ReadAs, room, places_read, slots_read, blank_draft}
use Rattle.placing.proofs.Answering.{read_moved}
use Rattle.placing.proofs.Clearing.{cleared_at, same_front, read_into, worked_blank}
use Rattle.placing.proofs.place.read_place.Goals as goal

pub read_with-read-requires : goal.read_with-read-requires
read_with-read-requires g c =
    let p = length-take c.min-most_places.result c.args.drafts.now in
    let s = length-take c.min-most_slots.result c.slot_drafts-named.result in
    let e₁ = c.min.ensures in
    let e₂ = c.min-2.ensures in
    let e₃ = c.min-most_places.ensures in
    let e₄ = c.min-3.ensures in
    let e₅ = c.min-most_slots.ensures in
    record { places = (omega arith, (omega arith, omega arith)); slots = (omega arith, (omega arith, omega arith)) }

pub blank_past-requires : goal.blank_past-requires
blank_past-requires g c =
    let p = length-take c.min-most_places.result c.args.drafts.now in
    let w = c.read_with-read.ensures.within.0 in
    let n = c.counts_read-counts.ensures.places in
    let k = c.read_with-read.auto.places in
    omega (arith, p, w, n, k, c.min.ensures, c.min-2.ensures, c.min-most_places.ensures)

pub blank_past-requires-2 : goal.blank_past-requires-2
blank_past-requires-2 g c =
    let s = length-take c.min-most_slots.result c.slot_drafts-named.result in
    let w = c.read_with-read.ensures.within.1 in
    let n = c.counts_read-counts.ensures.slots in
    let k = c.read_with-read.auto.slots in
    omega (arith, s, w, n, k, c.min-3.ensures, c.min-most_slots.ensures)

pub returns : goal.returns
returns g c =
    let laws = g.K.Kind.laws in
    let words = g.V.Vocabulary.words in
    let ranges = g.V.Vocabulary.ranges in
    let line = c.args.line.now in
    let r = c.read_with-read.result in
    let P : ℕ = c.min-most_places.result in
    let S : ℕ = c.min-most_slots.result in
    let drafts = c.args.drafts.now in
    let named = c.slot_drafts-named.result in
    let oldp = c.args.places.now in
    let olds = c.args.slots.now in
    let midp = c.read_with-read.new.places in
    let mids = c.read_with-read.new.slots in
    let newp = c.blank_past.new.records in
    let news = c.blank_past-2.new.records in
    let pl : ℕ = room 1000 (length oldp) (min (length c.args.work_places.now) (length drafts)) in
    let sl : ℕ = room 4000 (length olds) (length c.args.work_slots.now) in
    let ep : length (take P drafts) ≡ pl = omega (arith, length-take P drafts, c.min.ensures, c.min-2.ensures, c.min-most_places.ensures) in
    let es : length (take S named) ≡ sl = omega (arith, length-take S named, c.slot_drafts-named.ensures, c.min-3.ensures, c.min-most_slots.ensures) in
    let h : ReadAs laws (read_place words ranges (length (take P drafts)) (length (take S named)) line) r midp mids = c.read_with-read.ensures.answer in
    let h₂ : ReadAs laws (read_place words ranges pl sl line) r midp mids =
    subst (λ n. ReadAs laws (read_place words ranges n sl line) r midp mids) ep (subst (λ m. ReadAs laws (read_place words ranges (length (take P drafts)) m line) r midp mids) es h) in
    let kp : length midp ≡ length oldp = c.read_with-read.auto.places in
    let ks : length mids ≡ length olds = c.read_with-read.auto.slots in
    let fewp : places_read r ≤ min 1000 (length midp) = omega (arith, ep, kp, c.read_with-read.ensures.within.0) in
    let fews : slots_read r ≤ min 4000 (length mids) = omega (arith, es, ks, c.read_with-read.ensures.within.1) in
    let clp = cleared_at 1000 c.counts_read-counts.result.places (places_read r) c.no_place.result (blank_place laws) midp newp c.counts_read-counts.ensures.places c.no_place.ensures c.blank_past.ensures in
    let cls = cleared_at 4000 c.counts_read-counts.result.slots (slots_read r) c.no_slot.result blank_slot mids news c.counts_read-counts.ensures.slots c.no_slot.ensures c.blank_past-2.ensures in
    let last = c.read_with-read.new.draft_places in
    let midd = last ++ drop P drafts in
    let ld : length last ≡ P = c.read_with-read.auto.draft_places ∙ ep ∙ omega (arith, c.min.ensures, c.min-2.ensures, c.min-most_places.ensures) in
    record {
      answer = read_moved laws words ranges pl sl line (read_place words ranges pl sl line) r midp newp mids news
          (same_front (blank_place laws) 1000 (places_read r) oldp midp newp kp fewp clp) (same_front blank_slot 4000 (slots_read r) olds mids news ks fews cls)
          c.blank_past.auto.records c.blank_past-2.auto.records h₂;
      places = read_into (blank_place laws) 1000 (places_read r) oldp midp newp kp fewp clp c.read_with-read.ensures.places;
      slots = read_into blank_slot 4000 (slots_read r) olds mids news ks fews cls c.read_with-read.ensures.slots;
      work_places = worked_blank (blank_place laws) 1000 c.args.work_places.now c.read_with-read.new.work_places c.blank_past-3.new.records c.read_with-read.auto.work_places c.read_with-read.ensures.work_places
          (cleared_at 1000 0 0 c.no_place-2.result (blank_place laws) c.read_with-read.new.work_places c.blank_past-3.new.records refl c.no_place-2.ensures c.blank_past-3.ensures);
      work_slots = worked_blank blank_slot 4000 c.args.work_slots.now c.read_with-read.new.work_slots c.blank_past-4.new.records c.read_with-read.auto.work_slots c.read_with-read.ensures.work_slots
          (cleared_at 4000 0 0 c.no_slot-2.result blank_slot c.read_with-read.new.work_slots c.blank_past-4.new.records refl c.no_slot-2.ensures c.blank_past-4.ensures);
      drafts = worked_blank (blank_draft g.K.Kind.top) 1000 drafts midd c.blank_past-5.new.records (omega (arith, length-append last (drop P drafts), length-drop P drafts, ld, c.min.ensures, c.min-2.ensures, c.min-most_places.ensures))
          (drop-append-drop P drafts last 1000 (omega (arith, c.min-most_places.ensures)) ld)
          (cleared_at 1000 0 0 c.no_draft.result (blank_draft g.K.Kind.top) midd c.blank_past-5.new.records refl c.no_draft.ensures c.blank_past-5.ensures);
    }
