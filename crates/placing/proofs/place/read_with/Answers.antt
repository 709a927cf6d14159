use Rattle.std.proofs.Common.{◌≤◌, length, take, ◌∙◌, arith, length-take}
use Rattle.reading.proofs.Lines.{same_room}
use Rattle.placing.proofs.Answering.{draft_sound, read_sheet}
use Rattle.placing.proofs.place.read_with.Goals as goal

pub write_sheet-requires : goal.write_sheet-requires
write_sheet-requires g c =
    let dps = c.read_draft.new.places in
    let dss = c.read_draft.new.slots in
    let p : length (take c.in_ok-cursor.cursor.places dps) ≤ length c.args.draft_places.now = omega (arith, length-take c.in_ok-cursor.cursor.places dps, c.read_draft.auto.places) in
    let s : length (take c.in_ok-cursor.cursor.slots dss) ≤ length c.args.draft_slots.now = omega (arith, length-take c.in_ok-cursor.cursor.slots dss, c.read_draft.auto.slots) in
    record {
      sound = draft_sound g.K.Kind.laws g.V.Vocabulary.words g.V.Vocabulary.ranges (length c.args.draft_places.now) (length c.args.draft_slots.now) c.args.line.now c.in_ok-cursor.cursor dps dss (c.in_ok-cursor.ensures.is ∙ same_room g.V.Vocabulary.words g.V.Vocabulary.ranges _ _ _ _ _ (omega (arith, c.requires.places)) (omega (arith, c.requires.slots)));
      places = (omega (arith, p, c.requires.places), (omega (arith, p, c.requires.places), omega (arith, p, c.requires.places)));
      slots = (omega (arith, s, c.requires.slots), (omega (arith, s, c.requires.slots), omega (arith, s, c.requires.slots)));
    }

pub returns-clause-answer : goal.returns-clause-answer
returns-clause-answer g c =
    let dps = c.read_draft.new.places in
    let dss = c.read_draft.new.slots in
    read_sheet g.K.Kind.laws g.V.Vocabulary.words g.V.Vocabulary.ranges (length c.args.draft_places.now) (length c.args.draft_slots.now) c.args.line.now c.in_ok-cursor.cursor dps dss (c.in_ok-cursor.ensures.is ∙ same_room g.V.Vocabulary.words g.V.Vocabulary.ranges _ _ _ _ _ (omega (arith, c.requires.places)) (omega (arith, c.requires.slots)))
    c.write_sheet.result c.write_sheet.new.places c.write_sheet.new.slots c.write_sheet.ensures.sheet
