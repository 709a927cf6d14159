use Rattle.showing.proofs.Stepping.{open_few, slot_target, slot_name, slot_room, since_ended, since_slot, falls_slot}
use Rattle.showing.proofs.source.Source.step.Goals as goal

pub next_slot-requires : goal.next_slot-requires
next_slot-requires g c = (c.requires.some, open_few g.V.Vocabulary.texts c.args.self.now c.args.progress.now c.requires.begun)

pub put_slot-requires : goal.put_slot-requires
put_slot-requires g c =
    let texts = g.V.Vocabulary.texts in
    let source = c.args.self.now in
    let w = c.args.progress.now in
    let u = c.next_slot.new.progress in
    record {
      within = slot_target texts source w u c.in-Some.slot c.requires.begun c.in-Some.ensures;
      named = slot_name texts source w u c.in-Some.slot c.requires.begun c.in-Some.ensures;
      room = slot_room texts source w u c.in-Some.slot c.requires.begun c.in-Some.ensures;
    }

pub returns-in-Some : goal.returns-in-Some
returns-in-Some g c =
    let texts = g.V.Vocabulary.texts in
    let source = c.args.self.now in
    let w = c.args.progress.now in
    let u = c.next_slot.new.progress in
    let v = c.put_slot.new.progress in
    record {
      since = since_slot texts source w u v c.in-Some.slot c.args.output.now c.put_slot.new.output c.requires.begun c.in-Some.ensures c.put_slot.ensures;
      falls = falls_slot texts source w u v c.in-Some.slot c.args.output.now c.put_slot.new.output c.requires.begun c.in-Some.ensures c.put_slot.ensures;
    }

pub returns-in-None-clause-since : goal.returns-in-None-clause-since
returns-in-None-clause-since g c = since_ended g.V.Vocabulary.texts c.args.self.now c.args.progress.now c.next_slot.new.progress c.args.output.now c.put.new.self c.in-None.ensures c.put.ensures
