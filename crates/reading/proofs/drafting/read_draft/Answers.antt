use Rattle.std.proofs.Common.{◌∙◌, arith, length-take}
use Rattle.reading.proofs.Fronts.{came_front, within_front}
use Rattle.reading.proofs.Lines.{same_room}
use Rattle.reading.proofs.drafting.read_draft.Goals as goal

pub returns : goal.returns
returns g c = record {
  is =
      came_front _ _ _ _ c.read_within.result c.read_within.ensures.within ∙ c.read_within.ensures.is ∙
      same_room g.V.Vocabulary.words g.V.Vocabulary.ranges _ _ _ _ _
      (omega (arith, length-take c.min-most_places.result c.args.places.now, c.min-most_places.ensures))
      (omega (arith, length-take c.min-most_slots.result c.args.slots.now, c.min-most_slots.ensures));
  within = within_front _ _ _ _ c.read_within.result c.read_within.ensures.within;
}
