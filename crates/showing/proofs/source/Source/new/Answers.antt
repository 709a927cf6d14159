use Rattle.showing.proofs.Tagging.{targets_low}
use Rattle.showing.proofs.source.Source.new.Goals as goal

pub count_leading-leading-requires : goal.count_leading-leading-requires
count_leading-leading-requires g c = (c.requires.few_slots, targets_low c.requires)
