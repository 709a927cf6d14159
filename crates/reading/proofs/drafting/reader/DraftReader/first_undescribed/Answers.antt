use Rattle.std.proofs.Common.{◌∙◌}
use Rattle.reading.specs.Readers.{read}
use Rattle.reading.proofs.Marking.{unmarked_same}
use Rattle.reading.proofs.drafting.reader.DraftReader.first_undescribed.Goals as goal

pub returns : goal.returns
returns g c = c.first_undescribed.ensures ∙ unmarked_same (read c.args.self.now).places c.args.self.now.look.described (read c.args.self.now).slots c.args.self.now.held.looks.tags
