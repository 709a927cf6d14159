use Rattle.restating.proofs.Back.{reads_back}
use Rattle.restating.proofs.OneSheet.{one_sheet}
use Rattle.restating.proofs.reading_back_laws.Goals as goal

pub returns : goal.returns
returns g c = record { back = reads_back g.K.Kind.laws g.V.Vocabulary.laws; one = one_sheet g.K.Kind.laws }
