use Rattle.std.proofs.Common.{ap, ◌∙◌, w32, SFits}
use Rattle.std.proofs.lemmas.Int.{to_z-of_z}
use Rattle.std.specs.Result.{result_ok}
use Rattle.vocabulary.proofs.alone.RangesAloneVocabularyRange.range.Goals as goal

pub returns : goal.returns
returns c =
    let a : SFits w32 c.args.low = c.ranges.low in
    let b : SFits w32 c.args.high = c.ranges.high in
    c.ok.ensures.value ∙ ap result_ok (simp to_z-of_z at c.new.ensures)
