use Rattle.std.proofs.Common.{◌≡◌, ap, ◌∙◌, w32, SFits}
use Rattle.std.specs.Option.{option_map}
use Rattle.std.proofs.lemmas.Int.{to_z-of_z}
use Rattle.either_kind.specs.declared.either.Either.TheVariants.{Second}
use Rattle.vocabulary.specs.Alone.{range_ranges}
use Rattle.vocabulary.proofs.Mapping.{mapped}
use Rattle.vocabulary.proofs.orders.OrdersVocabularyEitherCatalogueRange.range.Goals as goal

pub returns-clause-value : goal.returns-clause-value
returns-clause-value c =
    let a : SFits w32 c.args.low = c.ranges.low in
    let b : SFits w32 c.args.high = c.ranges.high in
    let e : c.range.result ≡ range_ranges c.args.low c.args.high = simp to_z-of_z at c.range.ensures in
    mapped Second c.range.result c.map.result c.map.ensures.cases ∙ ap (option_map Second) e
