use Rattle.std.proofs.Common.{◌≡◌, rules}
use Rattle.vocabulary.specs.Texts as written
use Rattle.vocabulary.specs.Alone.{catalogue_words}
use Rattle.vocabulary.specs.Orders.{order_words}
use Rattle.vocabulary.proofs.Owning.{kind_of}
use Rattle.vocabulary.proofs.orders.OrdersVocabularyEitherCatalogueRange.word.Goals as goal

pub returns-clause-own : goal.returns-clause-own
unfolding order_words catalogue_words
returns-clause-own c =
    let e : c.map.result ≡ order_words c.args.word.now = search rules in
    kind_of (written.word c.args.word.now) c.map.result e
