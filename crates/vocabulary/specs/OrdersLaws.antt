-- The laws of the vocabulary of orders, shown. (A proof, and nothing that a reader has to believe: it stands here because the
-- trait takes it as a ghost member.) That each of the sixteen words reads as its kind is one test that antt computes over the
-- catalogue.
use Rattle.std.specs.Prelude.{◌≡◌, Bool, false, T, Some, None, codes, Option, ◌==◌, refl}
use Rattle.std.proofs.Common.{ap}
use Rattle.std.specs.Option.{option_map}
use Rattle.kinds.specs.declared.catalogue.Catalogue.{Catalogue}
use Rattle.kinds.specs.Catalogue as catalogue
use Rattle.kinds.specs.CatalogueLaws.{all_kinds, by_index}
use Rattle.ranges.specs.declared.range.Range.{Range}
use Rattle.either_kind.specs.declared.either.Either.{Either}
use Rattle.either_kind.specs.declared.either.Either.TheVariants.{Any, First, Second}
use Rattle.vocabulary.specs.Texts.{Writable, reading, VocabularyLaws}
use Rattle.vocabulary.specs.Alone.{named}
use Rattle.vocabulary.specs.AloneLaws.{word_of, catalogue_word, range_ends, range_laws}
use Rattle.vocabulary.specs.Orders.{order_words, order_ranges, order_texts}

abbrev reads_as : Option (Either Catalogue Range) → Catalogue → Bool
reads_as None k = false
reads_as (Some Any) k = false
reads_as (Some (First j)) k = catalogue.index j == catalogue.index k
reads_as (Some (Second r)) k = false

read_of : (o : Option (Either Catalogue Range)) (k : Catalogue) → T (reads_as o k) → o ≡ Some (First k)
read_of None k t = absurd t
read_of (Some Any) k t = absurd t
read_of (Some (First j)) k t = ap (λ x. Some (First x)) (by_index j k t)
read_of (Some (Second r)) k t = absurd t

orders_writable : (k : Either Catalogue Range) → Writable (order_texts k)
orders_writable Any = word_of (codes "any") refl
orders_writable (First k) = catalogue_word k
orders_writable (Second r) = range_ends r

orders_reads : (k : Either Catalogue Range) → reading order_words order_ranges (order_texts k) ≡ Some k
unfolding order_words named
orders_reads Any = refl
orders_reads (First k) = read_of (order_words (catalogue.word k)) k (all_kinds (λ x. reads_as (order_words (catalogue.word x)) x) tt k)
orders_reads (Second r) = ap (option_map Second) (range_laws.reads r)

pub orders_laws : VocabularyLaws order_words order_ranges order_texts
orders_laws = record { writable = orders_writable; reads = orders_reads }
