-- The vocabulary of orders: the words of the catalogue and the ranges of numbers, under the greatest kind `any`.
use Rattle.std.specs.Prelude.{◌≡◌, ℕ, cond, List, ℤ, Some, None, codes, Option, ◌≢◌}
use Rattle.std.specs.Option.{option_map}
use Rattle.std.specs.Result.{result_ok}
use Rattle.std.specs.Str.{bytes_eq}
use Rattle.kinds.specs.declared.catalogue.Catalogue.{Catalogue}
use Rattle.kinds.specs.Catalogue as catalogue
use Rattle.ranges.specs.declared.range.Range.{Range}
use Rattle.ranges.specs.Ranges.{made}
use Rattle.either_kind.specs.declared.either.Either.{Either}
use Rattle.either_kind.specs.declared.either.Either.TheVariants.{Any, First, Second}
use Rattle.vocabulary.specs.Texts.{Text, word, range}
use Rattle.vocabulary.specs.Alone.{named}

-- `any` is the greatest kind, and the sixteen words of the catalogue are its kinds; no other word is a kind
unfoldable pub order_words : List ℕ → Option (Either Catalogue Range)
order_words w = cond (bytes_eq w (codes "any")) (Some Any) (option_map First (named w catalogue.listed))

-- a range whose low end is not above its high end is a kind, and no other is
abbrev pub order_ranges : ℤ → ℤ → Option (Either Catalogue Range)
order_ranges low high = option_map Second (result_ok (made low high))

-- the text of each kind: `any`, the kind's word, or the ends of the range
abbrev pub order_texts : Either Catalogue Range → Text
order_texts Any = word (codes "any")
order_texts (First k) = word (catalogue.word k)
order_texts (Second r) = range r.low r.high

-- what is answered for a text: the kind that is written so, and none where no kind is
abbrev pub KindOf : Text → Option (Either Catalogue Range) → Type 0
KindOf t (Some k) = order_texts k ≡ t
KindOf t None = (k : Either Catalogue Range) → order_texts k ≢ t
