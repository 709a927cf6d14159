-- The vocabularies of the catalogue alone and of ranges alone.
use Rattle.std.specs.Prelude.{ℕ, cond, List, ℤ, Some, None, codes, Option}
use Rattle.std.specs.List.{find}
use Rattle.std.specs.Result.{result_ok}
use Rattle.std.specs.Str.{bytes_eq}
use Rattle.kinds.specs.declared.catalogue.Catalogue.{Catalogue}
use Rattle.kinds.specs.declared.catalogue.Catalogue.TheVariants.{Thing}
use Rattle.kinds.specs.Catalogue as catalogue
use Rattle.ranges.specs.declared.range.Range.{Range}
use Rattle.ranges.specs.Ranges.{made, widest}
use Rattle.vocabulary.specs.Texts.{Text, word, range}

-- the kind of the list that has this word, and none where no kind of it has
unfoldable pub named : List ℕ → List Catalogue → Option Catalogue
named w ks = find (λ k. bytes_eq w (catalogue.word k)) ks

-- the catalogue alone: `any` is its greatest kind, its sixteen words are its kinds, and no other word is a kind
unfoldable pub catalogue_words : List ℕ → Option Catalogue
catalogue_words w = cond (bytes_eq w (codes "any")) (Some Thing) (named w catalogue.listed)

-- no range is a kind of the catalogue
abbrev pub catalogue_ranges : ℤ → ℤ → Option Catalogue
catalogue_ranges low high = None

-- the text of each kind is its word
abbrev pub catalogue_texts : Catalogue → Text
catalogue_texts k = word (catalogue.word k)

-- ranges alone: `any` is the greatest range, and no other word is a kind
unfoldable pub range_words : List ℕ → Option Range
range_words w = cond (bytes_eq w (codes "any")) (Some widest) None

-- a range whose low end is not above its high end is a kind, and no other is
abbrev pub range_ranges : ℤ → ℤ → Option Range
range_ranges low high = result_ok (made low high)

-- the text of each range is its ends
abbrev pub range_texts : Range → Text
range_texts r = range r.low r.high
