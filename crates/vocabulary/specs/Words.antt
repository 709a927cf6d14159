-- What the code's text of a kind stands for.
use Rattle.vocabulary.specs.declared.vocabulary.KindText.{KindText}
use Rattle.vocabulary.specs.declared.vocabulary.KindText.TheVariants.{Word, Range}
use Rattle.vocabulary.specs.Texts.{Text, word, range}

abbrev pub meant : KindText → Text
meant (Word w) = word w.now
meant (Range low high) = range low high
