use Rattle.std.proofs.Common.{◌≡◌, rules, tests}
use Rattle.std.specs.List.{find}
use Rattle.std.specs.Option.{option_copied}
use Rattle.std.specs.Str.{bytes_eq}
use Rattle.std.proofs.lemmas.Iterator.{YieldsList-from_slice}
use Rattle.std.proofs.lemmas.Iterator.Search.{find_from_yields_List}
use Rattle.reading.specs.Forming.{word_of}
use Rattle.reading.proofs.forming.verbs.first_of.Goals as goal

pub returns : goal.returns
returns c =
    let is : option_copied c.find.result ≡ find (λ v. bytes_eq c.args.word.now (word_of v)) c.args.verbs.now =
    find_from_yields_List (λ v. bytes_eq c.args.word.now (word_of v)) _ _ c.find.result c.find.ensures.ran (YieldsList-from_slice c.args.verbs.now cc) (λ x b q k. search (rules, tests)) in
    search (rules, is)
