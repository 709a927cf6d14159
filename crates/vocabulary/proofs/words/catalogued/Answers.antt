use Rattle.std.proofs.Common.{◌≡◌, sym, ap, ◌∙◌, rules, tests}
use Rattle.std.specs.Str.{bytes_eq}
use Rattle.std.specs.Array.Iter.{array_steps, array_into_iter_items}
use Rattle.std.proofs.lemmas.Iterator.Adapters.{option_map_id}
use Rattle.std.proofs.lemmas.Iterator.Consumers.{YieldsList-from_shown}
use Rattle.std.proofs.lemmas.Iterator.Search.{find_from_yields_List}
use Rattle.kinds.specs.Catalogue as catalogue
use Rattle.vocabulary.specs.Alone.{named}
use Rattle.vocabulary.proofs.words.catalogued.Goals as goal

pub returns : goal.returns
unfolding named
returns c =
    let items : array_into_iter_items c.into_iter.result ≡ c.all.result = c.into_iter.ensures.into_iter_gives.0 in
    sym (option_map_id c.find.result)
    ∙ find_from_yields_List (λ k. bytes_eq c.args.word.now (catalogue.word k)) _ _ _ c.find.ensures.ran
    (YieldsList-from_shown array_steps (λ x. x) array_into_iter_items (λ t u h. h.0) (λ t x u h. h) _)
    (λ x b q k. search (rules, tests))
    ∙ ap (named c.args.word.now) (items ∙ c.all.ensures)
