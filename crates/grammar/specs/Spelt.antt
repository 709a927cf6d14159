-- Which tokens are those of a place, and which can be continued to one.
use Rattle.std.specs.Prelude.{◌≡◌, List, [], ◌++◌}
use Rattle.tokens.specs.Tokens.{Tok}
use Rattle.grammar.specs.Terms.{Term, spell}

-- xs are the tokens of a place
abbrev pub Spelt : List Tok → Type 0
Spelt xs = (t : Term) × (xs ≡ spell t [])

-- xs can be continued to a place
abbrev pub Opens : List Tok → Type 0
Opens xs = (more : List Tok) × Spelt (xs ++ more)
