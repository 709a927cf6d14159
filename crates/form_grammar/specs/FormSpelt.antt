-- Which tokens are those of a form, and which can be continued to one.
use Rattle.std.specs.Prelude.{◌≡◌, List, [], ◌++◌}
use Rattle.tokens.specs.Tokens.{Tok}
use Rattle.form_grammar.specs.FormTerms.{FormTerm, spell_form}

-- xs are the tokens of a form
abbrev pub Spelt : List Tok → Type 0
Spelt xs = (t : FormTerm) × (xs ≡ spell_form t [])

-- xs can be continued to a form
abbrev pub Opens : List Tok → Type 0
Opens xs = (more : List Tok) × Spelt (xs ++ more)
