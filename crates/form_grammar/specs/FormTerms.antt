-- What a text of one form asks, and how it is spelt in tokens.
use Rattle.std.specs.Prelude.{ℕ, List, [], ◌∷◌, codes}
use Rattle.tokens.specs.Tokens.{Tok, mark as sign, word}
use Rattle.reading.specs.declared.form.Verb.{Verb}
use Rattle.reading.specs.declared.form.Verb.TheVariants.{Add, Tie, Narrow, Mark, Keep, Back, Clear, Show}
use Rattle.grammar.specs.Terms.{Kind, Term, spell_kind, spell}

-- FORM: a PATH is the list of its names
pub data FormTerm : Type 0 where
  add : List (List ℕ) → Term → FormTerm
  tie : List (List ℕ) → List (List ℕ) → FormTerm
  narrow : List (List ℕ) → Kind → FormTerm
  mark : FormTerm
  keep : FormTerm
  back : FormTerm
  clear : FormTerm
  show : FormTerm

-- the parts of a form: its verb, and its paths, empty where it has none
abbrev pub verb_of : FormTerm → Verb
verb_of (add p t) = Add
verb_of (tie p q) = Tie
verb_of (narrow p k) = Narrow
verb_of mark = Mark
verb_of keep = Keep
verb_of back = Back
verb_of clear = Clear
verb_of show = Show

abbrev pub first_path : FormTerm → List (List ℕ)
first_path (add p t) = p
first_path (tie p q) = p
first_path (narrow p k) = p
first_path mark = []
first_path keep = []
first_path back = []
first_path clear = []
first_path show = []

abbrev pub second_path : FormTerm → List (List ℕ)
second_path (add p t) = []
second_path (tie p q) = q
second_path (narrow p k) = []
second_path mark = []
second_path keep = []
second_path back = []
second_path clear = []
second_path show = []

-- each is spelt in front of the tokens that follow it: ( is 40 and ) is 41
abbrev pub spell_verb : Verb → List ℕ
spell_verb Add = codes "add"
spell_verb Tie = codes "tie"
spell_verb Narrow = codes "narrow"
spell_verb Mark = codes "mark"
spell_verb Keep = codes "keep"
spell_verb Back = codes "back"
spell_verb Clear = codes "clear"
spell_verb Show = codes "show"

abbrev pub spell_names : List (List ℕ) → List Tok → List Tok
spell_names [] rest = rest
spell_names (w ∷ ws) rest = word w ∷ spell_names ws rest

abbrev pub spell_path : List (List ℕ) → List Tok → List Tok
spell_path p rest = sign 40 ∷ spell_names p (sign 41 ∷ rest)

-- what stands after the verb
abbrev pub spell_parts : FormTerm → List Tok → List Tok
spell_parts (add p t) rest = spell_path p (spell t rest)
spell_parts (tie p q) rest = spell_path p (spell_path q rest)
spell_parts (narrow p k) rest = spell_path p (spell_kind k rest)
spell_parts mark rest = rest
spell_parts keep rest = rest
spell_parts back rest = rest
spell_parts clear rest = rest
spell_parts show rest = rest

abbrev pub spell_form : FormTerm → List Tok → List Tok
spell_form f rest = sign 40 ∷ word (spell_verb (verb_of f)) ∷ spell_parts f (sign 41 ∷ rest)
