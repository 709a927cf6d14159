-- The rules that a token of a form can break, by what it stands for, and those that the end of the line can break.
use Rattle.std.specs.Prelude.{◌≡◌, ℕ, true, cond, not, List, [], ◌∷◌, length, ℤ, None, Option, nat_lt}
use Rattle.tokens.specs.Tokens.{Tok}
use Rattle.reading.specs.declared.form.Verb.TheVariants.{Add, Tie, Narrow, Mark, Keep, Back, Clear, Show}
use Rattle.reading.specs.declared.form.Stage.{Stage}
use Rattle.reading.specs.declared.form.Stage.TheVariants as stage
use Rattle.reading.specs.Steps.{on_mark, on_word, on_some}
use Rattle.reading.specs.Forms.{verb, Formed, FormStep, goes, refused, on_done, form_step, form_end}
use Rattle.grammar.specs.Rules as places
use Rattle.grammar.specs.Rules.{Role, kind_role, role_of, Rule, rule}

-- ---- what a token stands for

pub data FormRole : Type 0 where
  plain : FormRole  -- a round bracket of the form or of a path, the word of one of the eight forms
  path_name : List ℕ → List ℕ → FormRole  -- NAME of a PATH, after the numbers of the names before it
  of_place : Role → FormRole  -- a token of an add's PLACE, by what it stands for there
  of_kind : Role → FormRole  -- a token of a narrow's KIND, by what it stands for there
  stray : FormRole  -- the grammar does not allow it

module _ {K : Type 0} where
  abbrev pub form_role_in : Stage → Formed K → Tok → FormRole
  form_role_in stage.Begin f x = on_mark 40 x plain stray
  form_role_in stage.Opened f x = on_word x (λ w. on_some (verb w) (λ v. plain) stray) stray
  form_role_in (stage.Path v) f x = on_mark 40 x plain stray
  form_role_in (stage.InPath v) f x = on_word x (path_name f.first) (on_mark 41 x plain stray)
  form_role_in stage.SecondPath f x = on_mark 40 x plain stray
  form_role_in stage.InSecondPath f x = on_word x (path_name f.second) (on_mark 41 x plain stray)
  form_role_in stage.Place f x = on_done f.draft.mode (on_mark 41 x plain stray) (of_place (role_of f.draft.mode x))
  form_role_in stage.Kind f x = of_kind (kind_role None x)
  form_role_in stage.Range f x = of_kind (role_of f.draft.mode x)
  form_role_in (stage.Close v) f x = on_mark 41 x plain stray
  form_role_in (stage.Closed v) f x = stray

  -- by how far the form has been read
  abbrev pub form_role : Formed K → Tok → FormRole
  form_role f x = form_role_in f.stage f x

  -- ---- the rules

  -- the line ends at byte b: the form has ended, and every tag that an add refers to is described
  abbrev pub form_end_rules : Stage → Formed K → ℕ → List Rule
  form_end_rules stage.Begin f b = rule 20 b true ∷ []
  form_end_rules stage.Opened f b = rule 20 b true ∷ []
  form_end_rules (stage.Path v) f b = rule 20 b true ∷ []
  form_end_rules (stage.InPath v) f b = rule 20 b true ∷ []
  form_end_rules stage.SecondPath f b = rule 20 b true ∷ []
  form_end_rules stage.InSecondPath f b = rule 20 b true ∷ []
  form_end_rules stage.Place f b = rule 20 b true ∷ []
  form_end_rules stage.Kind f b = rule 20 b true ∷ []
  form_end_rules stage.Range f b = rule 20 b true ∷ []
  form_end_rules (stage.Close v) f b = rule 20 b true ∷ []
  form_end_rules (stage.Closed Add) f b = places.end_rules f.draft.mode f.draft b
  form_end_rules (stage.Closed Tie) f b = []
  form_end_rules (stage.Closed Narrow) f b = []
  form_end_rules (stage.Closed Mark) f b = []
  form_end_rules (stage.Closed Keep) f b = []
  form_end_rules (stage.Closed Back) f b = []
  form_end_rules (stage.Closed Clear) f b = []
  form_end_rules (stage.Closed Show) f b = []

  module _ (words : List ℕ → Option K) (ranges : ℤ → ℤ → Option K) where
    -- the rules of a token of the line from byte b up to j, after what f has; pl and sl are the most places and slots of an add's
    -- sheet. The kind of a narrow is held against an empty draft with room for one place, so that 28 is not broken there
    abbrev pub form_rules : ℕ → ℕ → List ℕ → Formed K → ℕ → ℕ → FormRole → List Rule
    form_rules pl sl line f b j plain = []
    form_rules pl sl line f b j (path_name path w) = rule 23 b (nat_lt 12 (length w)) ∷ rule 29 b (not (nat_lt (length path) 16)) ∷ []
    form_rules pl sl line f b j (of_place r) = places.rules words ranges pl sl line f.draft b j r
    form_rules pl sl line f b j (of_kind r) = places.rules words ranges 1 0 line f.draft b j r
    form_rules pl sl line f b j stray = rule 20 b true ∷ []

-- ---- the reader goes by the rules

module _ {K : Type 0} where
  -- the first rule that is broken is answered; where none is, that is s
  abbrev pub first : List Rule → FormStep K → FormStep K
  first [] s = s
  first (r ∷ rs) s = cond r.broken (refused r.answer r.byte) (first rs s)

  abbrev pub Taken : FormStep K → Type 0
  Taken (goes f) = Unit {0}
  Taken (refused n c) = ⊥

-- the answer to a token is the first of its rules that is broken; where none is, the token is taken
abbrev pub ByRules : Type 0 → Type 0
ByRules K = (words : List ℕ → Option K) (ranges : ℤ → ℤ → Option K) (pl sl : ℕ) (line : List ℕ) (f : Formed K) (x : Tok) (b j : ℕ) → (s : FormStep K) × (Taken s × (form_step words ranges pl sl line f x b j ≡ first (form_rules words ranges pl sl line f b j (form_role f x)) s))

-- and so it is with the end of the line
abbrev pub EndByRules : Type 0 → Type 0
EndByRules K = (f : Formed K) (b : ℕ) → (s : FormStep K) × (Taken s × (form_end f.stage f b ≡ first (form_end_rules f.stage f b) s))
