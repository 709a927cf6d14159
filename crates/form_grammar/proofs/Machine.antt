-- Reading the tokens of a form from left to right; its place is read by the machine for places.
use Rattle.std.proofs.Common.{ℕ, List, [], ◌∷◌, ◌++◌, ℤ, Some, None, Option}
use Rattle.tokens.specs.Tokens.{Tok}
use Rattle.reading.specs.declared.form.Verb.{Verb}
use Rattle.reading.specs.declared.form.Verb.TheVariants.{Add, Tie, Narrow, Mark, Keep, Back, Clear, Show}
use Rattle.reading.specs.Steps.{on_mark, on_word, on_number}
use Rattle.reading.specs.Forms as forms
use Rattle.grammar.specs.Terms.{named, range}
use Rattle.grammar.proofs.Machine as gram
use Rattle.form_grammar.specs.FormTerms.{FormTerm, add, tie, narrow, mark, keep, back, clear, show}

-- the forms that have a path
pub data Asks : Type 0 where
  to_add : Asks
  to_tie : Asks
  to_narrow : Asks

-- what was read last of a narrow's kind
pub data KindMode : Type 0 where
  unread : KindMode
  low : KindMode
  dotted : ℤ → KindMode
  high : ℤ → KindMode
  ranged : ℤ → ℤ → KindMode

pub data State : Type 0 where
  begin : State
  opened : State
  path : Asks → State
  in_path : Asks → List (List ℕ) → State
  second : List (List ℕ) → State
  in_second : List (List ℕ) → List (List ℕ) → State
  in_place : List (List ℕ) → gram.State → State
  in_kind : List (List ℕ) → KindMode → State
  close : FormTerm → State
  closed : FormTerm → State

abbrev pub after_verb : Verb → State
after_verb Add = path to_add
after_verb Tie = path to_tie
after_verb Narrow = path to_narrow
after_verb Mark = close mark
after_verb Keep = close keep
after_verb Back = close back
after_verb Clear = close clear
after_verb Show = close show

abbrev pub after_word : Option Verb → Option State
after_word None = None
after_word (Some v) = Some (after_verb v)

abbrev pub after_path : Asks → List (List ℕ) → State
after_path to_add p = in_place p (gram.going gram.empty gram.place)
after_path to_tie p = second p
after_path to_narrow p = in_kind p unread

abbrev pub placed : List (List ℕ) → Option gram.State → Option State
placed p None = None
placed p (Some s) = Some (in_place p s)

abbrev pub place_step : List (List ℕ) → gram.State → Tok → Option State
place_step p (gram.going S m) x = placed p (gram.step_in S m x)
place_step p (gram.done t) x = on_mark 41 x (Some (closed (add p t))) None

abbrev pub kind_step : List (List ℕ) → KindMode → Tok → Option State
kind_step p unread x = on_word x (λ w. Some (close (narrow p (named w)))) (on_mark 91 x (Some (in_kind p low)) None)
kind_step p low x = on_number x (λ a. Some (in_kind p (dotted a))) None
kind_step p (dotted a) x = on_mark 46 x (Some (in_kind p (high a))) None
kind_step p (high a) x = on_number x (λ h. Some (in_kind p (ranged a h))) None
kind_step p (ranged a h) x = on_mark 93 x (Some (close (narrow p (range a h)))) None

-- what the token leads to; none is a refusal
abbrev pub step : State → Tok → Option State
step begin x = on_mark 40 x (Some opened) None
step opened x = on_word x (λ w. after_word (forms.verb w)) None
step (path v) x = on_mark 40 x (Some (in_path v [])) None
step (in_path v ws) x = on_word x (λ w. Some (in_path v (ws ++ (w ∷ [])))) (on_mark 41 x (Some (after_path v ws)) None)
step (second p) x = on_mark 40 x (Some (in_second p [])) None
step (in_second p ws) x = on_word x (λ w. Some (in_second p (ws ++ (w ∷ [])))) (on_mark 41 x (Some (close (tie p ws))) None)
step (in_place p s) x = place_step p s x
step (in_kind p m) x = kind_step p m x
step (close t) x = on_mark 41 x (Some (closed t)) None
step (closed t) x = None

abbrev pub ended : State → Option FormTerm
ended begin = None
ended opened = None
ended (path v) = None
ended (in_path v ws) = None
ended (second p) = None
ended (in_second p ws) = None
ended (in_place p s) = None
ended (in_kind p m) = None
ended (close t) = None
ended (closed t) = Some t

abbrev pub onward : Option State → (State → Option FormTerm) → Option FormTerm
onward None f = None
onward (Some s) f = f s

abbrev pub run : State → List Tok → Option FormTerm
run s [] = ended s
run s (x ∷ xs) = onward (step s x) (λ s₂. run s₂ xs)

abbrev pub read : List Tok → Option FormTerm
read xs = run begin xs
