-- What one token does to a form, and what a line of one form reads as: a form with its parts, or a refusal with its number and byte.
use Rattle.std.specs.Prelude.{ℕ, zero, suc, cond, List, [], ◌∷◌, ◌++◌, length, ℤ, Some, None, codes, Option, nat_lt}
use Rattle.std.specs.Str.{bytes_eq}
use Rattle.names.specs.Names as names
use Rattle.tokens.specs.Tokens.{Tok, next_token}
use Rattle.reading.specs.declared.draft.Mode.{Mode}
use Rattle.reading.specs.declared.draft.Mode.TheVariants.{Begin, Opened, Hashed, Tagged, Low, Dotted, High, Ranged, Inside, Done}
use Rattle.reading.specs.declared.form.Verb.{Verb}
use Rattle.reading.specs.declared.form.Verb.TheVariants.{Add, Tie, Narrow, Mark, Keep, Back, Clear, Show}
use Rattle.reading.specs.declared.form.Stage.{Stage}
use Rattle.reading.specs.declared.form.Stage.TheVariants as stage
use Rattle.reading.specs.Drafts.{Draft, nothing}
use Rattle.reading.specs.Steps.{Step, go, fault, on_mark, on_word, on_some, on_next, kind_first, step_in, end_in}

-- ---- the words of forms

-- the first of these words that w is, with what stands beside it
abbrev pub lookup : {X : Type 0} → List ℕ → List (List ℕ × X) → Option X
lookup w [] = None
lookup w (x ∷ xs) = cond (bytes_eq w x.0) (Some x.1) (lookup w xs)

-- the form that begins with this word
abbrev pub verb : List ℕ → Option Verb
verb w =
    lookup w
    ((codes "add", Add) ∷ (codes "tie", Tie) ∷ (codes "narrow", Narrow) ∷ (codes "mark", Mark) ∷ (codes "keep", Keep) ∷ (codes "back", Back) ∷ (codes "clear", Clear) ∷ (codes "show", Show) ∷ [])

-- what follows the word: a path, or the end
abbrev pub after_word : Verb → Stage
after_word Add = stage.Path Add
after_word Tie = stage.Path Tie
after_word Narrow = stage.Path Narrow
after_word Mark = stage.Close Mark
after_word Keep = stage.Close Keep
after_word Back = stage.Close Back
after_word Clear = stage.Close Clear
after_word Show = stage.Close Show

-- what follows the first path
abbrev pub after_path : Verb → Stage
after_path Add = stage.Place
after_path Tie = stage.SecondPath
after_path Narrow = stage.Kind
after_path Mark = stage.Close Mark
after_path Keep = stage.Close Keep
after_path Back = stage.Close Back
after_path Clear = stage.Close Clear
after_path Show = stage.Close Show

-- what follows a token of a narrow's kind, by the mode that it leaves: the end, or the rest of the range
abbrev pub after_kind : Mode → Stage
after_kind Begin = stage.Range
after_kind Opened = stage.Range
after_kind Hashed = stage.Range
after_kind (Tagged t) = stage.Range
after_kind (Low o) = stage.Range
after_kind (Dotted o a) = stage.Range
after_kind (High o a) = stage.Range
after_kind (Ranged o a h) = stage.Range
after_kind Inside = stage.Close Narrow
after_kind (Done r) = stage.Range

-- what has been read of a form: its paths by the numbers of their names, and the draft of its place or kind
pub record Formed (K : Type 0) : Type 0 where
  pub stage : Stage
  pub first : List ℕ
  pub second : List ℕ
  pub draft : Draft K

pub data FormStep (K : Type 0) : Type 0 where
  goes : Formed K → FormStep K
  refused : ℕ → ℕ → FormStep K

-- the form before its first token
abbrev pub unread : {K : Type 0} → Formed K
unread = record { stage = stage.Begin; first = []; second = []; draft = nothing }

-- the place of an add has ended
abbrev pub on_done : {X : Type 0} → Mode → X → X → X
on_done Begin is other = other
on_done Opened is other = other
on_done Hashed is other = other
on_done (Tagged t) is other = other
on_done (Low o) is other = other
on_done (Dotted o a) is other = other
on_done (High o a) is other = other
on_done (Ranged o a h) is other = other
on_done Inside is other = other
on_done (Done r) is other = is

module _ {K : Type 0} where
  abbrev pub at : Stage → Formed K → FormStep K
  at t f = goes (record { stage = t; first = f.first; second = f.second; draft = f.draft })

  -- the draft goes on, and the stage that follows is told by its mode
  abbrev pub drafted : (Mode → Stage) → Formed K → Step K → FormStep K
  drafted next f (go d) = goes (record { stage = next d.mode; first = f.first; second = f.second; draft = d })
  drafted next f (fault n b) = refused n b

  -- a name of a path: 23 where the word is too long for one, 29 where it is the seventeenth
  abbrev pub path_named : List ℕ → List ℕ → ℕ → (List ℕ → FormStep K) → FormStep K
  path_named w path b next = cond (nat_lt 12 (length w)) (refused 23 b) (cond (nat_lt (length path) 16) (next (path ++ (names.number w ∷ []))) (refused 29 b))

  abbrev pub on_form_step : FormStep K → (Formed K → FormStep K) → FormStep K
  on_form_step (goes f) next = next f
  on_form_step (refused n b) next = refused n b

  -- the line ends at byte b: 20 where the form has not ended, 26 where a tag of an add was referred to and never described
  abbrev pub form_end : Stage → Formed K → ℕ → FormStep K
  form_end stage.Begin f b = refused 20 b
  form_end stage.Opened f b = refused 20 b
  form_end (stage.Path v) f b = refused 20 b
  form_end (stage.InPath v) f b = refused 20 b
  form_end stage.SecondPath f b = refused 20 b
  form_end stage.InSecondPath f b = refused 20 b
  form_end stage.Place f b = refused 20 b
  form_end stage.Kind f b = refused 20 b
  form_end stage.Range f b = refused 20 b
  form_end (stage.Close v) f b = refused 20 b
  form_end (stage.Closed Add) f b = drafted (λ m. stage.Closed Add) f (end_in f.draft.mode f.draft b)
  form_end (stage.Closed Tie) f b = goes f
  form_end (stage.Closed Narrow) f b = goes f
  form_end (stage.Closed Mark) f b = goes f
  form_end (stage.Closed Keep) f b = goes f
  form_end (stage.Closed Back) f b = goes f
  form_end (stage.Closed Clear) f b = goes f
  form_end (stage.Closed Show) f b = goes f

  module _ (words : List ℕ → Option K) (ranges : ℤ → ℤ → Option K) where
    -- the token x of the line, from byte b up to j, after what f has; pl and sl are the most places and slots of an add's sheet
    abbrev pub form_step_in : ℕ → ℕ → List ℕ → Stage → Formed K → Tok → ℕ → ℕ → FormStep K
    form_step_in pl sl line stage.Begin f x b j = on_mark 40 x (at stage.Opened f) (refused 20 b)
    form_step_in pl sl line stage.Opened f x b j = on_word x (λ w. on_some (verb w) (λ v. at (after_word v) f) (refused 20 b)) (refused 20 b)
    form_step_in pl sl line (stage.Path v) f x b j = on_mark 40 x (at (stage.InPath v) f) (refused 20 b)
    form_step_in pl sl line (stage.InPath v) f x b j =
        on_word x (λ w. path_named w f.first b (λ path. goes (record { stage = stage.InPath v; first = path; second = f.second; draft = f.draft })))
        (on_mark 41 x (at (after_path v) f) (refused 20 b))
    form_step_in pl sl line stage.SecondPath f x b j = on_mark 40 x (at stage.InSecondPath f) (refused 20 b)
    form_step_in pl sl line stage.InSecondPath f x b j =
        on_word x (λ w. path_named w f.second b (λ path. goes (record { stage = stage.InSecondPath; first = f.first; second = path; draft = f.draft })))
        (on_mark 41 x (at (stage.Close Tie) f) (refused 20 b))
    form_step_in pl sl line stage.Place f x b j =
        on_done f.draft.mode (on_mark 41 x (at (stage.Closed Add) f) (refused 20 b))
        (drafted (λ m. stage.Place) f (step_in words ranges pl sl line f.draft.mode f.draft x b j))
    form_step_in pl sl line stage.Kind f x b j = drafted after_kind f (kind_first words ranges 1 line None f.draft x b j)
    form_step_in pl sl line stage.Range f x b j = drafted after_kind f (step_in words ranges 1 0 line f.draft.mode f.draft x b j)
    form_step_in pl sl line (stage.Close v) f x b j = on_mark 41 x (at (stage.Closed v) f) (refused 20 b)
    form_step_in pl sl line (stage.Closed v) f x b j = refused 20 b

    abbrev pub form_step : ℕ → ℕ → List ℕ → Formed K → Tok → ℕ → ℕ → FormStep K
    form_step pl sl line f x b j = form_step_in pl sl line f.stage f x b j

    -- the tokens of the line from a byte on, after what f has
    abbrev pub form_from : ℕ → ℕ → ℕ → List ℕ → ℕ → Formed K → FormStep K
    form_from zero pl sl line from f = refused 0 0
    form_from (suc turns) pl sl line from f =
        on_next (next_token line from)
        (form_end f.stage f (length line))
        (λ x i j. on_form_step (form_step pl sl line f x i j) (λ f₂. form_from turns pl sl line j f₂))
        refused

    -- what a line of one form reads as, with room for pl places and sl slots: 10 where it is longer than 60,000 bytes
    unfoldable pub read_form : ℕ → ℕ → List ℕ → FormStep K
    read_form pl sl line = cond (nat_lt 60000 (length line)) (refused 10 0) (form_from (suc (length line)) pl sl line 0 unread)
