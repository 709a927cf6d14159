-- What the code's form stands for.
use Rattle.std.specs.Prelude.{ℕ, ◌≤◌, cond, List, [], ◌∷◌, ◌++◌, length, Ok, Err, codes, Result, nat_lt}
use Rattle.names.specs.Names as names
use Rattle.reading.specs.declared.fault.Rule.TheVariants as rule
use Rattle.reading.specs.declared.fault.ReadFault.{ReadFault}
use Rattle.reading.specs.declared.fault.ReadFault.TheVariants.{Broken}
use Rattle.reading.specs.Faults.{number_of, byte_of}
use Rattle.reading.specs.declared.draft.Place.{Place}
use Rattle.reading.specs.declared.draft.Slot.{Slot}
use Rattle.reading.specs.declared.draft.Cursor.{Cursor}
use Rattle.reading.specs.declared.form.Verb.{Verb}
use Rattle.reading.specs.declared.form.Verb.TheVariants.{Add, Tie, Narrow, Mark, Keep, Back, Clear, Show}
use Rattle.reading.specs.declared.form.Stage.{Stage}
use Rattle.reading.specs.declared.form.Stage.TheVariants as stage
use Rattle.reading.specs.declared.form.Form.{Form}
use Rattle.reading.specs.declared.form.FormCursor.{FormCursor}
use Rattle.reading.specs.declared.forming.steps.Round.{Round}
use Rattle.reading.specs.declared.forming.steps.Round.TheVariants.{Open, Close}
use Rattle.reading.specs.declared.path.Path.{Path}
use Rattle.reading.specs.Steps.{on_some}
use Rattle.reading.specs.Drafts.{Draft}
use Rattle.reading.specs.Answers.{draft}
use Rattle.reading.specs.Paths.{named}
use Rattle.reading.specs.Forms.{Formed, FormStep, goes, refused}

-- ---- paths

-- the names of a path, or the fault
abbrev pub shown : Result Path ReadFault → Result (List ℕ) ReadFault
shown (Ok p) = Ok (named p)
shown (Err f) = Err f

-- the word w at byte b is one name more of a path
abbrev pub one_more : List ℕ → List ℕ → ℕ → Result (List ℕ) ReadFault
one_more w path b =
    cond (nat_lt 12 (length w)) (Err (Broken rule.LongName b))
    (cond (nat_lt (length path) 16) (Ok (path ++ (names.number w ∷ []))) (Err (Broken rule.LongPath b)))

-- ---- words

-- the word of a form
abbrev pub word_of : Verb → List ℕ
word_of Add = codes "add"
word_of Tie = codes "tie"
word_of Narrow = codes "narrow"
word_of Mark = codes "mark"
word_of Keep = codes "keep"
word_of Back = codes "back"
word_of Clear = codes "clear"
word_of Show = codes "show"

-- ---- steps

-- the byte of a round bracket
abbrev pub round_byte : Round → ℕ
round_byte Open = 40
round_byte Close = 41

-- the form at another stage
abbrev pub staged : Stage → Form → Form
staged t f = record { stage = t; first = f.first; second = f.second }

-- a token that does not belong there
abbrev pub not_allowed : {X : Type 0} → ℕ → Result X ReadFault
not_allowed b = Err (Broken rule.NotAllowed b)

-- ---- the draft: that of an add is in the tables, that of a narrow's kind in a table of one place

abbrev pub by_verb : {X : Type 0} → Verb → X → X → X
by_verb Add table one = table
by_verb Tie table one = table
by_verb Narrow table one = one
by_verb Mark table one = table
by_verb Keep table one = table
by_verb Back table one = table
by_verb Clear table one = table
by_verb Show table one = table

abbrev pub by_stage : {X : Type 0} → Stage → X → X → X
by_stage stage.Begin table one = table
by_stage stage.Opened table one = table
by_stage (stage.Path v) table one = table
by_stage (stage.InPath v) table one = table
by_stage stage.SecondPath table one = table
by_stage stage.InSecondPath table one = table
by_stage stage.Place table one = table
by_stage stage.Kind table one = one
by_stage stage.Range table one = one
by_stage (stage.Close v) table one = by_verb v table one
by_stage (stage.Closed v) table one = by_verb v table one

module _ {K : Type 0} where
  -- what has been read of a form, where its place reads as d and its kind as e
  abbrev pub reads : Form → Draft K → Draft K → Formed K
  reads f d e = record { stage = f.stage; first = named f.first; second = named f.second; draft = by_stage f.stage d e }

  -- what the tables hold of a form
  abbrev pub formed : FormCursor → List (Place K) → List Slot → List (Place K) → Formed K
  formed c ps ss one = reads c.form (draft c.cur ps ss) (draft c.cur one [])

  -- a fault of a line refuses with its number at its byte
  abbrev pub faulted : ReadFault → FormStep K
  faulted f = on_some (byte_of f) (refused (number_of f)) (refused 0 0)

  -- what came of a token, and of the end of the line: a form, or a refusal
  abbrev pub form_comes : Result Form ReadFault → Draft K → Draft K → FormStep K
  form_comes (Ok f) d e = goes (reads f d e)
  form_comes (Err f) d e = faulted f

  abbrev pub form_ends : Result Unit ReadFault → Formed K → FormStep K
  form_ends (Ok u) f = goes f
  form_ends (Err x) f = faulted x

  -- what came of a line: a form, or a refusal
  abbrev pub form_came : Result FormCursor ReadFault → List (Place K) → List Slot → List (Place K) → FormStep K
  form_came (Ok c) ps ss one = goes (formed c ps ss one)
  form_came (Err f) ps ss one = faulted f

  -- no more places and slots are counted than the tables have
  abbrev pub within_by : Verb → Cursor → List (Place K) → List Slot → List (Place K) → Type 0
  within_by Add c ps ss one = (c.places ≤ length ps) × (c.slots ≤ length ss)
  within_by Tie c ps ss one = Unit {0}
  within_by Narrow c ps ss one = c.places ≤ length one
  within_by Mark c ps ss one = Unit {0}
  within_by Keep c ps ss one = Unit {0}
  within_by Back c ps ss one = Unit {0}
  within_by Clear c ps ss one = Unit {0}
  within_by Show c ps ss one = Unit {0}

  abbrev pub within_at : Stage → Cursor → List (Place K) → List Slot → List (Place K) → Type 0
  within_at stage.Begin c ps ss one = Unit {0}
  within_at stage.Opened c ps ss one = Unit {0}
  within_at (stage.Path v) c ps ss one = Unit {0}
  within_at (stage.InPath v) c ps ss one = Unit {0}
  within_at stage.SecondPath c ps ss one = Unit {0}
  within_at stage.InSecondPath c ps ss one = Unit {0}
  within_at stage.Place c ps ss one = Unit {0}
  within_at stage.Kind c ps ss one = Unit {0}
  within_at stage.Range c ps ss one = Unit {0}
  within_at (stage.Close v) c ps ss one = Unit {0}
  within_at (stage.Closed v) c ps ss one = within_by v c ps ss one

  abbrev pub FormWithinOk : Result FormCursor ReadFault → List (Place K) → List Slot → List (Place K) → Type 0
  FormWithinOk (Ok c) ps ss one = within_at c.form.stage c.cur ps ss one
  FormWithinOk (Err f) ps ss one = Unit {0}
