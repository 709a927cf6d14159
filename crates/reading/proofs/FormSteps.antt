-- The end of a form's path, and the draft of a form that has been read.
use Rattle.std.proofs.Common.{◌≡◌, ℕ, List, [], ◌∷◌, length, ℤ, Ok, Err, Option, Result, sym, refl, ap, ◌∙◌, subst, arith}
use Rattle.tokens.specs.declared.token.Token.{Token}
use Rattle.tokens.specs.declared.token.Token.TheVariants.{RoundOpen, RoundClose, SquareOpen, SquareClose, Hash, Dots, Word, Number}
use Rattle.tokens.specs.Answers.{meant}
use Rattle.reading.specs.declared.fault.ReadFault.{ReadFault}
use Rattle.reading.specs.declared.draft.Place.{Place}
use Rattle.reading.specs.declared.draft.Slot.{Slot}
use Rattle.reading.specs.declared.draft.Cursor.{Cursor}
use Rattle.reading.specs.declared.drafting.reader.DraftReader.{DraftReader}
use Rattle.reading.specs.declared.form.Verb.{Verb}
use Rattle.reading.specs.declared.form.Verb.TheVariants.{Add, Tie, Narrow, Mark, Keep, Back, Clear, Show}
use Rattle.reading.specs.declared.form.Stage.{Stage}
use Rattle.reading.specs.declared.form.Stage.TheVariants as stage
use Rattle.reading.specs.declared.form.Form.{Form}
use Rattle.reading.specs.declared.form.FormCursor.{FormCursor}
use Rattle.reading.specs.Steps.{on_mark}
use Rattle.reading.specs.Drafts.{Draft}
use Rattle.reading.specs.Answers.{draft}
use Rattle.reading.specs.Readers.{read}
use Rattle.reading.specs.Paths.{named}
use Rattle.reading.specs.Forms.{after_path, Formed, goes, form_step}
use Rattle.reading.specs.Forming.{staged, not_allowed, by_verb, by_stage, reads, formed, faulted, form_comes, form_came}
use Rattle.reading.specs.FormsHeld.{alike, FormHeldOk}

after_path_draft : {X : Type 0} (v : Verb) (d e : X) → d ≡ e → by_stage (after_path v) d e ≡ d
after_path_draft Add d e same = refl
after_path_draft Tie d e same = refl
after_path_draft Narrow d e same = sym same
after_path_draft Mark d e same = refl
after_path_draft Keep d e same = refl
after_path_draft Back d e same = refl
after_path_draft Clear d e same = refl
after_path_draft Show d e same = refl

after_path_alike : {X : Type 0} (v : Verb) (d e : X) → alike (after_path v) d e
after_path_alike Add d e = tt
after_path_alike Tie d e = tt
after_path_alike Narrow d e = tt
after_path_alike Mark d e = tt
after_path_alike Keep d e = tt
after_path_alike Back d e = tt
after_path_alike Clear d e = tt
after_path_alike Show d e = tt

none_left : {X : Type 0} (xs : List X) → length xs ≡ 0 → xs ≡ []
none_left [] e = refl
none_left (x ∷ xs) e = absurd (omega arith)

module _ {K : Type 0} where
  -- no word ends the path of the verb v
  module _ (f : Form) (v : Verb) (t : Token) (b : ℕ) (r : Result Form ReadFault) (is : f.stage ≡ stage.InPath v) (no_word : (w : _) → t ≡ Word w → ⊥) (e : r ≡ on_mark 41 (meant t) (Ok (staged (after_path v) f)) (not_allowed b)) where
    pub path_ends : (words : List ℕ → Option K) (ranges : ℤ → ℤ → Option K) (pl sl : ℕ) (line : List ℕ) (j : ℕ) (p k : Draft K) → p ≡ k → form_comes r p k ≡ form_step words ranges pl sl line (reads f p k) (meant t) b j
    path_ends words ranges pl sl line j p k same = ap (λ r. form_comes r p k) e ∙ by t no_word ∙ ap (λ s. form_step words ranges pl sl line (at₁ s) (meant t) b j) (sym is)
      where
        at₁ : Stage → Formed K
        at₁ s = record { stage = s; first = named f.first; second = named f.second; draft = by_stage s p k }

        by : (t : Token) → ((w : _) → t ≡ Word w → ⊥) → form_comes (on_mark 41 (meant t) (Ok (staged (after_path v) f)) (not_allowed b)) p k ≡ form_step words ranges pl sl line (record { stage = stage.InPath v; first = named f.first; second = named f.second; draft = p }) (meant t) b j
        by RoundOpen none = refl
        by RoundClose none = λ i. goes (record { stage = after_path v; first = named f.first; second = named f.second; draft = after_path_draft v p k same i })
        by SquareOpen none = refl
        by SquareClose none = refl
        by Hash none = refl
        by Dots none = refl
        by (Word w) none = absurd (none w refl)
        by (Number n) none = refl

    pub path_fits : (place kind : DraftReader K) → length kind.places.now ≡ 1 → length kind.slots.now ≡ 0 → FormHeldOk r place kind
    path_fits place kind single none = subst (λ r. FormHeldOk r place kind) (sym e) (by t)
      where
        by : (t : Token) → FormHeldOk (on_mark 41 (meant t) (Ok (staged (after_path v) f)) (not_allowed b)) place kind
        by RoundOpen = tt
        by RoundClose = record { single = single; none = none; same = after_path_alike v (read place) (read kind) }
        by SquareOpen = tt
        by SquareClose = tt
        by Hash = tt
        by Dots = tt
        by (Word w) = tt
        by (Number n) = tt

-- what is shown by the cursor that the stage tells is what the stage tells of both
by_verb_of : {X Y : Type 0} (v : Verb) (table one : X → Y) (c d : X) → by_verb v (table (by_verb v c d)) (one (by_verb v c d)) ≡ by_verb v (table c) (one d)
by_verb_of Add table one c d = refl
by_verb_of Tie table one c d = refl
by_verb_of Narrow table one c d = refl
by_verb_of Mark table one c d = refl
by_verb_of Keep table one c d = refl
by_verb_of Back table one c d = refl
by_verb_of Clear table one c d = refl
by_verb_of Show table one c d = refl

by_stage_of : {X Y : Type 0} (s : Stage) (table one : X → Y) (c d : X) → by_stage s (table (by_stage s c d)) (one (by_stage s c d)) ≡ by_stage s (table c) (one d)
by_stage_of stage.Begin table one c d = refl
by_stage_of stage.Opened table one c d = refl
by_stage_of (stage.Path v) table one c d = refl
by_stage_of (stage.InPath v) table one c d = refl
by_stage_of stage.SecondPath table one c d = refl
by_stage_of stage.InSecondPath table one c d = refl
by_stage_of stage.Place table one c d = refl
by_stage_of stage.Kind table one c d = refl
by_stage_of stage.Range table one c d = refl
by_stage_of (stage.Close v) table one c d = by_verb_of v table one c d
by_stage_of (stage.Closed v) table one c d = by_verb_of v table one c d

pub shown : {K : Type 0} (f : Form) (place kind : DraftReader K) (cur : Cursor) → cur ≡ by_stage f.stage place.cur kind.cur → length kind.slots.now ≡ 0 →
    goes (formed (record { form = f; cur = cur }) place.places.now place.slots.now kind.places.now) ≡ goes (reads f (read place) (read kind))
shown f place kind cur e none =
    ap (λ c. goes (formed (record { form = f; cur = c }) place.places.now place.slots.now kind.places.now)) e ∙
    ap (λ d. goes (record { stage = f.stage; first = named f.first; second = named f.second; draft = d })) (by_stage_of f.stage (λ c. draft c place.places.now place.slots.now) (λ c. draft c kind.places.now []) place.cur kind.cur) ∙
    ap (λ l. goes (reads f (read place) (draft kind.cur kind.places.now l))) (sym (none_left kind.slots.now none))

pub form_came_err : {K : Type 0} {r : Result FormCursor ReadFault} {f : ReadFault} (ps : List (Place K)) (ss : List Slot) (one : List (Place K)) → r ≡ Err f → form_came r ps ss one ≡ faulted f
form_came_err ps ss one e = ap (λ r. form_came r ps ss one) e
