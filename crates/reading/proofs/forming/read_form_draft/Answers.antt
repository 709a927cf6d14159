use Rattle.std.proofs.Common.{◌≡◌, length, Some, sym, refl, ap, ◌∙◌, rules}
use Rattle.std.specs.Option.{option_transpose}
use Rattle.std.proofs.lemmas.Result.{err_from_is_err_and}
use Rattle.tokens.specs.Answers.{meant, answer, goes_on}
use Rattle.tokens.specs.Faults.{text_number, text_byte}
use Rattle.tokens.specs.Tokens.{token, next_token}
use Rattle.reading.specs.declared.fault.ReadFault.TheVariants.{Text}
use Rattle.reading.specs.declared.form.Stage.TheVariants as stage
use Rattle.reading.specs.Readers.{read}
use Rattle.reading.specs.Forms.{goes, read_form}
use Rattle.reading.specs.Forming.{formed, faulted}
use Rattle.reading.proofs.FormSteps.{shown, form_came_err}
use Rattle.reading.proofs.FormLines.{left_start, too_long, left_end, left_fault, left_step_fault, left_more, same_room, left_room}
use Rattle.reading.proofs.Words.{next_worded, told}
use Rattle.reading.proofs.forming.read_form_draft.Given as given
use Rattle.reading.proofs.forming.read_form_draft.Goals as goal
use Rattle.reading.proofs.forming.read_form_draft.Goals.{In_ok-x}

-- the token that was read
here : (g : given.Over) (c : In_ok-x g) → token (meant c.in_ok-x.field-0.token) c.in_ok-x.field-0.start c.in_ok-x.field-0.end ≡ next_token c.args.line.now c.loop-x.x-iterator.from
here g c = ap (λ r. answer (option_transpose (Some r))) (sym c.in_ok-x.was) ∙ told _ _ _ _ c.in-Some.ensures.steps c.loop-x.invariant.4

-- the tokens go on after it
to : (g : given.Over) (c : In_ok-x g) → c.next.new.self.from ≡ c.in_ok-x.field-0.end
to g c = c.in-Some.ensures.steps.from ∙ ap (λ r. goes_on c.loop-x.x-iterator.line.now c.loop-x.x-iterator.from (Some r)) c.in_ok-x.was

pub returns-in_err-checked_length-clause-is : goal.returns-in_err-checked_length-clause-is
returns-in_err-checked_length-clause-is g c =
    let p = err_from_is_err_and c.from_residual.result c.from_residual.ensures.1 in
    form_came_err _ _ _ p.1 ∙ ap faulted (p.2 ∙ ap Text c.in_err-checked_length.ensures.1) ∙
    too_long g.V.Vocabulary.words g.V.Vocabulary.ranges _ _ _ c.in_err-checked_length.ensures.0

pub loop-x-init : goal.loop-x-init
loop-x-init g c = (
  left_start g.V.Vocabulary.words g.V.Vocabulary.ranges _ _ _ _ _ (search rules) (λ i. record { stage = stage.Begin; first = c.empty.ensures i; second = c.empty-2.ensures i; draft = c.new-place.ensures.nothing i }) c.in_ok-checked_length.ensures,
  record { single = ap length c.new-kind.ensures.places.1 ∙ c.requires.few.1.1; none = ap length c.new-kind.ensures.slots.1; same = c.new-place.ensures.nothing ∙ sym c.new-kind.ensures.nothing },
  record { places = refl; slots = refl; place_room = refl; slot_room = refl },
  record { places = refl; slots = refl; place_room = refl; slot_room = refl },
  search rules,
)

pub returns-in_err-x-clause-is : goal.returns-in_err-x-clause-is
returns-in_err-x-clause-is g c =
    let p = err_from_is_err_and c.from_residual-in_err-x.result c.from_residual-in_err-x.ensures.1 in
    let tables = c.loop-x.invariant.2 in
    form_came_err _ _ _ p.1 ∙ ap faulted p.2 ∙
    left_fault g.V.Vocabulary.words g.V.Vocabulary.ranges c.loop-x.invariant.0 (text_number c.in_err-x.field-0.0) (text_byte c.in_err-x.field-0.0) (ap (λ r. answer (option_transpose (Some r))) (sym c.in_err-x.was) ∙ told _ _ _ _ c.in-Some.ensures.steps c.loop-x.invariant.4) ∙
    same_room g.V.Vocabulary.words g.V.Vocabulary.ranges _ _ _ _ _ (tables.place_room ∙ ap length c.new-place.ensures.places.1) (tables.slot_room ∙ ap length c.new-place.ensures.slots.1)

pub step-requires-clause-worded : goal.step-requires-clause-worded
step-requires-clause-worded g c = next_worded c.args.line.now c.loop-x.x-iterator.from _ _ _ (here g (goal.at.step-requires-clause-worded g c).In_ok-x)

pub returns-in_err-form-clause-is : goal.returns-in_err-form-clause-is
returns-in_err-form-clause-is g c =
    let p = err_from_is_err_and c.from_residual-in_err-form.result c.from_residual-in_err-form.ensures.1 in
    let tables = c.loop-x.invariant.2 in
    form_came_err _ _ _ p.1 ∙ ap faulted p.2 ∙
    left_step_fault g.V.Vocabulary.words g.V.Vocabulary.ranges c.loop-x.invariant.0 _ _ _ c.in_err-form.field-0.0 (here g (goal.at.returns-in_err-form-clause-is g c).In_ok-x) c.in_err-form.ensures.is ∙
    same_room g.V.Vocabulary.words g.V.Vocabulary.ranges _ _ _ _ _ (tables.place_room ∙ ap length c.new-place.ensures.places.1) (tables.slot_room ∙ ap length c.new-place.ensures.slots.1)

pub loop-x-preserved : goal.loop-x-preserved
loop-x-preserved g c =
    let place = c.loop-x.invariant.2 in
    let kind = c.loop-x.invariant.3 in
    let more = c.in_ok-form.ensures in (
      left_room g.V.Vocabulary.words g.V.Vocabulary.ranges _ _ _ _ (sym more.place_tables.place_room) (sym more.place_tables.slot_room)
          (left_more g.V.Vocabulary.words g.V.Vocabulary.ranges c.loop-x.invariant.0 _ _ _ _ _ (here g (goal.at.loop-x-preserved g c).In_ok-x) (to g (goal.at.loop-x-preserved g c).In_ok-x) more.is),
      more.fits,
      record { places = more.place_tables.places ∙ place.places; slots = more.place_tables.slots ∙ place.slots; place_room = more.place_tables.place_room ∙ place.place_room; slot_room = more.place_tables.slot_room ∙ place.slot_room },
      record { places = more.kind_tables.places ∙ kind.places; slots = more.kind_tables.slots ∙ kind.slots; place_room = more.kind_tables.place_room ∙ kind.place_room; slot_room = more.kind_tables.slot_room ∙ kind.slot_room },
      c.in-Some.ensures.steps.line ∙ c.loop-x.invariant.4,
    )

pub returns-in_err-end-clause-is : goal.returns-in_err-end-clause-is
returns-in_err-end-clause-is g c =
    let p = err_from_is_err_and c.from_residual-in_err-end.result c.from_residual-in_err-end.ensures.1 in
    let tables = c.loop-x.invariant.2 in
    form_came_err _ _ _ p.1 ∙ ap faulted p.2 ∙
    c.in_err-end.ensures (read c.loop-x.kind) ∙
    left_end g.V.Vocabulary.words g.V.Vocabulary.ranges c.loop-x.invariant.0 (told _ _ _ _ c.in-None.ensures.steps c.loop-x.invariant.4) ∙
    same_room g.V.Vocabulary.words g.V.Vocabulary.ranges _ _ _ _ _ (tables.place_room ∙ ap length c.new-place.ensures.places.1) (tables.slot_room ∙ ap length c.new-place.ensures.slots.1)

pub returns-clause-is : goal.returns-clause-is
returns-clause-is g c =
    let tables = c.loop-x.invariant.2 in
    let is : goes (formed (record { form = c.loop-x.form; cur = c.cursor-cur.result }) c.loop-x.place.places.now c.loop-x.place.slots.now c.loop-x.kind.places.now) ≡ read_form g.V.Vocabulary.words g.V.Vocabulary.ranges (length c.args.places.now) (length c.args.slots.now) c.args.line.now =
    shown c.loop-x.form c.loop-x.place c.loop-x.kind _ c.cursor-cur.ensures c.loop-x.invariant.1.none ∙
    c.in_ok-end.ensures (read c.loop-x.kind) ∙
    left_end g.V.Vocabulary.words g.V.Vocabulary.ranges c.loop-x.invariant.0 (told _ _ _ _ c.in-None.ensures.steps c.loop-x.invariant.4) ∙
    same_room g.V.Vocabulary.words g.V.Vocabulary.ranges _ _ _ _ _ (tables.place_room ∙ ap length c.new-place.ensures.places.1) (tables.slot_room ∙ ap length c.new-place.ensures.slots.1) in
    search (rules, is)
