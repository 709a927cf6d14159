use Rattle.std.proofs.Common.{◌≡◌, length, Some, sym, refl, ap, ◌∙◌, rules}
use Rattle.std.specs.Option.{option_transpose}
use Rattle.std.proofs.lemmas.Result.{err_from_is_err_and}
use Rattle.tokens.specs.Answers.{meant, answer, goes_on}
use Rattle.tokens.specs.Faults.{text_number, text_byte}
use Rattle.tokens.specs.Tokens.{token, next_token}
use Rattle.reading.specs.declared.fault.ReadFault.TheVariants.{Text}
use Rattle.reading.specs.Answers.{refused}
use Rattle.reading.specs.Readers.{read}
use Rattle.reading.specs.Steps.{go, read_place}
use Rattle.reading.proofs.Fronts.{came_err}
use Rattle.reading.proofs.Lines.{left_start, too_long, left_end, left_fault, left_step_fault, left_more, same_room, left_room}
use Rattle.reading.proofs.Words.{next_worded, told}
use Rattle.reading.proofs.drafting.read_within.Given as given
use Rattle.reading.proofs.drafting.read_within.Goals as goal
use Rattle.reading.proofs.drafting.read_within.Goals.{In_ok-x}

-- the token that was read
here : (g : given.Over) (c : In_ok-x g) → token (meant c.in_ok-x.field-0.token) c.in_ok-x.field-0.start c.in_ok-x.field-0.end ≡ next_token c.args.line.now c.loop-x.x-iterator.from
here g c = ap (λ r. answer (option_transpose (Some r))) (sym c.in_ok-x.was) ∙ told _ _ _ _ c.in-Some.ensures.steps c.loop-x.invariant.2

-- the tokens go on after it
to : (g : given.Over) (c : In_ok-x g) → c.next.new.self.from ≡ c.in_ok-x.field-0.end
to g c = c.in-Some.ensures.steps.from ∙ ap (λ r. goes_on c.loop-x.x-iterator.line.now c.loop-x.x-iterator.from (Some r)) c.in_ok-x.was

pub returns-in_err-checked_length-clause-is : goal.returns-in_err-checked_length-clause-is
returns-in_err-checked_length-clause-is g c =
    let p = err_from_is_err_and c.from_residual.result c.from_residual.ensures.1 in
    came_err _ _ p.1 ∙ ap refused (p.2 ∙ ap Text c.in_err-checked_length.ensures.1) ∙
    too_long g.V.Vocabulary.words g.V.Vocabulary.ranges _ _ _ c.in_err-checked_length.ensures.0

pub loop-x-init : goal.loop-x-init
loop-x-init g c = (
  left_start g.V.Vocabulary.words g.V.Vocabulary.ranges _ _ _ _ _ (search rules) c.new-draft.ensures.nothing c.in_ok-checked_length.ensures,
  record { places = refl; slots = refl; place_room = refl; slot_room = refl },
  search rules,
)

pub returns-in_err-x-clause-is : goal.returns-in_err-x-clause-is
returns-in_err-x-clause-is g c =
    let p = err_from_is_err_and c.from_residual-in_err-x.result c.from_residual-in_err-x.ensures.1 in
    came_err _ _ p.1 ∙ ap refused p.2 ∙
    left_fault g.V.Vocabulary.words g.V.Vocabulary.ranges c.loop-x.invariant.0 (text_number c.in_err-x.field-0.0) (text_byte c.in_err-x.field-0.0) (ap (λ r. answer (option_transpose (Some r))) (sym c.in_err-x.was) ∙ told _ _ _ _ c.in-Some.ensures.steps c.loop-x.invariant.2) ∙
    same_room g.V.Vocabulary.words g.V.Vocabulary.ranges _ _ _ _ _ (c.loop-x.invariant.1.place_room ∙ ap length c.new-draft.ensures.places.1) (c.loop-x.invariant.1.slot_room ∙ ap length c.new-draft.ensures.slots.1)

pub step-requires : goal.step-requires
step-requires g c = next_worded c.args.line.now c.loop-x.x-iterator.from _ _ _ (here g (goal.at.step-requires g c).In_ok-x)

pub returns-in_err-step-clause-is : goal.returns-in_err-step-clause-is
returns-in_err-step-clause-is g c =
    let p = err_from_is_err_and c.from_residual-in_err-step.result c.from_residual-in_err-step.ensures.1 in
    came_err _ _ p.1 ∙ ap refused p.2 ∙
    left_step_fault g.V.Vocabulary.words g.V.Vocabulary.ranges c.loop-x.invariant.0 _ _ _ c.in_err-step.field-0.0 (here g (goal.at.returns-in_err-step-clause-is g c).In_ok-x) c.in_err-step.ensures.is ∙
    same_room g.V.Vocabulary.words g.V.Vocabulary.ranges _ _ _ _ _ (c.loop-x.invariant.1.place_room ∙ ap length c.new-draft.ensures.places.1) (c.loop-x.invariant.1.slot_room ∙ ap length c.new-draft.ensures.slots.1)

pub loop-x-preserved : goal.loop-x-preserved
loop-x-preserved g c =
    let old = c.loop-x.invariant.1 in
    let new = c.in_ok-step.ensures.tables in (
      left_room g.V.Vocabulary.words g.V.Vocabulary.ranges _ _ _ _ (sym new.place_room) (sym new.slot_room)
          (left_more g.V.Vocabulary.words g.V.Vocabulary.ranges c.loop-x.invariant.0 _ _ _ _ _ (here g (goal.at.loop-x-preserved g c).In_ok-x) (to g (goal.at.loop-x-preserved g c).In_ok-x) c.in_ok-step.ensures.is),
      record { places = new.places ∙ old.places; slots = new.slots ∙ old.slots; place_room = new.place_room ∙ old.place_room; slot_room = new.slot_room ∙ old.slot_room },
      c.in-Some.ensures.steps.line ∙ c.loop-x.invariant.2,
    )

pub returns-in_err-end-clause-is : goal.returns-in_err-end-clause-is
returns-in_err-end-clause-is g c =
    let p = err_from_is_err_and c.from_residual-in_err-end.result c.from_residual-in_err-end.ensures.1 in
    came_err _ _ p.1 ∙ ap refused p.2 ∙
    c.in_err-end.ensures ∙
    left_end g.V.Vocabulary.words g.V.Vocabulary.ranges c.loop-x.invariant.0 (told _ _ _ _ c.in-None.ensures.steps c.loop-x.invariant.2) ∙
    same_room g.V.Vocabulary.words g.V.Vocabulary.ranges _ _ _ _ _ (c.loop-x.invariant.1.place_room ∙ ap length c.new-draft.ensures.places.1) (c.loop-x.invariant.1.slot_room ∙ ap length c.new-draft.ensures.slots.1)

pub returns-clause-is : goal.returns-clause-is
returns-clause-is g c =
    let is : go (read c.loop-x.draft) ≡ read_place g.V.Vocabulary.words g.V.Vocabulary.ranges (length c.args.places.now) (length c.args.slots.now) c.args.line.now =
    c.in_ok-end.ensures ∙
    left_end g.V.Vocabulary.words g.V.Vocabulary.ranges c.loop-x.invariant.0 (told _ _ _ _ c.in-None.ensures.steps c.loop-x.invariant.2) ∙
    same_room g.V.Vocabulary.words g.V.Vocabulary.ranges _ _ _ _ _ (c.loop-x.invariant.1.place_room ∙ ap length c.new-draft.ensures.places.1) (c.loop-x.invariant.1.slot_room ∙ ap length c.new-draft.ensures.slots.1) in
    search (rules, is)
