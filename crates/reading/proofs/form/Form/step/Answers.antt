use Rattle.std.proofs.Common.{Ok, refl, ap, ◌∙◌, subst}
use Rattle.tokens.specs.Answers.{meant}
use Rattle.reading.specs.Steps.{on_mark}
use Rattle.reading.specs.Readers.{read}
use Rattle.reading.specs.Forming.{staged, not_allowed}
use Rattle.reading.specs.FormsHeld.{alike}
use Rattle.reading.proofs.FormSteps.{path_ends, path_fits}
use Rattle.reading.proofs.form.Form.step.Goals as goal

pub returns-in_default : goal.returns-in_default
returns-in_default g c =
    let place = read c.args.place.now in
    let kind = read c.args.kind.now in
    let e = c.bracket-in_default.ensures ∙ ap (λ s. on_mark 41 (meant c.args.x.token) (Ok (staged s c.args.self)) (not_allowed c.args.x.start)) c.after_path.ensures in
    let same = subst (λ s. alike s place kind) c.in-InPath.is c.requires.within.same in
    record {
      is = path_ends c.args.self c.in-InPath.verb c.args.x.token _ _ c.in-InPath.is c.in_default.not-Word e g.V.Vocabulary.words g.V.Vocabulary.ranges _ _ _ _ place kind same;
      fits = path_fits c.args.self c.in-InPath.verb c.args.x.token _ _ c.in-InPath.is c.in_default.not-Word e c.args.place.now c.args.kind.now c.requires.within.single c.requires.within.none;
      place_tables = record { places = refl; slots = refl; place_room = refl; slot_room = refl };
      kind_tables = record { places = refl; slots = refl; place_room = refl; slot_room = refl };
    }
