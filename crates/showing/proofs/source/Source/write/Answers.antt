use Rattle.std.proofs.Common.{[], ◌++◌, length, sym, ◌∙◌, arith, rules}
use Rattle.std.proofs.lemmas.Bool.{eqb-true, eqb-false}
use Rattle.showing.specs.Source.{held}
use Rattle.showing.specs.Progress.{opened}
use Rattle.showing.proofs.Stepping.{since_none, since_more, begun_since, going_first, shown_last}
use Rattle.showing.proofs.source.Source.write.Goals as goal

pub loop-progress-init : goal.loop-progress-init
loop-progress-init g c = since_none g.V.Vocabulary.texts c.args.self.now c.open_place.new.progress c.open_place.new.output

pub step-requires : goal.step-requires
step-requires g c =
    let texts = g.V.Vocabulary.texts in
    let source = c.args.self.now in
    let going = going_first texts source c.args.progress.now c.open_place.new.progress c.requires c.open_place.ensures.state in
    record {
      begun = begun_since texts source c.open_place.new.progress c.loop-progress.progress c.open_place.new.output c.loop-progress.output (record { text = _; going = going }) c.loop-progress.invariant;
      some = omega (arith, eqb-false (length c.loop-progress.progress.left.items) 0 (sym c.loop-progress-test.ensures));
    }

pub loop-progress-preserved : goal.loop-progress-preserved
loop-progress-preserved g c =
    since_more g.V.Vocabulary.texts c.args.self.now c.open_place.new.progress c.loop-progress.progress c.step.new.progress c.open_place.new.output c.loop-progress.output c.step.new.output
    c.loop-progress.invariant c.step.ensures.since

pub returns : goal.returns
returns g c =
    let texts = g.V.Vocabulary.texts in
    let source = c.args.self.now in
    let first = opened g.K.Kind.laws texts (held source) c.args.progress.now.next 0 in
    let going = going_first texts source c.args.progress.now c.open_place.new.progress c.requires c.open_place.ensures.state in
    let since = c.loop-progress.invariant in
    let same = sym (since.adds.same ∙ c.open_place.ensures.adds.same ∙ c.new-output.ensures.same) in
    let holds = since.adds.more c.args.out.now first (c.open_place.ensures.adds.more c.args.out.now [] c.new-output.ensures.empty) in
    record {
      text = first ++ since.piece;
      shown = shown_last texts source c.loop-progress.progress (first ++ since.piece) (since.going first going) (eqb-true (length c.loop-progress.progress.left.items) 0 (sym c.loop-progress-test.ensures));
      count = holds.count;
      out = search (rules, same, holds.bytes);
    }
