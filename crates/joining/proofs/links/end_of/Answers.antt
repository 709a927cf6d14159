use Rattle.std.proofs.Common.{◌≡◌, get_or, sym, ◌∙◌, arith}
use Rattle.std.proofs.lemmas.List.{get_or_default}
use Rattle.joining.specs.Forest.{link}
use Rattle.joining.proofs.Forests.{end_step, end_stays}
use Rattle.joining.proofs.links.end_of.Goals as goal

pub loop-at-preserved : goal.loop-at-preserved
loop-at-preserved c =
    let read : get_or c.args.links.now c.loop-at.at 0 ≡ link c.args.links.now c.loop-at.at =
    get_or_default c.args.links.now c.loop-at.at 0 c.loop-at.at (omega arith) in
    rw read
    (omega (arith, c.requires.forest c.loop-at.at), end_step c.args.links.now c.requires.forest c.loop-at.at ∙ c.loop-at.invariant.1)

pub returns-clause-found : goal.returns-clause-found
returns-clause-found c =
    let rests : link c.args.links.now c.loop-at.at ≡ c.loop-at.at =
    get_or_default c.args.links.now c.loop-at.at c.loop-at.at 0 (omega arith) ∙ c.loop-at-test.false in
    sym (end_stays c.args.links.now c.requires.forest c.loop-at.at rests) ∙ c.loop-at.invariant.1

pub loop-at-smaller : goal.loop-at-smaller
loop-at-smaller c =
    omega (arith, c.loop-at-test.true, c.requires.forest c.loop-at.at, get_or_default c.args.links.now c.loop-at.at 0 c.loop-at.at (omega arith))
