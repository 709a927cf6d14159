use Rattle.std.proofs.Common.{◌≡◌, ◌∙◌, not}
use Rattle.lines.specs.Reading.{pending, some}
use Rattle.lines.proofs.Held.{some_held}
use Rattle.lines.proofs.Runs.{so_far_pending}
use Rattle.lines.proofs.reader.Lines.has_line.Goals as goal

pub returns-then-not-self-clause-complete : goal.returns-then-not-self-clause-complete
returns-then-not-self-clause-complete c =
    let is : c.ne.result ≡ some (pending c.args.self.now) = simp c.if-not-self.true (c.ne.ensures ∙ some_held _ _ _ c.args.self.now.fits) in
    so_far_pending c.args.self.now _ is

pub returns-else-not-self-clause-complete : goal.returns-else-not-self-clause-complete
returns-else-not-self-clause-complete c =
    let is : not c.args.self.now.ended ≡ some (pending c.args.self.now) = simp c.if-not-self.false in
    so_far_pending c.args.self.now _ is
