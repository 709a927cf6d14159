use Rattle.std.proofs.Common.{refl}
use Rattle.lines.proofs.Cuts.{line_laws}
use Rattle.lines.proofs.Runs.{so_far_none, gives_lines}
use Rattle.lines.proofs.reader.Lines.new.Goals as goal

pub returns-clause-gives : goal.returns-clause-gives
returns-clause-gives c = gives_lines _ (so_far_none _ refl)

pub returns-clause-laws : goal.returns-clause-laws
returns-clause-laws c = line_laws
