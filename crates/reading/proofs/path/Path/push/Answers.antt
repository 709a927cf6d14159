use Rattle.std.proofs.Common.{arith}
use Rattle.reading.proofs.Pathing.{path_pushed}
use Rattle.reading.proofs.path.Path.push.Goals as goal

pub returns : goal.returns
returns c = path_pushed c.args.self.names c.args.self.len c.args.name (omega arith) (omega arith)
