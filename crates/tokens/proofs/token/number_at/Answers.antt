use Rattle.std.proofs.Common.{◌-◌, length, take, drop}
use Rattle.tokens.proofs.Back.{digits_run}
use Rattle.tokens.proofs.token.number_at.Goals as goal

pub number_of-requires : goal.number_of-requires
number_of-requires c = rw c.run-count.ensures.value (digits_run (take (length c.args.line.now - c.args.first) (drop c.args.first c.args.line.now)))
