use Rattle.std.proofs.Common.{arith}
use Rattle.asks.proofs.Pasting.{fill_put}
use Rattle.asks.proofs.blanking.blank_from.Goals as goal

pub loop-record-preserved : goal.loop-record-preserved
loop-record-preserved g c = fill_put _ _ c.loop-record.record-index c.args.blank c.loop-record.invariant (omega arith)
