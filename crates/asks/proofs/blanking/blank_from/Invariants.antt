use Rattle.std.proofs.Common.{◌≡◌, replicate}
use lib.Seq.{paste}
use Rattle.asks.proofs.blanking.blank_from.Given as goal

abbrev pub invariant-loop-record : goal.invariant-loop-record
invariant-loop-record g l = l.record-items ≡ paste l.initial.record-items 0 (replicate l.record-index l.blank) l.record-index
