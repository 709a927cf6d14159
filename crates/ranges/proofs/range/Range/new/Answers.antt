use Rattle.std.proofs.Common.{w32}
use Rattle.std.proofs.lemmas.Int.{to_z-of_z}
use Rattle.ranges.specs.RangeLaws.{made_at}
use Rattle.ranges.proofs.range.Range.new.Goals as goal

pub returns-then-low-high : goal.returns-then-low-high
returns-then-low-high c =
    made_at c.args.low c.args.high _ (to_z-of_z w32 c.args.low c.ranges.low) (to_z-of_z w32 c.args.high c.ranges.high)
