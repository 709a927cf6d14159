use Rattle.std.proofs.Common.{ap, w32}
use Rattle.std.specs.Fmt.{signed_decimal}
use Rattle.std.proofs.lemmas.Int.{to_z-of_z}
use Rattle.showing.proofs.Putting.{adds_as, adds_then}
use Rattle.showing.proofs.writing.Output.put_range.Goals as goal

pub returns : goal.returns
returns c =
    let low = adds_as (ap signed_decimal (to_z-of_z w32 c.args.low c.ranges.low)) c.put_number.ensures in
    let high = adds_as (ap signed_decimal (to_z-of_z w32 c.args.high c.ranges.high)) c.put_number-2.ensures in
    adds_then c.put.ensures (adds_then low (adds_then c.put_all.ensures (adds_then high c.put-2.ensures)))
