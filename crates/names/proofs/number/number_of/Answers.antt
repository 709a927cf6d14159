use Rattle.std.proofs.Common.{◌≡◌, ◌+◌, ◌*◌, ◌/◌, take, arith}
use Rattle.std.specs.List.{AllByRecursion as All}
use Rattle.std.proofs.ByRecursion.{All-more}
use Rattle.std.proofs.lemmas.List.{length-take-le}
use Rattle.names.specs.Names.{NameByte, number}
use Rattle.names.proofs.Readings.{reading_lt, weight_more, number_more}
use Rattle.names.proofs.Order.{number_laws}
use Rattle.names.proofs.number.number_of.Goals as goal

pub returns-then-not-begins_name-clause-laws : goal.returns-then-not-begins_name-clause-laws
returns-then-not-begins_name-clause-laws c = number_laws

pub returns-in_err-number-clause-laws : goal.returns-in_err-number-clause-laws
returns-in_err-number-clause-laws c = number_laws

-- the number so far with the next byte
more :
    (c : goal.In_ok-number)
    → c.loop-byte.number + c.in_ok-number.field-0 * (c.loop-byte.weight / 38)
    ≡ number (take (c.loop-byte.byte-index + 1) c.args.bytes.now)
more c =
    number_more c.args.bytes.now c.loop-byte.byte-index c.loop-byte.number c.in_ok-number.field-0 c.loop-byte.weight
    c.loop-byte-test.true c.loop-byte.invariant.0 c.loop-byte.invariant.2 c.in_ok-number.ensures.1 c.loop-byte.invariant.3

bytes_more : (c : goal.In_ok-number) → All NameByte (take (c.loop-byte.byte-index + 1) c.args.bytes.now)
bytes_more c =
    All-more NameByte c.args.bytes.now c.loop-byte.byte-index 0 c.loop-byte-test.true c.loop-byte.invariant.1 c.in_ok-number.ensures.0

pub overflow_add-number : goal.overflow_add-number
overflow_add-number c =
    let t = length-take-le (c.loop-byte.byte-index + 1) c.args.bytes.now (omega arith) in
    omega (arith, more c, reading_lt 12 (take (c.loop-byte.byte-index + 1) c.args.bytes.now) (omega arith) (bytes_more c))

pub loop-byte-preserved : goal.loop-byte-preserved
loop-byte-preserved c =
    (c.loop-byte.invariant.0, bytes_more c, more c, weight_more c.loop-byte.byte-index c.loop-byte.weight (omega arith) c.loop-byte.invariant.3)

pub returns-clause-laws : goal.returns-clause-laws
returns-clause-laws c = number_laws
