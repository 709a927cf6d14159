use Rattle.std.proofs.Common.{◌≡◌, ◌-◌, ◌^◌, ◌≤◌, length, take}
use Rattle.std.specs.List.{AllByRecursion as All}
use Rattle.names.specs.Names.{NameByte, number}
use Rattle.names.proofs.number.number_of.Given as goal

-- the bytes so far are a name's, with their number, and the weight is that of the last figure
abbrev pub invariant-loop-byte : goal.invariant-loop-byte
invariant-loop-byte l =
    (length l.bytes ≤ 12)
    × All NameByte (take l.byte-index l.bytes)
    × (l.number ≡ number (take l.byte-index l.bytes))
    × (l.weight ≡ 38 ^ (12 - l.byte-index))
