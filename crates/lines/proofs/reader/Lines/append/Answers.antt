use Rattle.std.proofs.Common.{◌+◌, ◌≤◌, length, refl, arith}
use Rattle.lines.proofs.Held.{drop_written, length_written}
use Rattle.lines.proofs.reader.Lines.append.Goals as goal

pub returns-clause-kept : goal.returns-clause-kept
returns-clause-kept c =
    let old = c.args.self.now.buffer.now in
    let bytes = c.args.bytes.now in
    let copied = c.copy_from_slice.ensures.after in
    let fits = rw c.in-Ok.is at c.args.self.now.fits in
    let room : c.in-Ok.len + length bytes ≤ length old = omega arith in
    record {
      loan = refl;
      room = length_written c.in-Ok.len old c.copy_from_slice.new.self bytes copied room;
      untouched = drop_written c.in-Ok.len old c.copy_from_slice.new.self bytes copied room;
    }
