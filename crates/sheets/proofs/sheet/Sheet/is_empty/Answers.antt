use Rattle.std.proofs.Common.{arith}
use Rattle.sheets.proofs.Answering.{when_so}
use Rattle.sheets.proofs.Showing.{shows_nothing, shows_sheet}
use Rattle.sheets.proofs.sheet.Sheet.is_empty.Goals as goal

pub returns : goal.returns
returns g c =
    let s = c.args.self.now in
    when_so _
    (λ e. shows_nothing s (search (arith, c.is_empty.ensures)))
    (λ e. shows_sheet s (search (arith, c.is_empty.ensures)))
