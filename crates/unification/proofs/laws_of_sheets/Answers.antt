use Rattle.records.specs.Sheets.{Reached, root, along}
use Rattle.records.proofs.Shape.{reached}
use Rattle.records.proofs.Unique.{unique, one_image}
use Rattle.unification.proofs.Scanning.{scanned}
use Rattle.unification.proofs.laws_of_sheets.Goals as goal

pub returns : goal.returns
returns g c = record { reached = λ s w. reached s w (Reached s) root (λ p f q e r. along f r e); unique = unique g.K.Kind.laws; image = one_image g.K.Kind.laws; numbering = scanned }
