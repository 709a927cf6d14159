use Rattle.std.proofs.Common.{None, refl}
use Rattle.std.proofs.lemmas.List.{get_or-replicate}
use Rattle.showing.proofs.walk.Progress.new.Goals as goal

pub returns : goal.returns
returns c = record { none = c.new.ensures; long = refl; tags = λ p h. get_or-replicate 1000 p None None h; next = refl }
