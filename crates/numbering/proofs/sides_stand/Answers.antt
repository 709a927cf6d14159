use Rattle.numbering.proofs.Sides.{stands, ready, assembled}
use Rattle.numbering.proofs.sides_stand.Goals as goal

pub returns : goal.returns
returns g c =
    record {
      ready = λ s t w v k fs ft b a classes. ready s t v fs ft (stands s t w v b a) k classes;
      assembled = λ s t w v k fs ft b a classes m q. assembled s t v fs ft (stands s t w v b a) k classes m q;
    }
