use Rattle.asks.proofs.Adds.{add_sized, add_formed, add_law, add_only}
use Rattle.asks.proofs.Reading.{add_read, add_beside}
use Rattle.asks.proofs.add.add_laws.Goals as goal

pub returns : goal.returns
returns g c =
    let laws = g.K.Kind.laws in
    record {
      sized = add_sized g.K.Kind.top;
      formed = add_formed g.K.Kind.top;
      law = add_law laws;
      only = add_only laws;
      read = add_read laws;
      beside = add_beside laws;
    }
