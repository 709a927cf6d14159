use Rattle.std.proofs.Common.{sym, ◌∙◌}
use Rattle.meets.proofs.Held.{held_at}
use Rattle.meets.proofs.kind_of.Goals as goal

pub returns : goal.returns
returns g c =
    c.load.ensures
    ∙ sym (held_at g.K.Kind.laws c.args.places.now c.args.x c.index-places-x.result c.requires)
