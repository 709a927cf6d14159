use Rattle.std.proofs.Common.{rules}
use Rattle.joining.proofs.Forests.{ends_joined}
use Rattle.joining.proofs.links.join.Goals as goal

pub returns-clause-merges : goal.returns-clause-merges
returns-clause-merges c =
    (ends_joined c.args.links.now c.requires.forest c.args.x c.args.y c.end_of-a.result c.end_of-b.result _ _ c.end_of-a.ensures.found c.end_of-b.ensures.found
    c.if-a-b.false (search rules) (search rules) (search rules)).0

pub returns-clause-tells : goal.returns-clause-tells
returns-clause-tells c =
    (ends_joined c.args.links.now c.requires.forest c.args.x c.args.y c.end_of-a.result c.end_of-b.result _ _ c.end_of-a.ensures.found c.end_of-b.ensures.found
    c.if-a-b.false (search rules) (search rules) (search rules)).1
