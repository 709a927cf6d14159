use Rattle.std.proofs.Common.{rules, ◌≡◌, Some, None}
use Rattle.meets.proofs.OnePlace.{met_into, none_apart}
use Rattle.meets.proofs.meet_into.Goals as goal

pub returns-in_err-both-clause-err : goal.returns-in_err-both-clause-err
returns-in_err-both-clause-err g c =
    let none : None ≡ g.K.Kind.common c.kind_of-held.result c.kind_of-other.result = search rules in
    let apart = none_apart g.K.Kind.laws g.K.Kind.meets c.args.places.now c.args.end c.args.x _ _ c.kind_of-held.ensures c.kind_of-other.ensures none in
    search rules

pub returns-clause-ok : goal.returns-clause-ok
returns-clause-ok g c =
    let some : Some c.in_ok-both.both ≡ g.K.Kind.common c.kind_of-held.result c.kind_of-other.result = search rules in
    met_into g.K.Kind.laws g.K.Kind.meets c.args.places.now c.args.end c.args.x _ _ c.kind_of-held.ensures c.kind_of-other.ensures
    c.in_ok-both.both c.store.result _ some c.store.ensures c.requires.0
