use Rattle.std.proofs.Common.{◌≡◌, ℕ, ◌<◌, length, take, get_or, subst, arith}
use Rattle.std.proofs.lemmas.List.{length-take, get_or-take}
use Rattle.meets.specs.Classes.{class_of, Met, MetInto}
use Rattle.meets.proofs.Meeting.{step}
use Rattle.meets.proofs.meet_classes.Goals as goal

pub loop-x-preserved : goal.loop-x-preserved
loop-x-preserved g c =
    let laws = g.K.Kind.laws in
    let old = c.args.places.now in
    let ends = c.args.ends.now in
    let x = c.loop-x.x in
    let new = c.meet_into.new.places in
    let inside : x < length old = omega (arith, length-take (length old) ends) in
    let read : get_or (take (length old) ends) x 0 ≡ class_of ends x = get_or-take (length old) ends x 0 inside in
    step laws ends old c.loop-x.places x c.requires inside c.loop-x.invariant new
    (subst (λ (e : ℕ). MetInto laws e x c.loop-x.places new) read c.in_ok-meet_into.ensures.ok)

pub returns-clause-met : goal.returns-clause-met
returns-clause-met g c =
    let old = c.args.places.now in
    let all : c.loop-x.x ≡ length old = omega (arith, length-take (length old) c.args.ends.now) in
    subst (λ (n : ℕ). Met g.K.Kind.laws c.args.ends.now n old c.loop-x.places) all c.loop-x.invariant.met
