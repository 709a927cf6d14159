use Rattle.std.proofs.Common.{◌≡◌, ℕ, ◌+◌, ◌<◌, get_or, take, set, sym, subst, arith, rules}
use Rattle.std.specs.Prelude.{Some}
use Rattle.std.proofs.lemmas.List.{get_or-take, length-take-le, length-set}
use Rattle.numbering.specs.Quotient.{at}
use Rattle.numbering.specs.Classes.{link, Listed}
use Rattle.numbering.proofs.Listing.{listed_none, listed_more}
use Rattle.numbering.proofs.classes.list_places.Goals as goal

pub loop-x-init : goal.loop-x-init
loop-x-init c = record { listed = listed_none (λ v h. c.requires.blank v); long_last = search rules; long_previous = search rules }

pub loop-x-preserved : goal.loop-x-preserved
loop-x-preserved c =
    let ends = c.args.ends.now in
    let n : ℕ = c.args.n in
    let x : ℕ = c.loop-x.x in
    let last = c.loop-x.last in
    let previous = c.loop-x.previous in
    let within = c.requires.within in
    let inv = c.loop-x.invariant in
    let h : x < n = omega (arith, c.loop-x-test.true, length-take-le n ends within.1.0) in
    let is : get_or (take n ends) x 0 ≡ at ends x = get_or-take n ends x 0 h in
    record {
      listed = subst (λ v. Listed (at ends) n (x + 1) (set last v (Some x)) (set previous x (link last v))) (sym is)
          (listed_more h (within.1.1 x h) (omega (arith, inv.long_last, within.0)) (omega (arith, inv.long_previous, within.0)) inv.listed);
      long_last = simp length-set inv.long_last;
      long_previous = simp length-set inv.long_previous;
    }
