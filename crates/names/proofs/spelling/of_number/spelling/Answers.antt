use Rattle.std.proofs.Common.{refl, sym, subst, ⊎_elim, arith}
use Rattle.names.proofs.Figures.{byte_ascii}
use Rattle.names.proofs.Readings.{number_bounds}
use Rattle.names.proofs.Rest.{Rest, rest_more, rest_zero, rest_none}
use Rattle.names.proofs.Spelt.{there_and_back, spelt_start, spelt_all}
use Rattle.names.proofs.spelling.of_number.spelling.Goals as goal

pub returns-then-number-lt-LEAST-clause-answer : goal.returns-then-number-lt-LEAST-clause-answer
returns-then-number-lt-LEAST-clause-answer c = λ is.
    let b = number_bounds is.bytes is.name in
    ⊎_elim (λ low. omega arith) (λ high. omega arith) c.then-number-lt-LEAST.either

pub returns-then-number-lt-LEAST-clause-laws : goal.returns-then-number-lt-LEAST-clause-laws
returns-then-number-lt-LEAST-clause-laws c = there_and_back

pub loop-rest-init : goal.loop-rest-init
loop-rest-init c = subst (λ bs. Rest c.args.number bs 9065737908494995456 c.args.number) (sym c.new-name.ensures) (record {
  few = omega arith;
  weight = refl;
  less = omega arith;
  bytes = tt;
  whole = spelt_start c.args.number;
})

pub returns-in_err-char_of-clause-answer : goal.returns-in_err-char_of-clause-answer
returns-in_err-char_of-clause-answer c = simp c.from_residual.ensures (rest_zero c.loop-rest.invariant c.loop-rest-test.true c.in_err-char_of.ensures)

pub returns-in_err-char_of-clause-laws : goal.returns-in_err-char_of-clause-laws
returns-in_err-char_of-clause-laws c = there_and_back

pub loop-rest-preserved : goal.loop-rest-preserved
loop-rest-preserved c =
    let f = c.in_ok-char_of.ensures in
    rw (c.push.ensures.ascii (omega (arith, byte_ascii)))
    (rest_more c.in_ok-char_of.field-0 c.loop-rest.invariant c.loop-rest-test.true f.0 f.2)

pub returns-clause-answer : goal.returns-clause-answer
returns-clause-answer c =
    let i = c.loop-rest.invariant in
    spelt_all c.loop-rest.name.bytes c.args.number i.few i.bytes (rest_none i (omega arith)) (omega arith) (omega arith)

pub returns-clause-laws : goal.returns-clause-laws
returns-clause-laws c = there_and_back
