use Rattle.std.proofs.Common.{length, ap, arith}
use Rattle.numbering.proofs.Given.{nothing}
use Rattle.numbering.proofs.numbers.Numbers.none.Goals as goal

pub invariant_of-result : goal.invariant_of-result
invariant_of-result c =
    record {
      known = λ k h. absurd (omega (arith, h, ap length c.new.ensures));
      only = λ v k is. let z = nothing 1000 v in absurd cc;
    }
