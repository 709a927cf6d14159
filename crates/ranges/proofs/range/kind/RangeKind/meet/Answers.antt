use Rattle.std.proofs.Common.{◌≡◌, ap, ◌∙◌, w32, SFits, rules}
use Rattle.std.proofs.lemmas.Int.{to_z-of_z}
use Rattle.std.specs.Int.{int_max, int_min}
use Rattle.std.specs.Result.{result_ok}
use Rattle.ranges.specs.Ranges.{made}
use Rattle.ranges.proofs.range.kind.RangeKind.meet.Goals as goal

pub returns : goal.returns
returns c =
    let a : SFits w32 c.max.result = search rules in
    let b : SFits w32 c.min.result = search rules in
    let low : c.max.result ≡ int_max c.args.self.low c.args.other.low = search rules in
    let high : c.min.result ≡ int_min c.args.self.high c.args.other.high = search rules in
    c.ok.ensures.value ∙ ap result_ok (simp to_z-of_z at c.new.ensures) ∙ (λ i. result_ok (made (low i) (high i)))
