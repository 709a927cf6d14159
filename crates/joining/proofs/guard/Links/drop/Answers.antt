use Rattle.std.proofs.Common.{◌≡◌, ℕ, [], ◌++◌, min, List, length, drop, ◌∙◌, arith}
use Rattle.std.specs.List.{range_with_len}
use Rattle.std.proofs.lemmas.List.{drop_all, append-nil}
use Rattle.joining.proofs.guard.Links.drop.Goals as goal

pub returns : goal.returns
returns c =
    let links : List ℕ = c.args.self.0.now in
    let all : min 65536 (length links) ≡ length links = omega arith in
    let none : drop 65536 links ≡ [] = drop_all 65536 links (omega arith) in
    c.own_numbers.ensures ∙ (λ i. range_with_len 0 (all i) ++ none i) ∙ append-nil (range_with_len 0 (length links))
