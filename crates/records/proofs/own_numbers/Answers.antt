use Rattle.std.proofs.Common.{rules, ◌≡◌, ℕ, ◌<◌, ◌++◌, min, List, length, drop, get_or, ap, ap₂, ◌∙◌}
use Rattle.std.proofs.lemmas.List.{drop_min, map-id}
use Rattle.std.proofs.lemmas.List.FromFn.{fill_by_all}
use Rattle.std.specs.List.{range_with_len}
use Rattle.records.proofs.own_numbers.Goals as goal

pub returns : goal.returns
returns c =
    let xs : List ℕ = c.loop-i.entry-items in
    let m : ℕ = c.min-most.result in
    let most : m ≡ min 65536 (length c.args.entries.now) = search rules in
    let long : length xs ≡ m = search rules in
    let all : (k : ℕ) → k < m → get_or xs k 0 ≡ k = λ k h. c.loop-i.invariant k (search rules) in
    ap₂ ◌++◌
    (fill_by_all (λ k. k) xs m 0 long all ∙ map-id (range_with_len 0 m) ∙ ap (range_with_len 0) most)
    (ap (λ n. drop n c.args.entries.now) most ∙ drop_min 65536 c.args.entries.now)
