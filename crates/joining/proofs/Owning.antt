-- Links that hold their own numbers, as a list.
use Rattle.std.proofs.Common.{◌≡◌, ℕ, List, length, ◌∙◌, arith}
use Rattle.std.specs.List.{range_with_len}
use Rattle.std.proofs.lemmas.List.FromFn.{fill_by_all}
use Rattle.std.proofs.lemmas.List.{get_or_default, map-id}
use Rattle.joining.specs.Forest.{Own}

pub own_counting : (links : List ℕ) → Own links → links ≡ range_with_len 0 (length links)
own_counting links own =
    fill_by_all (λ k. k) links (length links) 0 (omega arith) (λ k l. get_or_default links k 0 k l ∙ own k) ∙ map-id (range_with_len 0 (length links))
