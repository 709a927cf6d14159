use Rattle.std.proofs.Common.{◌≡◌, ℕ, ◌<◌}
use Rattle.records.specs.Tables.{first_at}
use Rattle.records.specs.Checks.{sum_before}
use Rattle.records.proofs.Tables.is_counted.Given as goal

abbrev pub invariant-loop-place : goal.invariant-loop-place
invariant-loop-place g l =
    (l.sum ≡ sum_before l.self.places.now l.place-index)
    × ((p : ℕ) → p < l.place-index → first_at l.self.places.now p ≡ sum_before l.self.places.now p)
