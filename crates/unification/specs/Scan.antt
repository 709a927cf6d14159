-- The numbering once more, as a scan over the slots with a counter.
use Rattle.std.specs.Prelude.{◌≡◌, ℕ, suc, ◌<◌, ◌≤◌, cond, List, [], ◌∷◌, length, ◌==◌}
use Rattle.records.specs.declared.SlotRecord.{SlotRecord}
use Rattle.records.specs.Tables.{target_at, met}

-- each target is at most `next`, a target that is `next` raises it by one, and it ends at n
abbrev pub Scan : List SlotRecord → ℕ → ℕ → Type 0
Scan [] next n = next ≡ n
Scan (x ∷ xs) next n = (x.target ≤ next) × Scan xs (cond (x.target == next) (suc next) next) n

-- the scan from the root comes to n exactly when the slots number n places as `WellFormed` has it
abbrev pub Scanned : Type 0
Scanned =
    (ss : List SlotRecord) (n : ℕ)
    → (Scan ss 1 n → ((i : ℕ) → i < length ss → target_at ss i ≤ met ss i) × (met ss (length ss) ≡ n))
    × (((i : ℕ) → i < length ss → target_at ss i ≤ met ss i) → met ss (length ss) ≡ n → Scan ss 1 n)
