-- What the records of a sheet that stands behind others say.
use Rattle.std.proofs.Common.{◌≡◌, ℕ, zero, suc, ◌+◌, ◌<◌, List, [], ◌∷◌, map, length, refl, arith}
use Rattle.records.specs.declared.PlaceRecord.{PlaceRecord}
use Rattle.records.specs.declared.SlotRecord.{SlotRecord}
use Rattle.records.specs.Tables.{first_at, count_at, kind_at, name_at, target_at}
use Rattle.asks.specs.Asks.{moved_place, moved_slot}

module _ {K : Type 0} (n : ℕ) where
  pub first_moved : (ps : List (PlaceRecord K)) (p : ℕ) → p < length ps → first_at (map (moved_place n) ps) p ≡ n + first_at ps p
  first_moved [] p h = absurd (omega arith)
  first_moved (r ∷ ps) zero h = refl
  first_moved (r ∷ ps) (suc p) h = first_moved ps p (omega arith)

  pub count_moved : (ps : List (PlaceRecord K)) (p : ℕ) → count_at (map (moved_place n) ps) p ≡ count_at ps p
  count_moved [] p = refl
  count_moved (r ∷ ps) zero = refl
  count_moved (r ∷ ps) (suc p) = count_moved ps p

  pub kind_moved : (d : K) (ps : List (PlaceRecord K)) (p : ℕ) → kind_at d (map (moved_place n) ps) p ≡ kind_at d ps p
  kind_moved d [] p = refl
  kind_moved d (r ∷ ps) zero = refl
  kind_moved d (r ∷ ps) (suc p) = kind_moved d ps p

pub name_moved : (n : ℕ) (ss : List SlotRecord) (i : ℕ) → name_at (map (moved_slot n) ss) i ≡ name_at ss i
name_moved n [] i = refl
name_moved n (r ∷ ss) zero = refl
name_moved n (r ∷ ss) (suc i) = name_moved n ss i

pub target_moved : (n : ℕ) (ss : List SlotRecord) (i : ℕ) → i < length ss → target_at (map (moved_slot n) ss) i ≡ n + target_at ss i
target_moved n [] i h = absurd (omega arith)
target_moved n (r ∷ ss) zero h = refl
target_moved n (r ∷ ss) (suc i) h = target_moved n ss i (omega arith)
