-- The numbering of places by the slots in turn.
use native.Mathlib.Nat.{add-zero}
use Rattle.std.proofs.Common.{◌≡◌, ℕ, zero, suc, ◌+◌, ◌-◌, ◌<◌, ◌≤◌, List, length, take, drop, sym, ap, ◌∙◌, inl, inr, arith}
use Rattle.std.proofs.lemmas.Bool.{cases_lt}
use Rattle.records.specs.declared.PlaceRecord.{PlaceRecord}
use Rattle.records.specs.declared.SlotRecord.{SlotRecord}
use Rattle.records.specs.Tables.{first_at, count_at, target_at, met}
use Rattle.sheets.specs.Checks.{OtherNumbering, late, ahead, unreached}
use Rattle.records.specs.Checks.{Counted, sum_before}
use Rattle.records.proofs.Counting.{rises, to_is, to_within}
use Rattle.records.proofs.Owned.{part_target, own_length, own_target}
use Rattle.sheets.specs.Scans.{Ahead, met_from}

module _ (ss : List SlotRecord) where
  pub met_rises : (i j : ℕ) → i ≤ j → met ss i ≤ met ss j
  met_rises = rises (met ss) (λ n. omega arith)

  -- no more places are numbered than there are, where each slot leads to one
  pub met_within : (n : ℕ) → 0 < n → ((i : ℕ) → i < length ss → target_at ss i < n) → (k : ℕ) → k ≤ length ss → met ss k ≤ n
  met_within n some inside zero h = omega arith
  met_within n some inside (suc k) h =
      let before = met_within n some inside k (omega arith) in
      let here = inside k (omega arith) in
      omega arith

  -- the places that the n slots from `from` number
  pub met_part : (from n k : ℕ) → k ≤ n → met_from (met ss from) (take n (drop from ss)) k ≡ met ss (from + k)
  met_part from n zero h = ap (met ss) (sym (add-zero from))
  met_part from n (suc k) h =
      let e : from + suc k ≡ suc (from + k) = omega arith in
      omega (arith, met_part from n k (omega arith), part_target ss from n k (omega arith), ap (met ss) e)

module _ {F : Type 0} (ps : List (PlaceRecord F)) (ss : List SlotRecord) where
  -- every place is reached where each has its number before its own slots are read
  pub reached : Counted ps ss → ((p : ℕ) → p < length ps → p < met ss (first_at ps p)) → length ps ≤ met ss (length ss)
  reached c begun =
      elim (cases_lt 0 (length ps)) [
        | inl some ↦
            let last = begun (length ps - 1) (omega arith) in
            let in' : length ps - 1 < length ps = omega arith in
            let le = met_rises ss (first_at ps (length ps - 1)) (length ss) (omega (arith, to_within ps ss c (length ps - 1) in')) in
            omega arith
        | inr none ↦ omega arith
      ]

  pub numbered_so : Counted ps ss → ((p : ℕ) → p < length ps → p < met ss (first_at ps p)) → ((i : ℕ) → i < length ss → target_at ss i ≤ met ss i) → OtherNumbering ps ss → ⊥
  numbered_so c begun close w =
      elim w [
        | late p h no_number ↦ omega (arith, begun p h)
        | ahead i h past ↦ omega (arith, close i h)
        | unreached few ↦ omega (arith, reached c begun)
      ]

-- the turn of the place p, whose slots are xs, where `next` places are numbered before it
module _ {F : Type 0} (ps : List (PlaceRecord F)) (ss : List SlotRecord) (c : Counted ps ss) (p : ℕ) (h : p < length ps) (next : ℕ) (xs : List SlotRecord)
    (begun : next ≡ met ss (first_at ps p)) (own : xs ≡ take (count_at ps p) (drop (first_at ps p) ss)) where
  turn_met_at : (k : ℕ) → k ≤ count_at ps p → met_from next xs k ≡ met ss (first_at ps p + k)
  turn_met_at k l = ap (λ n. met_from n xs k) begun ∙ ap (λ l. met_from (met ss (first_at ps p)) l k) own ∙ met_part ss (first_at ps p) (count_at ps p) k l

  pub turn_ahead : Ahead next xs → OtherNumbering ps ss
  turn_ahead w =
      let l : w.slot < count_at ps p = omega (arith, w.within, own_length ps ss c p h xs own) in
      ahead (first_at ps p + w.slot) (omega (arith, to_within ps ss c p h)) (omega (arith, w.ahead, turn_met_at w.slot (omega arith), own_target ps ss c p h xs own w.slot l))

  pub turn_met : met_from next xs (length xs) ≡ met ss (sum_before ps (p + 1))
  turn_met = ap (met_from next xs) (own_length ps ss c p h xs own) ∙ turn_met_at (count_at ps p) (omega arith) ∙ ap (met ss) (to_is ps ss c p h)

  pub turn_close : (Ahead next xs → ⊥) → (i : ℕ) → first_at ps p ≤ i → i < sum_before ps (p + 1) → target_at ss i ≤ met ss i
  turn_close none i low high =
      let k : ℕ = i - first_at ps p in
      let l : k < count_at ps p = omega (arith, to_is ps ss c p h) in
      let e : first_at ps p + k ≡ i = omega arith in
      elim (cases_lt (met_from next xs k) (target_at xs k)) [
        | inl lt ↦ absurd (none (record { slot = k; within = omega (arith, own_length ps ss c p h xs own); ahead = lt }))
        | inr ge ↦ omega (arith, turn_met_at k (omega arith), own_target ps ss c p h xs own k l, ap (met ss) e, ap (target_at ss) e)
      ]
