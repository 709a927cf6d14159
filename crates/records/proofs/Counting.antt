-- The counts of a table's places, added up, and what stands where in a table that is counted.
use Rattle.std.proofs.Common.{◌≡◌, ℕ, zero, suc, ◌+◌, ◌<◌, ◌≤◌, List, length, sym, ap, ◌∙◌, inl, inr, add-one, arith}
use Rattle.std.proofs.lemmas.Bool.{cases_lt}
use Rattle.records.specs.declared.PlaceRecord.{PlaceRecord}
use Rattle.records.specs.declared.SlotRecord.{SlotRecord}
use Rattle.records.specs.Tables.{first_at, count_at}
use Rattle.records.specs.Checks.{sum_before, Counted}

-- what never falls from one number to the next never falls
pub rises : (f : ℕ → ℕ) → ((n : ℕ) → f n ≤ f (suc n)) → (i j : ℕ) → i ≤ j → f i ≤ f j
rises f step i zero h = let e : i ≡ 0 = omega arith in omega (arith, ap f e)
rises f step i (suc j) h =
    elim (cases_lt i (suc j)) [
      | inl lt ↦ let le = rises f step i j (omega arith) in let more = step j in omega arith
      | inr ge ↦ let e : i ≡ suc j = omega arith in omega (arith, ap f e)
    ]

module _ {F : Type 0} (ps : List (PlaceRecord F)) where
  pub sum_more : (p : ℕ) → sum_before ps (p + 1) ≡ sum_before ps p + count_at ps p
  sum_more p = ap (sum_before ps) (add-one p)

  pub sum_rises : (p q : ℕ) → p ≤ q → sum_before ps p ≤ sum_before ps q
  sum_rises = rises (sum_before ps) (λ n. omega arith)

module _ {F : Type 0} (ps : List (PlaceRecord F)) (ss : List SlotRecord) (c : Counted ps ss) where
  -- the slots of a place of a counted table
  pub to_is : (p : ℕ) → p < length ps → first_at ps p + count_at ps p ≡ sum_before ps (p + 1)
  to_is p h = ap (λ n. n + count_at ps p) (c.first p h) ∙ sym (sum_more ps p)

  pub to_within : (p : ℕ) → p < length ps → first_at ps p + count_at ps p ≤ length ss
  to_within p h =
      let le = sum_rises ps (p + 1) (length ps) (omega arith) in
      omega (arith, to_is p h, c.total)
