-- The counts of a table's places, added up, and what stands where in a table that is counted.
use Rattle.std.proofs.Common.{◌≡◌, ℕ, zero, suc, ◌+◌, ◌-◌, ◌<◌, ◌≤◌, List, length, sym, ap, ◌∙◌, arith}
use native.Mathlib.Decide.{dec_le, dec_lt}
use Rattle.records.specs.declared.PlaceRecord.{PlaceRecord}
use Rattle.records.specs.declared.SlotRecord.{SlotRecord}
use Rattle.records.specs.Tables.{first_at, count_at, Owns}
use Rattle.records.specs.Checks as checks
use Rattle.records.specs.Checks.{sum_before}
use Rattle.records.proofs.Counting.{to_within}
use Rattle.renumbering.specs.Drafts.{Counted, Rising}

module _ {F : Type 0} (ps : List (PlaceRecord F)) (ss : List SlotRecord) where
  -- a draft counts place by place what the sums of the counts say,
  sum_first : Counted ps ss → (p : ℕ) → p < length ps → first_at ps p ≡ sum_before ps p
  sum_first c zero h = c.first
  sum_first c (suc p) h = omega (arith, c.running p h, sum_first c p (omega arith))

  pub by_sums : 0 < length ps → Counted ps ss → checks.Counted ps ss
  by_sums some c =
      let n : ℕ = length ps - 1 in
      let e : suc n ≡ length ps = omega arith in
      record { first = sum_first c; total = ap (sum_before ps) (sym e) ∙ omega (arith, c.last n e, sum_first c n (omega arith)) }

  -- and they say what it counts
  pub by_places : 0 < length ps → checks.Counted ps ss → Counted ps ss
  by_places some c =
      record {
        first = c.first 0 some;
        running = λ p h. omega (arith, c.first (suc p) h, c.first p (omega arith));
        last = λ p e. let f = c.first p (omega arith) in let t = c.total in let s = ap (sum_before ps) e in omega arith;
      }

  -- within a place of a counted table the names rise as far as the table reaches exactly if they rise
  pub rises_all : checks.Counted ps ss → checks.Rising ps ss → Rising ps ss
  rises_all c r p i h low high = r p h i low high (omega (arith, to_within ps ss c p h))

  module _ (c : Counted ps ss) where
    -- the slots of a place stand before those of each later place
    pub later : (p q : ℕ) → p < q → q < length ps → first_at ps p + count_at ps p ≤ first_at ps q
    later p zero h k = omega arith
    later p (suc q) h k =
        elim (dec_lt p q) [
          | yes lt ↦ omega (arith, later p q lt (omega arith), c.running q k)
          | no ge ↦
              let e : p ≡ q = omega arith in
              rw e (omega (arith, c.running q k))
        ]

    -- and within the table
    pub ends : (p : ℕ) → p < length ps → first_at ps p + count_at ps p ≤ length ss
    ends p h =
        let l = c.last (length ps - 1) (omega arith) in
        elim (dec_lt p (length ps - 1)) [
          | yes lt ↦ omega (arith, later p (length ps - 1) lt (omega arith))
          | no ge ↦
              let e : p ≡ length ps - 1 = omega arith in
              rw e (omega arith)
        ]

    -- a slot belongs to one place
    pub owner_one : (i p q : ℕ) → Owns ps p i → Owns ps q i → p ≡ q
    owner_one i p q a b =
        elim (dec_lt p q) [
          | yes lt ↦ absurd (omega (arith, later p q lt b.place))
          | no ge ↦ elim (dec_lt q p) [ yes lt ↦ absurd (omega (arith, later q p lt a.place)) | no ge' ↦ omega arith ]
        ]

    -- and each to some
    pub owner : 0 < length ps → (i : ℕ) → i < length ss → (p : ℕ) × Owns ps p i
    owner some i h = go (length ps - 1) (omega arith) (omega (arith, c.last (length ps - 1) (omega arith)))
      where
        go : (p : ℕ) → p < length ps → i < first_at ps p + count_at ps p → (p : ℕ) × Owns ps p i
        go zero k l = (0, record { place = k; from = omega (arith, c.first); upto = l })
        go (suc p) k l =
            elim (dec_le (first_at ps (suc p)) i) [
              | yes le ↦ (suc p, record { place = k; from = le; upto = l })
              | no gt ↦ go p (omega arith) (omega (arith, c.running p k))
            ]
