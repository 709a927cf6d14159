-- Either a check of two tables finds its fault, or the tables have what it asks.
use Rattle.std.proofs.Common.{ℕ, zero, suc, ◌+◌, ◌<◌, ◌≤◌, ◌≢◌, ◌⊎◌, List, length, inl, inr, arith, below_more}
use native.Mathlib.Decide.{dec_le, dec_lt, ℕ_discrete}
use Rattle.records.specs.declared.PlaceRecord.{PlaceRecord}
use Rattle.records.specs.declared.SlotRecord.{SlotRecord}
use Rattle.records.specs.Tables.{first_at, count_at, name_at, target_at}
use Rattle.records.specs.Checks.{sum_before, Counted, Aimed, Rising, RisingAt}
use Rattle.records.proofs.Counting.{to_within}
use Rattle.records.proofs.Pigeons.{look}
use Rattle.names.specs.Names.{IsName}
use Rattle.sheets.specs.Checks.{Named, Nameless, WrongCounts, first, total, Outside, NotRising}
use Rattle.sheets.proofs.Deciding.{is_name}

pub nameless_or : (ss : List SlotRecord) → Nameless ss ⊎ Named ss
nameless_or ss =
    elim (look (λ i. IsName (name_at ss i) → ⊥) (λ i. elim (is_name (name_at ss i)) [ inl is ↦ no (λ none. none is) | inr none ↦ yes none ]) (length ss)) [
      | inl f ↦ inl (record { slot = f.0; within = f.1; nameless = f.2 })
      | inr all ↦ inr (λ i h. elim (is_name (name_at ss i)) [ inl is ↦ is | inr none ↦ absurd (all i h none) ])
    ]

module _ {F : Type 0} (ps : List (PlaceRecord F)) (ss : List SlotRecord) where
  pub wrong_counts_or : WrongCounts ps ss ⊎ Counted ps ss
  wrong_counts_or =
      elim (look (λ p. first_at ps p ≢ sum_before ps p) (λ p. elim (ℕ_discrete (first_at ps p) (sum_before ps p)) [ yes e ↦ no (λ ne. ne e) | no ne ↦ yes ne ]) (length ps)) [
        | inl f ↦ inl (first f.0 f.1 f.2)
        | inr all ↦
            elim (ℕ_discrete (sum_before ps (length ps)) (length ss)) [
              | no ne ↦ inl (total ne)
              | yes e ↦
                  inr (record {
                    first = λ p h. elim (ℕ_discrete (first_at ps p) (sum_before ps p)) [ yes e ↦ e | no ne ↦ absurd (all p h ne) ];
                    total = e;
                  })
            ]
      ]

  pub right_counts : Counted ps ss → WrongCounts ps ss → ⊥
  right_counts c w = elim w [ first p h ne ↦ ne (c.first p h) | total ne ↦ ne c.total ]

  pub outside_or : Outside ps ss ⊎ Aimed ps ss
  outside_or =
      elim (look (λ i. length ps ≤ target_at ss i) (λ i. dec_le (length ps) (target_at ss i)) (length ss)) [
        | inl f ↦ inl (record { slot = f.0; within = f.1; past = f.2 })
        | inr all ↦ inr (λ i h. elim (dec_lt (target_at ss i) (length ps)) [ yes lt ↦ lt | no ge ↦ absurd (all i h (omega arith)) ])
      ]

  pub inside : Aimed ps ss → Outside ps ss → ⊥
  inside a w = omega (arith, a w.slot w.within, w.past)

  -- the names of the slots i and i + 1 of the place p do not rise
  abbrev Falls : ℕ → ℕ → Type 0
  Falls p i = (first_at ps p ≤ i) × (suc i < first_at ps p + count_at ps p) × (name_at ss (suc i) ≤ name_at ss i)

  falls : (p i : ℕ) → Dec (Falls p i)
  falls p i =
      elim (dec_le (first_at ps p) i) [
        | no none ↦ no (λ f. none f.0)
        | yes low ↦
            elim (dec_lt (suc i) (first_at ps p + count_at ps p)) [
              | no none ↦ no (λ f. none f.1)
              | yes high ↦ elim (dec_le (name_at ss (suc i)) (name_at ss i)) [ no none ↦ no (λ f. none f.2) | yes le ↦ yes (low, high, le) ]
            ]
      ]

  not_rising_or_below : (n : ℕ) → n ≤ length ps → NotRising ps ss ⊎ ((p : ℕ) → p < n → RisingAt ps ss p)
  not_rising_or_below zero h = inr (λ p l. absurd (omega arith))
  not_rising_or_below (suc n) h =
      elim (not_rising_or_below n (omega arith)) [
        | inl w ↦ inl w
        | inr before ↦
            elim (look (Falls n) (falls n) (length ss)) [
              | inl f ↦
                  let low = f.2.0 in
                  let high = f.2.1 in
                  inl (record {
                    place = n;
                    slot = f.0;
                    one = record { place = omega arith; from = low; upto = omega arith };
                    next = record { place = omega arith; from = omega arith; upto = high };
                    falls = f.2.2;
                  })
              | inr all ↦
                  let here : RisingAt ps ss n = λ i low high within.
                  elim (dec_lt (name_at ss i) (name_at ss (suc i))) [ yes lt ↦ lt | no ge ↦ absurd (all i (omega arith) (low, high, omega arith)) ] in
                  inr (λ p l. below_more (RisingAt ps ss) n before here p (omega arith))
            ]
      ]

  pub not_rising_or : NotRising ps ss ⊎ Rising ps ss
  not_rising_or = not_rising_or_below (length ps) (omega arith)

  pub rising : Counted ps ss → Rising ps ss → NotRising ps ss → ⊥
  rising c r w =
      let within = to_within ps ss c w.place w.one.place in
      omega (arith, r w.place w.one.place w.slot w.one.from w.next.upto (omega (arith, w.next.upto)), w.falls)
