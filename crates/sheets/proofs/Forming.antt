-- A table without a fault holds a sheet, and a table that holds a sheet has none.
use Rattle.std.proofs.Common.{◌≡◌, ℕ, zero, suc, ◌+◌, ◌<◌, ◌≤◌, ◌⊎◌, List, [], ◌∷◌, length, take, is_ok, Some, None, Ok, Err, Option, Decides, Result, sym, refl, ap, ◌∙◌, inl, inr, arith}
use Rattle.std.proofs.lemmas.List.{length-take-le}
use Rattle.std.proofs.lemmas.Bool.{cases_lt}
use Rattle.records.specs.declared.PlaceRecord.{PlaceRecord}
use Rattle.records.specs.declared.SlotRecord.{SlotRecord}
use Rattle.records.specs.Tables.{first_at, count_at, target_at, met, WellFormed}
use Rattle.records.specs.Checks.{sum_before, Counted, Aimed, Rising}
use Rattle.records.proofs.Counting.{to_within}
use Rattle.sheets.specs.Checks.{Named, Nameless, TooMany, places_limit, places_table, slots_limit, slots_table, WrongCounts, Outside, NotRising, OtherNumbering, late, ahead, unreached, Holds, table_checks}
use Rattle.sheets.specs.Refusals.{Answered, refusal}
use Rattle.sheets.specs.Faults.{number_of}
use Rattle.sheets.specs.declared.fault.SheetFault.{SheetFault}
use Rattle.sheets.proofs.Answering.{one_answer, none_holds, decides_no}
use Rattle.sheets.proofs.Finding.{nameless_or, wrong_counts_or, right_counts, outside_or, inside, not_rising_or, rising}
use Rattle.sheets.proofs.Numbered.{met_rises, met_within, numbered_so}

-- one of two that does not fail
this_not_that : {P Q : Type 0} → P ⊎ Q → (Q → ⊥) → P
this_not_that x none = elim x [ inl p ↦ p | inr q ↦ absurd (none q) ]

that_not_this : {P Q : Type 0} → P ⊎ Q → (P → ⊥) → Q
that_not_this x none = elim x [ inl p ↦ absurd (none p) | inr q ↦ q ]

module _ {F : Type 0} (ps : List (PlaceRecord F)) (ss : List SlotRecord) where
  pub well_formed : 0 < length ps → Counted ps ss → Aimed ps ss → Rising ps ss → (OtherNumbering ps ss → ⊥) → WellFormed ps ss
  well_formed some c aimed rises numbered = record {
    rooted = some;
    first = c.first 0 some;
    running = λ p h. c.first (suc p) h ∙ ap (λ n. n + count_at ps p) (sym (c.first p (omega arith)));
    last = λ p e. ap (λ n. n + count_at ps p) (c.first p (omega arith)) ∙ (ap (sum_before ps) e ∙ c.total);
    rising = λ p i h low high. rises p h i low high (omega (arith, to_within ps ss c p h));
    begun = λ p h.
        elim (cases_lt p (met ss (first_at ps p))) [ inl lt ↦ lt | inr ge ↦ absurd (numbered (late p h ge)) ];
    close = λ i h.
        elim (cases_lt (met ss i) (target_at ss i)) [ inl lt ↦ absurd (numbered (ahead i h lt)) | inr ge ↦ ge ];
    full =
        elim (cases_lt (met ss (length ss)) (length ps)) [
          | inl lt ↦ absurd (numbered (unreached lt))
          | inr ge ↦ omega (arith, met_within ss (length ps) some aimed (length ss) (omega arith))
        ];
  }

  module _ (w : WellFormed ps ss) where
    firsts : (p : ℕ) → p < length ps → first_at ps p ≡ sum_before ps p
    firsts zero h = w.first
    firsts (suc p) h = w.running p h ∙ ap (λ n. n + count_at ps p) (firsts p (omega arith))

    totals : (n : ℕ) → n ≡ length ps → sum_before ps n ≡ length ss
    totals zero e = absurd (omega (arith, w.rooted))
    totals (suc p) e = ap (λ n. n + count_at ps p) (sym (firsts p (omega arith))) ∙ w.last p e

    pub formed_counted : Counted ps ss
    formed_counted = record { first = firsts; total = totals (length ps) refl }

    pub formed_aimed : Aimed ps ss
    formed_aimed i h =
        let le = met_rises ss (suc i) (length ss) h in
        omega (arith, w.full)

    pub formed_rising : Rising ps ss
    formed_rising p h i low high within = w.rising p i h low high

    pub formed_numbered : OtherNumbering ps ss → ⊥
    formed_numbered = numbered_so ps ss formed_counted w.begun w.close

module _ {F : Type 0} (ps : List (PlaceRecord F)) (ss : List SlotRecord) (n m : ℕ) where
  pub few : n ≤ 1000 → n ≤ length ps → m ≤ 4000 → m ≤ length ss → TooMany ps ss n m → ⊥
  few a b c d t = elim t [ places_limit h ↦ omega arith | places_table h ↦ omega arith | slots_limit h ↦ omega arith | slots_table h ↦ omega arith ]

  module _ (some : 0 < n) (a : n ≤ 1000) (b : n ≤ length ps) (c : m ≤ 4000) (d : m ≤ length ss) where
    -- the checks of tables within the limits, after those of the limits
    past : {answer : Option ℕ} → Answered ((52, WrongCounts (take n ps) (take m ss) ⊎ Outside (take n ps) (take m ss)) ∷ (53, Nameless (take m ss) ⊎ NotRising (take n ps) (take m ss)) ∷ (54, OtherNumbering (take n ps) (take m ss)) ∷ []) answer
        → Answered (table_checks ps ss n m) answer
    past later = inr (λ none. omega arith, inr (few a b c d, later))

    pub refuses_counts : (Counted (take n ps) (take m ss) → ⊥) ⊎ (Aimed (take n ps) (take m ss) → ⊥) → Answered (table_checks ps ss n m) (Some 52)
    refuses_counts why = past (inl (elim why [ inl none ↦ inl (this_not_that (wrong_counts_or _ _) none) | inr none ↦ inr (this_not_that (outside_or _ _) none) ], refl))

    module _ (counted : Counted (take n ps) (take m ss)) (aimed : Aimed (take n ps) (take m ss)) where
      right : WrongCounts (take n ps) (take m ss) ⊎ Outside (take n ps) (take m ss) → ⊥
      right x = elim x [ inl w ↦ right_counts _ _ counted w | inr o ↦ inside _ _ aimed o ]

      pub refuses_names : (Named (take m ss) → ⊥) ⊎ (Rising (take n ps) (take m ss) → ⊥) → Answered (table_checks ps ss n m) (Some 53)
      refuses_names why = past (inr (right, inl (elim why [ inl none ↦ inl (this_not_that (nameless_or _) none) | inr none ↦ inr (this_not_that (not_rising_or _ _) none) ], refl)))

      module _ (named : Named (take m ss)) (rises : Rising (take n ps) (take m ss)) where
        naming : Nameless (take m ss) ⊎ NotRising (take n ps) (take m ss) → ⊥
        naming x = elim x [ inl w ↦ w.nameless (named w.slot w.within) | inr w ↦ rising _ _ counted rises w ]

        pub refuses_numbering : OtherNumbering (take n ps) (take m ss) → Answered (table_checks ps ss n m) (Some 54)
        refuses_numbering other = past (inr (right, inr (naming, inl (other, refl))))

        pub passes : (OtherNumbering (take n ps) (take m ss) → ⊥) → Answered (table_checks ps ss n m) None
        passes numbered = past (inr (right, inr (naming, inr (numbered, refl))))

  -- none of the checks refuses tables that hold a sheet
  held_passes : Holds ps ss n m → Answered (table_checks ps ss n m) None
  held_passes h =
      let s = h.sheet in
      let w = s.formed in
      let len = length-take-le n ps h.places in
      let wid = length-take-le m ss h.slots in
      passes (omega (arith, w.rooted, len)) (omega (arith, s.few_places, len)) h.places (omega (arith, s.few_slots, wid)) h.slots
      (formed_counted _ _ w) (formed_aimed _ _ w) s.named (formed_rising _ _ w) (formed_numbered _ _ w)

  -- tables that no check refuses hold a sheet
  passed_holds : Answered (table_checks ps ss n m) None → Holds ps ss n m
  passed_holds a =
      let none = none_holds (table_checks ps ss n m) a in
      let few_so = none.1.0 in
      let within : n ≤ length ps = elim (cases_lt (length ps) n) [ inl lt ↦ absurd (few_so (places_table lt)) | inr ge ↦ ge ] in
      let beside : m ≤ length ss = elim (cases_lt (length ss) m) [ inl lt ↦ absurd (few_so (slots_table lt)) | inr ge ↦ ge ] in
      let len = length-take-le n ps within in
      let wid = length-take-le m ss beside in
      let some : 0 < length (take n ps) = elim (cases_lt 0 n) [ inl lt ↦ omega arith | inr zero' ↦ absurd (none.0 (omega arith)) ] in
      record {
        places = within;
        slots = beside;
        sheet = record {
          few_places = elim (cases_lt 1000 n) [ inl lt ↦ absurd (few_so (places_limit lt)) | inr ge ↦ omega arith ];
          few_slots = elim (cases_lt 4000 m) [ inl lt ↦ absurd (few_so (slots_limit lt)) | inr ge ↦ omega arith ];
          formed = well_formed _ _ some
              (that_not_this (wrong_counts_or _ _) (λ w. none.1.1.0 (inl w))) (that_not_this (outside_or _ _) (λ w. none.1.1.0 (inr w)))
              (that_not_this (not_rising_or _ _) (λ w. none.1.1.1.0 (inr w))) none.1.1.1.1.0;
          named = that_not_this (nameless_or _) (λ w. none.1.1.1.0 (inl w));
        };
      }

  -- the check is accepted exactly if the tables hold a sheet
  pub acceptance : {A : Type 0} (r : Result A SheetFault) → Answered (table_checks ps ss n m) (refusal number_of r) → Decides (is_ok r) (Holds ps ss n m)
  acceptance (Ok u) a = (λ _. passed_holds a, λ _. refl)
  acceptance (Err e) a =
      decides_no (λ h.
      let same = one_answer (table_checks ps ss n m) (Some (number_of e)) None a (held_passes h) in
      let z : ◌≡◌ {A = ℕ} 0 1 = cc in omega arith)
