-- The slots of a place, as a part of the table of slots.
use Rattle.std.proofs.Common.{◌≡◌, ℕ, suc, ◌+◌, ◌-◌, ◌<◌, ◌≤◌, Bool, true, false, ltb, List, length, take, drop, get_or, Decides, sym, refl, ap, ◌∙◌, arith}
use Rattle.std.specs.List.{IsAllAdjacentAnswer}
use Rattle.std.proofs.lemmas.List.{get_or-take, get_or-drop, length-take, length-drop}
use Rattle.std.proofs.lemmas.Bool.{false≢true}
use Rattle.std.proofs.lemmas.Bool.Decides.{Decides-ltb}
use Rattle.records.specs.declared.PlaceRecord.{PlaceRecord}
use Rattle.records.specs.declared.SlotRecord.{SlotRecord}
use Rattle.records.specs.Tables.{first_at, count_at, name_at, target_at, blank_slot}
use Rattle.records.specs.Checks.{Counted, RisingAt}
use Rattle.records.proofs.Counting.{to_within}

module _ (ss : List SlotRecord) (from n : ℕ) where
  part_slot : (k : ℕ) → k < n → get_or (take n (drop from ss)) k blank_slot ≡ get_or ss (from + k) blank_slot
  part_slot k h = get_or-take n (drop from ss) k blank_slot h ∙ get_or-drop from ss k blank_slot

  part_name : (k : ℕ) → k < n → name_at (take n (drop from ss)) k ≡ name_at ss (from + k)
  part_name k h = ap (λ s. s.name) (part_slot k h)

  pub part_target : (k : ℕ) → k < n → target_at (take n (drop from ss)) k ≡ target_at ss (from + k)
  part_target k h = ap (λ s. s.target) (part_slot k h)

  part_length : from + n ≤ length ss → length (take n (drop from ss)) ≡ n
  part_length h = omega (arith, length-take n (drop from ss), length-drop from ss)

  part_in : (k : ℕ) → k < length (take n (drop from ss)) → (k < n) × (from + k < length ss)
  part_in k h = (omega (arith, length-take n (drop from ss)), omega (arith, length-take n (drop from ss), length-drop from ss))

  in_part : (k : ℕ) → k < n → from + k < length ss → k < length (take n (drop from ss))
  in_part k h l = omega (arith, length-take n (drop from ss), length-drop from ss)

-- the answer whether the names of the slots of a place rise
pub rising_answer : {F : Type 0} (ps : List (PlaceRecord F)) (ss : List SlotRecord) (p : ℕ) (r : Bool)
    → IsAllAdjacentAnswer (λ (x : SlotRecord) (y : SlotRecord) (b : Bool). b ≡ ltb x.name y.name) (take (count_at ps p) (drop (first_at ps p) ss)) r
    → Decides r (RisingAt ps ss p)
rising_answer ps ss p true a = (
  λ _ i low high within.
      let from : ℕ = first_at ps p in
      let n : ℕ = count_at ps p in
      let k : ℕ = i - from in
      let there : k + 1 < length (take n (drop from ss)) = in_part ss from n (k + 1) (omega arith) (omega arith) in
      let e : from + k ≡ i = omega arith in
      let e' : from + (k + 1) ≡ suc i = omega arith in
      let less = (Decides-ltb _ _).0 (sym (a k blank_slot there)) in
      omega (arith, less, part_name ss from n k (omega arith), part_name ss from n (k + 1) (omega arith), ap (name_at ss) e, ap (name_at ss) e'),
  λ _. refl,
)
rising_answer ps ss p false a = (
  λ e. absurd (false≢true e),
  λ rising.
      let from : ℕ = first_at ps p in
      let n : ℕ = count_at ps p in
      let k : ℕ = a.0 in
      let there = part_in ss from n (k + 1) a.1 in
      let e : from + (k + 1) ≡ suc (from + k) = omega arith in
      let less = rising (from + k) (omega arith) (omega arith) (omega arith) in
      a.2 blank_slot ∙ (Decides-ltb _ _).1 (omega (arith, less, part_name ss from n k (omega arith), part_name ss from n (k + 1) (omega arith), ap (name_at ss) e)),
)

-- in a table that is counted these are as many as the place counts, and lead where the place's slots do
module _ {F : Type 0} (ps : List (PlaceRecord F)) (ss : List SlotRecord) (c : Counted ps ss) (p : ℕ) (h : p < length ps) (xs : List SlotRecord)
    (own : xs ≡ take (count_at ps p) (drop (first_at ps p) ss)) where
  pub own_length : length xs ≡ count_at ps p
  own_length = ap length own ∙ part_length ss (first_at ps p) (count_at ps p) (to_within ps ss c p h)

  pub own_target : (k : ℕ) → k < count_at ps p → target_at xs k ≡ target_at ss (first_at ps p + k)
  own_target k l = ap (λ l. target_at l k) own ∙ part_target ss (first_at ps p) (count_at ps p) k l
