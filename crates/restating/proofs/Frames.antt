-- The open places: for each its slots that are left, and the place in whose brackets it stands.
use Rattle.std.proofs.Common.{◌≡◌, ℕ, suc, ◌+◌, ◌-◌, ◌<◌, ◌≤◌, List, [], ◌∷◌, ◌++◌, length, get_or, take, drop, Option, ap, ◌∙◌, arith}
use Rattle.std.specs.List.{AllByRecursion}
use Rattle.std.proofs.lemmas.List.{length-take, length-drop, drop_more}
use Rattle.kinds.specs.Laws.{KindLaws}
use Rattle.records.specs.declared.SlotRecord.{SlotRecord}
use Rattle.records.specs.Tables.{blank_slot}
use Rattle.records.specs.Sheets.{Sheet, Formed}
use Rattle.records.proofs.Fields.{first_of, count_of}
use Rattle.reading.specs.declared.draft.Place.{Place}
use Rattle.reading.specs.Drafts.{parent_at}
use Rattle.showing.specs.Shown.{slots_of}
use Rattle.restating.proofs.Listed.{at}
use Rattle.restating.proofs.Related.{end_of, column_old}

-- ---- the slots from i up to j

abbrev pub part : List SlotRecord → ℕ → ℕ → List SlotRecord
part ss i j = take (j - i) (drop i ss)

-- what is left begins with the next slot
pub record First (ss : List SlotRecord) (x : SlotRecord) (xs : List SlotRecord) (i j : ℕ) : Type 0 where
  pub some : i < j
  pub is : x ≡ get_or ss i blank_slot
  pub others : xs ≡ part ss (suc i) j

part_more : (ss : List SlotRecord) (i j : ℕ) → i < j → j ≤ length ss → part ss i j ≡ get_or ss i blank_slot ∷ part ss (suc i) j
part_more ss i j h k =
    let n : j - i ≡ suc (j - suc i) = omega arith in
    let m : i + 1 ≡ suc i = omega arith in
    ap (λ l. take (j - i) l) (drop_more ss i blank_slot (omega arith)) ∙ ap (λ c. take c (get_or ss i blank_slot ∷ drop (i + 1) ss)) n ∙ ap (λ c. get_or ss i blank_slot ∷ take (j - suc i) (drop c ss)) m

pub part_none : (ss : List SlotRecord) (i j : ℕ) → [] ≡ part ss i j → i ≤ j → j ≤ length ss → i ≡ j
part_none ss i j e h k = let l = ap length e in omega (arith, length-take (j - i) (drop i ss), length-drop i ss)

pub part_first : (ss : List SlotRecord) (x : SlotRecord) (xs : List SlotRecord) (i j : ℕ) → x ∷ xs ≡ part ss i j → j ≤ length ss → First ss x xs i j
part_first ss x xs i j e k =
    let l = ap length e in
    let h : i < j = omega (arith, length-take (j - i) (drop i ss), length-drop i ss) in
    let f : x ∷ xs ≡ get_or ss i blank_slot ∷ part ss (suc i) j = e ∙ part_more ss i j h k in
    record { some = h; is = ap (λ l. get_or l 0 blank_slot) f; others = ap (drop 1) f }

-- ---- the stack of open places

-- each stands in the brackets of the next, which has a lesser number; the last is the root
abbrev pub Linked : {K : Type 0} → List (Place K) → List ℕ → Type 0
Linked places [] = Unit {0}
Linked places (k ∷ []) = k ≡ 0
Linked places (k ∷ (j ∷ ks)) = (0 < k) × (parent_at places k ≡ j) × (j < k) × Linked places (j ∷ ks)

module _ {K : Type 0} (places : List (Place K)) where
  pub linked_below : (b k : ℕ) (ks : List ℕ) → k ≤ b → Linked places (k ∷ ks) → AllByRecursion (λ j. j < b) ks
  linked_below b k [] h l = tt
  linked_below b k (j ∷ ks) h l = (omega (arith, l.2), linked_below b j ks (omega (arith, l.2)) l.3)

  pub linked_kept : (x : Place K) (ks : List ℕ) → AllByRecursion (λ k. k < length places) ks → Linked places ks → Linked (places ++ (x ∷ [])) ks
  linked_kept x [] a l = tt
  linked_kept x (k ∷ []) a l = l
  linked_kept x (k ∷ (j ∷ ks)) a l = (l.0, column_old places x (λ z. z.parent) k 0 a.0 ∙ l.1, l.2, linked_kept x (j ∷ ks) a.1 l.3)

module _ {K F : Type 0} {below : K → K → Type 0} {top : K} {form : K → F} {kind : F → Option K} (laws : KindLaws below top form kind) (s : Sheet K) (w : Formed s) where
  pub whole_part : (p : ℕ) → slots_of s p ≡ part s.slots (first_of s p) (end_of laws s w p)
  whole_part p = let n : count_of s p ≡ end_of laws s w p - first_of s p = omega arith in ap (λ c. take c (drop (first_of s p) s.slots)) n

  -- these slots are left of the place that was written as the k-th
  abbrev pub Frame : List ℕ → (ℕ → ℕ) → List SlotRecord → ℕ → Type 0
  Frame written next xs k = (k < length written) × (xs ≡ part s.slots (next (at written k)) (end_of laws s w (at written k)))

  abbrev pub Frames : List ℕ → (ℕ → ℕ) → List (List SlotRecord) → List ℕ → Type 0
  Frames written next [] [] = Unit {0}
  Frames written next [] (k ∷ ks) = ⊥
  Frames written next (xs ∷ left) [] = ⊥
  Frames written next (xs ∷ left) (k ∷ ks) = Frame written next xs k × Frames written next left ks

  pub frames_kept : (written others : List ℕ) (next after : ℕ → ℕ) (b : ℕ)
      → ((k : ℕ) → k < b → k < length written → (k < length others) × (at written k ≡ at others k) × (next (at written k) ≡ after (at others k)))
      → (left : List (List SlotRecord)) (ks : List ℕ) → AllByRecursion (λ k. k < b) ks → Frames written next left ks → Frames others after left ks
  frames_kept written others next after b keeps [] [] a f = tt
  frames_kept written others next after b keeps [] (k ∷ ks) a f = f
  frames_kept written others next after b keeps (xs ∷ left) [] a f = f
  frames_kept written others next after b keeps (xs ∷ left) (k ∷ ks) a f =
      let c = keeps k a.0 f.0.0 in
      ((c.0, f.0.1 ∙ (λ i. part s.slots (c.2 i) (end_of laws s w (c.1 i)))), frames_kept written others next after b keeps left ks a.1 f.1)
