-- Each place is written once, so no more places are open at once than there are.
use Rattle.std.proofs.Common.{◌≡◌, ℕ, zero, suc, ◌<◌, ◌≤◌, Bool, true, false, ◌||◌, eqb, ◌≢◌, ◌⊎◌, List, [], ◌∷◌, ◌++◌, length, get_or, drop, Option, sym, refl, ap, ◌∙◌, subst, inl, inr, ⊎_elim, arith}
use Rattle.std.proofs.lemmas.List.{length_push, get_or_push, get_or_append_left}
use Rattle.std.proofs.lemmas.Bool.{cases_eq, cases_lt, false≢true, or_cases, or_from, or_parts, or_left, or_right, eqb-true, eqb-false, eq-eqb, ne_eqb}
use Rattle.std.specs.List.{All}
use Rattle.std.proofs.lemmas.List.Elements.{All-nil, All-cons, All-head, All-tail, All-take, All-drop, All-from_get_or}
use Rattle.kinds.specs.Laws.{KindLaws}
use Rattle.records.specs.declared.SlotRecord.{SlotRecord}
use Rattle.records.specs.Tables.{blank_slot, count_at, first_at}
use Rattle.records.specs.Sheets.{Sheet, size, Formed}
use Rattle.records.proofs.Shape.{target_in}
use Rattle.records.proofs.Pigeons.{pigeon}
use Rattle.vocabulary.specs.Texts.{Text}
use Rattle.showing.specs.Shown.{slots_of, has, Walk, TooDeep}
use Rattle.showing.specs.Shown.Walk.{begins, closes, refers, enters}

-- ---- the places of a list

pub not_at : (qs : List ℕ) (p i : ℕ) → has qs p ≡ false → i < length qs → get_or qs i 0 ≢ p
not_at [] p i none h e = omega arith
not_at (q ∷ qs) p zero none h e = eqb-false q p (or_parts (eqb q p) (has qs p) none).0 e
not_at (q ∷ qs) p (suc i) none h e = not_at qs p i (or_parts (eqb q p) (has qs p) none).1 (omega arith) e

pub has_at : (qs : List ℕ) (i : ℕ) → i < length qs → has qs (get_or qs i 0) ≡ true
has_at [] i h = absurd (omega arith)
has_at (q ∷ qs) zero h = or_left (eqb q q) (has qs q) (eq-eqb q q refl)
has_at (q ∷ qs) (suc i) h = or_right (eqb q (get_or qs i 0)) (has qs (get_or qs i 0)) (has_at qs i (omega arith))

-- one more place
pub has_other : (qs : List ℕ) (q p : ℕ) → (q ≡ p → ⊥) → has (qs ++ (q ∷ [])) p ≡ has qs p
has_other [] q p other = or_from (eqb q p) false (ne_eqb q p other) refl
has_other (r ∷ qs) q p other = ap (λ (b : Bool). eqb r p || b) (has_other qs q p other)

pub has_new : (qs : List ℕ) (q : ℕ) → has (qs ++ (q ∷ [])) q ≡ true
has_new [] q = or_left (eqb q q) false (eq-eqb q q refl)
has_new (r ∷ qs) q = or_right (eqb r q) (has (qs ++ (q ∷ [])) q) (has_new qs q)

pub has_push : (qs : List ℕ) (q p : ℕ) → has (qs ++ (q ∷ [])) p ≡ true → (q ≡ p) ⊎ (has qs p ≡ true)
has_push qs q p e = ⊎_elim (λ is. inl is) (λ other. inr (sym (has_other qs q p other) ∙ e)) (cases_eq q p)

-- all different, and all below n
pub record Apart (n : ℕ) (qs : List ℕ) : Type 0 where
  pub low : (p : ℕ) → has qs p ≡ true → p < n
  pub apart : (i j : ℕ) → i < j → j < length qs → get_or qs i 0 ≢ get_or qs j 0

apart_push : (n : ℕ) (qs : List ℕ) (q : ℕ) → Apart n qs → q < n → has qs q ≡ false → Apart n (qs ++ (q ∷ []))
apart_push n qs q a h none = record {
  low = λ p e. ⊎_elim (λ is. subst (λ (r : ℕ). r < n) is h) (λ old. a.low p old) (has_push qs q p e);
  apart = λ i j l m. ⊎_elim
      (λ old. let k : i < length qs = omega arith in rw (get_or_append_left qs (q ∷ []) 0 i k, get_or_append_left qs (q ∷ []) 0 j old) (a.apart i j l old))
      (λ new. let k : i < length qs = omega (arith, length_push qs q) in rw (get_or_append_left qs (q ∷ []) 0 i k, get_or_push qs q 0 j (omega (arith, length_push qs q))) (not_at qs q i none k))
      (cases_lt j (length qs));
}

few : (n : ℕ) (qs : List ℕ) → Apart n qs → length qs ≤ n
few n qs a = pigeon (length qs) n (λ i. get_or qs i 0) (λ i h. a.low (get_or qs i 0) (has_at qs i h)) a.apart

-- ---- what holds of every slot

-- holds still when the next one is taken
all_next : (P : SlotRecord → Type 0) (x : SlotRecord) (xs : List SlotRecord) (left : List (List SlotRecord)) → All (λ l. All P l) ((x ∷ xs) ∷ left) → All (λ l. All P l) (xs ∷ left)
all_next P x xs left h = All-cons (λ l. All P l) xs left (All-tail P x xs (All-head (λ l. All P l) (x ∷ xs) left h)) (All-tail (λ l. All P l) (x ∷ xs) left h)

pub all_first : (P : SlotRecord → Type 0) (x : SlotRecord) (xs : List SlotRecord) (left : List (List SlotRecord)) → All (λ l. All P l) ((x ∷ xs) ∷ left) → P x
all_first P x xs left h = All-head P x xs (All-head (λ l. All P l) (x ∷ xs) left h)

module _ {K F : Type 0} {below : K → K → Type 0} {top : K} {form : K → F} {kind : F → Option K} (laws : KindLaws below top form kind) (texts : K → Text) (s : Sheet K) (formed : Formed s) where
  block_all : (P : SlotRecord → Type 0) → All P s.slots → (p : ℕ) → All P (slots_of s p)
  block_all P all p = All-take P (count_at s.places p) (drop (first_at s.places p) s.slots) (All-drop P (first_at s.places p) s.slots all)

  -- what holds of every slot of the sheet holds of those that are left
  pub all_left : (P : SlotRecord → Type 0) → All P s.slots → {left : List (List SlotRecord)} {written text : List ℕ} → Walk laws texts s left written text → All (λ l. All P l) left
  all_left P all begins = All-cons (λ l. All P l) (slots_of s 0) [] (block_all P all 0) (All-nil (λ l. All P l))
  all_left P all (closes {left} w) = All-tail (λ l. All P l) [] left (all_left P all w)
  all_left P all (refers {x} {xs} {left} w old) = all_next P x xs left (all_left P all w)
  all_left P all (enters {x} {xs} {left} w new) = All-cons (λ l. All P l) (slots_of s x.target) (xs ∷ left) (block_all P all x.target) (all_next P x xs left (all_left P all w))

  aimed : All (λ x. x.target < size s) s.slots
  aimed = All-from_get_or (λ x. x.target < size s) s.slots blank_slot (target_in s formed)

  -- what holds at each turn
  record Level (left : List (List SlotRecord)) (written : List ℕ) : Type 0 where
    depth : length left ≤ length written
    apart : Apart (size s) written

  level : {left : List (List SlotRecord)} {written text : List ℕ} → Walk laws texts s left written text → Level left written
  level begins = record {
    depth = omega arith;
    apart = record {
      low = λ p e. ⊎_elim (λ is. subst (λ (r : ℕ). r < size s) (eqb-true 0 p is) formed.rooted) (λ no'. absurd (false≢true no')) (or_cases (eqb 0 p) false e);
      apart = λ i j l m. absurd (omega arith);
    };
  }
  level (closes w) = let h = level w in record { depth = omega (arith, h.depth); apart = h.apart }
  level (refers w old) = let h = level w in record { depth = h.depth; apart = h.apart }
  level (enters {x} {xs} {left} {written} w new) =
      let h = level w in
      record {
        depth = omega (arith, h.depth, length_push written x.target);
        apart = apart_push (size s) written x.target h.apart (all_first (λ y. y.target < size s) x xs left (all_left (λ y. y.target < size s) aimed w)) new;
      }

  pub shallow : {left : List (List SlotRecord)} {written text : List ℕ} → Walk laws texts s left written text → length left ≤ size s
  shallow {written = written} w = let h = level w in omega (arith, h.depth, few (size s) written h.apart)

  pub not_deep : size s ≤ 1000 → TooDeep laws texts s → ⊥
  not_deep few d = omega (arith, shallow d.walk, d.deep)

  pub written_few : {left : List (List SlotRecord)} {written text : List ℕ} → Walk laws texts s left written text → length written ≤ size s
  written_few {written = written} w = few (size s) written (level w).apart
