-- The records of an add, as they are drawn: first those of the chain, then those of the added sheet.
use Rattle.std.proofs.Common.{◌≡◌, ℕ, zero, suc, ◌+◌, ◌<◌, List, [], ◌∷◌, ◌++◌, map, length, get_or, sym, refl, ap, ◌∙◌, arith}
use Rattle.std.proofs.lemmas.List.{get_or-map}
use Rattle.records.specs.declared.PlaceRecord.{PlaceRecord}
use Rattle.records.specs.declared.SlotRecord.{SlotRecord}
use Rattle.records.specs.Sheets.{Sheet, size, width}
use Rattle.asks.specs.Asks.{moved_place, moved_slot, chained}
use Rattle.asks.specs.Laying.{tables, chain}
use Rattle.asks.proofs.Adds.{add_sized}

-- records that are moved on twice, and a chain one name longer
module _ {A : Type 0} (move : ℕ → A → A) (twice : (n m : ℕ) (x : A) → move n (move m x) ≡ move (n + m) x) where
  moved_twice : (n m : ℕ) (xs : List A) → map (move n) (map (move m) xs) ≡ map (move (n + m)) xs
  moved_twice n m [] = refl
  moved_twice n m (x ∷ xs) = λ i. twice n m x i ∷ moved_twice n m xs i

  longer : (n k : ℕ) (r : A) (xs links ys : List A) → map (move (n + 1)) xs ≡ map (move (n + 1)) links ++ map (move (n + 1 + k)) ys
      → map (move n) (r ∷ map (move 1) xs) ≡ map (move n) (r ∷ map (move 1) links) ++ map (move (n + suc k)) ys
  longer n k r xs links ys e =
      let d : n + 1 + k ≡ n + suc k = omega arith in
      ap (λ l. move n r ∷ l)
      (moved_twice n 1 xs ∙ e ∙ ap (λ l. l ++ map (move (n + 1 + k)) ys) (sym (moved_twice n 1 links)) ∙ ap (λ z. map (move n) (map (move 1) links) ++ map (move z) ys) d)

place_twice : {F : Type 0} (n m : ℕ) (r : PlaceRecord F) → moved_place n (moved_place m r) ≡ moved_place (n + m) r
place_twice n m r =
    let e : n + (m + r.before) ≡ n + m + r.before = omega arith in
    λ i. record { kind = r.kind; before = e i; count = r.count }

slot_twice : (n m : ℕ) (r : SlotRecord) → moved_slot n (moved_slot m r) ≡ moved_slot (n + m) r
slot_twice n m r =
    let e : n + (m + r.target) ≡ n + m + r.target = omega arith in
    λ i. record { name = r.name; target = e i }

module _ {F : Type 0} (any : F) where
  pub places_drawn : (path : List ℕ) (n : ℕ) (t : Sheet F)
      → map (moved_place n) (chained any path t).places ≡ map (moved_place n) (chain any path).places ++ map (moved_place (n + length path)) t.places
  places_drawn [] n t = ap (λ z. map (moved_place z) t.places) (omega arith)
  places_drawn (f ∷ path) n t =
      longer moved_place place_twice n (length path) _ (chained any path t).places (chain any path).places t.places (places_drawn path (n + 1) t)

  pub slots_drawn : (path : List ℕ) (n : ℕ) (t : Sheet F)
      → map (moved_slot n) (chained any path t).slots ≡ map (moved_slot n) (chain any path).slots ++ map (moved_slot (n + length path)) t.slots
  slots_drawn [] n t = ap (λ z. map (moved_slot z) t.slots) (omega arith)
  slots_drawn (f ∷ path) n t =
      longer moved_slot slot_twice n (length path) _ (chained any path t).slots (chain any path).slots t.slots (slots_drawn path (n + 1) t)

  -- the chain of a path has a place and a slot for each name
  pub chain_sized : (path : List ℕ) → (size (chain any path) ≡ length path) × (width (chain any path) ≡ length path)
  chain_sized path =
      let h = add_sized any path (tables [] []) in
      (omega (arith, h.0), omega (arith, h.1))

  chain_place : (path : List ℕ) (k : ℕ) (d : PlaceRecord F) → k < length path → get_or (chain any path).places k d ≡ record { kind = any; before = k; count = 1 }
  chain_place [] k d h = absurd (omega arith)
  chain_place (f ∷ path) zero d h = refl
  chain_place (f ∷ path) (suc k) d h =
      let n : 1 + k ≡ suc k = omega arith in
      get_or-map (moved_place 1) (chain any path).places k d d (omega (arith, (chain_sized path).0))
      ∙ ap (moved_place 1) (chain_place path k d (omega arith))
      ∙ ap (λ b. record { kind = any; before = b; count = 1 }) n

  chain_slot : (path : List ℕ) (k : ℕ) (d : SlotRecord) → k < length path → get_or (chain any path).slots k d ≡ record { name = get_or path k 0; target = suc k }
  chain_slot [] k d h = absurd (omega arith)
  chain_slot (f ∷ path) zero d h = refl
  chain_slot (f ∷ path) (suc k) d h =
      let n : 1 + suc k ≡ suc (suc k) = omega arith in
      get_or-map (moved_slot 1) (chain any path).slots k d d (omega (arith, (chain_sized path).1))
      ∙ ap (moved_slot 1) (chain_slot path k d (omega arith))
      ∙ ap (λ b. record { name = get_or path k 0; target = b }) n

  -- and these are its records behind n slots, and behind n places
  pub place_drawn : (path : List ℕ) (n k : ℕ) (d : PlaceRecord F) → k < length path
      → record { kind = any; before = n + k; count = 1 } ≡ get_or (map (moved_place n) (chain any path).places) k d
  place_drawn path n k d h =
      sym (get_or-map (moved_place n) (chain any path).places k d d (omega (arith, (chain_sized path).0)) ∙ ap (moved_place n) (chain_place path k d h))

  pub slot_drawn : (path : List ℕ) (n k : ℕ) (d : SlotRecord) → k < length path
      → record { name = get_or path k 0; target = n + k + 1 } ≡ get_or (map (moved_slot n) (chain any path).slots) k d
  slot_drawn path n k d h =
      let e : n + k + 1 ≡ n + suc k = omega arith in
      ap (λ b. record { name = get_or path k 0; target = b }) e
      ∙ sym (get_or-map (moved_slot n) (chain any path).slots k d d (omega (arith, (chain_sized path).1)) ∙ ap (moved_slot n) (chain_slot path k d h))
