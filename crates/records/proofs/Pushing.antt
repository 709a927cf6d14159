-- What tables say after one slot more, or one place more, is pushed: the old ones as before, and the new one at the end.
use Rattle.std.proofs.Common.{◌≡◌, ℕ, zero, suc, ◌<◌, ◌≤◌, max, List, [], ◌∷◌, ◌++◌, map, length, get_or, sym, refl, ap, ◌∙◌, arith}
use lib.ListN.{length-map}
use Rattle.std.proofs.lemmas.List.{get_or_append_left, get_or_push, length_push, map_push}
use Rattle.records.specs.declared.PlaceRecord.{PlaceRecord}
use Rattle.records.specs.declared.SlotRecord.{SlotRecord}
use Rattle.records.specs.Tables.{first_at, count_at, kind_at, name_at, target_at, blank_slot, met}

-- the slots, with one slot more
module _ (ss : List SlotRecord) (x : SlotRecord) (i : ℕ) where
  pub slot_old : i < length ss → get_or (ss ++ x ∷ []) i blank_slot ≡ get_or ss i blank_slot
  slot_old h = get_or_append_left ss (x ∷ []) blank_slot i h

  pub slot_new : i ≡ length ss → get_or (ss ++ x ∷ []) i blank_slot ≡ x
  slot_new e = get_or_push ss x blank_slot i (sym e)

  pub name_old : i < length ss → name_at (ss ++ x ∷ []) i ≡ name_at ss i
  name_old h = ap (λ r. r.name) (slot_old h)

  pub name_new : i ≡ length ss → name_at (ss ++ x ∷ []) i ≡ x.name
  name_new e = ap (λ r. r.name) (slot_new e)

  pub target_old : i < length ss → target_at (ss ++ x ∷ []) i ≡ target_at ss i
  target_old h = ap (λ r. r.target) (slot_old h)

  pub target_new : i ≡ length ss → target_at (ss ++ x ∷ []) i ≡ x.target
  target_new e = ap (λ r. r.target) (slot_new e)

pub met_old : (ss : List SlotRecord) (x : SlotRecord) (i : ℕ) → i ≤ length ss → met (ss ++ x ∷ []) i ≡ met ss i
met_old ss x zero h = refl
met_old ss x (suc i) h = rw (met_old ss x i (omega arith), target_old ss x i h) refl

pub met_push : (ss : List SlotRecord) (x : SlotRecord) → met (ss ++ x ∷ []) (length (ss ++ x ∷ [])) ≡ max (met ss (length ss)) (suc x.target)
met_push ss x =
    let long : length (ss ++ x ∷ []) ≡ suc (length ss) = omega (arith, length_push ss x) in
    ap (met (ss ++ x ∷ [])) long ∙ rw (met_old ss x (length ss) (omega arith), target_new ss x (length ss) refl) refl

-- a column of the places, with one place more
module _ {K A : Type 0} (f : PlaceRecord K → A) (z : A) (ps : List (PlaceRecord K)) (x : PlaceRecord K) (p : ℕ) where
  column_old : p < length ps → get_or (map f (ps ++ x ∷ [])) p z ≡ get_or (map f ps) p z
  column_old h = ap (λ l. get_or l p z) (map_push f ps x) ∙ get_or_append_left (map f ps) (f x ∷ []) z p (omega (arith, length-map ps f))

  column_new : p ≡ length ps → get_or (map f (ps ++ x ∷ [])) p z ≡ f x
  column_new e = ap (λ l. get_or l p z) (map_push f ps x) ∙ get_or_push (map f ps) (f x) z p (omega (arith, length-map ps f))

module _ {K : Type 0} (ps : List (PlaceRecord K)) (x : PlaceRecord K) (p : ℕ) where
  pub first_old : p < length ps → first_at (ps ++ x ∷ []) p ≡ first_at ps p
  first_old = column_old (λ r. r.before) 0 ps x p

  pub first_new : p ≡ length ps → first_at (ps ++ x ∷ []) p ≡ x.before
  first_new = column_new (λ r. r.before) 0 ps x p

  pub count_old : p < length ps → count_at (ps ++ x ∷ []) p ≡ count_at ps p
  count_old = column_old (λ r. r.count) 0 ps x p

  pub count_new : p ≡ length ps → count_at (ps ++ x ∷ []) p ≡ x.count
  count_new = column_new (λ r. r.count) 0 ps x p

  pub kind_old : (d : K) → p < length ps → kind_at d (ps ++ x ∷ []) p ≡ kind_at d ps p
  kind_old d = column_old (λ r. r.kind) d ps x p

  pub kind_new : (d : K) → p ≡ length ps → kind_at d (ps ++ x ∷ []) p ≡ x.kind
  kind_new d = column_new (λ r. r.kind) d ps x p
