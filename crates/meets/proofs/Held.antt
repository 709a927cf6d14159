-- What a table holds after one record of it was written.
use Rattle.std.proofs.Common.{◌≡◌, ℕ, zero, suc, ◌<◌, List, [], ◌∷◌, map, length, get_or, set, Option, sym, refl, ap, ◌∙◌}
use Rattle.std.proofs.lemmas.List.{get_or_default, get_or-map, get_or-set_same, get_or-set_other, length-map, map-set, set-get_or}
use Rattle.kinds.specs.Laws.{KindLaws, loaded}
use Rattle.records.specs.declared.PlaceRecord.{PlaceRecord}
use Rattle.meets.specs.Classes.{kind_held}

-- a field, at the index that is written and at the others
module _ {X Y : Type 0} (f : X → Y) (xs : List X) (i : ℕ) (v : X) (d : Y) where
  pub column_same : i < length xs → get_or (map f (set xs i v)) i d ≡ f v
  column_same h =
      let l : i < length (map f xs) = simp length-map h in
      ap (λ (ys : List Y). get_or ys i d) (map-set f xs i v) ∙ get_or-set_same (map f xs) i (f v) d l

  pub column_other : (j : ℕ) → (j ≡ i → ⊥) → get_or (map f (set xs i v)) j d ≡ get_or (map f xs) j d
  column_other j ne = ap (λ (ys : List Y). get_or ys j d) (map-set f xs i v) ∙ get_or-set_other (map f xs) i j (f v) d ne

-- a field that the written record has as it was
pub column_kept : {X Y : Type 0} (f : X → Y) (xs : List X) (i : ℕ) (v d : X) → i < length xs → f v ≡ f (get_or xs i d) → map f (set xs i v) ≡ map f xs
column_kept f xs i v d h e =
    map-set f xs i v
    ∙ ap (λ y. set (map f xs) i y) (e ∙ sym (get_or-map f xs i d (f d) h))
    ∙ set-get_or (map f xs) i (f d)

-- the written record does not depend on what a read past the table would give
pub same_record : {F : Type 0} (ps : List (PlaceRecord F)) (e : ℕ) (d d' : PlaceRecord F) (f f' : F) → e < length ps → f ≡ f' → set ps e (record { kind = f; before = (get_or ps e d).before; count = (get_or ps e d).count }) ≡ set ps e (record { kind = f'; before = (get_or ps e d').before; count = (get_or ps e d').count })
same_record ps e d d' f f' h p =
    let q = get_or_default ps e d d' h in
    λ i. set ps e (record { kind = p i; before = (q i).before; count = (q i).count })

module _ {K F : Type 0} {below : K → K → Type 0} {top : K} {form : K → F} {kind : F → Option K} (laws : KindLaws below top form kind) where
  -- the kinds of a table as one field of its records
  abbrev held : PlaceRecord F → K
  held r = loaded laws r.kind

  one_field : (ps : List (PlaceRecord F)) (x : ℕ) → kind_held laws ps x ≡ get_or (map held ps) x top
  one_field [] x = refl
  one_field (r ∷ ps) zero = refl
  one_field (r ∷ ps) (suc x) = one_field ps x

  module _ (ps : List (PlaceRecord F)) where
    -- the kind of a place is what the form in its record reads as
    pub held_at : (x : ℕ) (d : PlaceRecord F) → x < length ps → kind_held laws ps x ≡ loaded laws (get_or ps x d).kind
    held_at x d h = one_field ps x ∙ get_or-map held ps x d top h

    pub held_same : (e : ℕ) (r : PlaceRecord F) → e < length ps → kind_held laws (set ps e r) e ≡ loaded laws r.kind
    held_same e r h = one_field (set ps e r) e ∙ column_same held ps e r top h

    pub held_other : (e x : ℕ) (r : PlaceRecord F) → (x ≡ e → ⊥) → kind_held laws (set ps e r) x ≡ kind_held laws ps x
    held_other e x r ne = one_field (set ps e r) x ∙ column_other held ps e r top x ne ∙ sym (one_field ps x)
