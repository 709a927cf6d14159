-- The kind of one place taken into that of another, from what the meet of the two kinds answers.
use Rattle.std.proofs.Common.{◌≡◌, ℕ, ◌<◌, List, length, get_or, set, Some, None, Option, sym, refl, ◌∙◌}
use Rattle.kinds.specs.Laws.{KindLaws, MeetLaws}
use Rattle.records.specs.declared.PlaceRecord.{PlaceRecord}
use Rattle.records.specs.Sheets.{blank_place}
use Rattle.meets.specs.Classes.{kind_held, MetInto, Apart}
use Rattle.meets.proofs.Held.{same_record}

module _ {K F : Type 0} {below : K → K → Type 0} {top : K} {form : K → F} {kind : F → Option K} {common : K → K → Option K}
    (laws : KindLaws below top form kind) (meets : MeetLaws below common)
    (ps : List (PlaceRecord F)) (e x : ℕ) (a b : K) (held : a ≡ kind_held laws ps e) (other : b ≡ kind_held laws ps x) where
  answer : (o : Option K) → o ≡ common a b → common (kind_held laws ps e) (kind_held laws ps x) ≡ o
  answer o p = sym (p ∙ (λ i. common (held i) (other i)))

  -- the record is written with the form f of the meet, and with its numbers as they are read, whatever a read past the table gives
  pub met_into : (m : K) (f : F) (d : PlaceRecord F) → Some m ≡ common a b → f ≡ form m → e < length ps → MetInto laws e x ps (set ps e (record { kind = f; before = (get_or ps e d).before; count = (get_or ps e d).count }))
  met_into m f d p q h = record {
    meet = m;
    left = meets.left _ _ m (answer (Some m) p);
    right = meets.right _ _ m (answer (Some m) p);
    most = λ k. meets.most _ _ m k (answer (Some m) p);
    table = same_record ps e d (blank_place laws) f (form m) h q;
  }

  pub none_apart : None ≡ common a b → Apart laws e x ps ps
  none_apart p = record { none = λ k. meets.none _ _ k (answer None p); table = refl }
