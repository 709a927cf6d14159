-- Tables of stored forms, read as sheets of kinds: an add, and two sheets side by side.
use Rattle.std.proofs.Common.{◌≡◌, ℕ, ◌+◌, ◌<◌, List, [], ◌∷◌, map, Option, sym, refl, ap, ◌∙◌, subst, arith}
use Rattle.kinds.specs.Laws.{KindLaws, loaded}
use Rattle.records.specs.declared.PlaceRecord.{PlaceRecord}
use Rattle.records.specs.Tables.{first_at, count_at, kind_at, target_at}
use Rattle.records.specs.Sheets.{Sheet, size, width, read_place, sheet_of}
use Rattle.records.specs.Beside.{Beside}
use Rattle.records.proofs.Reading.{same_size, same_first, same_count, form_read, kind_at_lem}
use Rattle.asks.specs.Asks.{moved_place, moved_slot, chained}
use Rattle.asks.specs.Theorems.{held, AddRead, AddBeside}

module _ {K F : Type 0} {below : K → K → Type 0} {top : K} {form : K → F} {kind : F → Option K} (laws : KindLaws below top form kind) where
  read_moved : (n : ℕ) (ps : List (PlaceRecord F)) → map (read_place laws) (map (moved_place n) ps) ≡ map (moved_place n) (map (read_place laws) ps)
  read_moved n [] = refl
  read_moved n (r ∷ ps) = ap (λ rs. moved_place n (read_place laws r) ∷ rs) (read_moved n ps)

  read_places : (path : List ℕ) (t : Sheet F) → map (read_place laws) (chained (form top) path t).places ≡ (chained top path (sheet_of laws t.places t.slots)).places
  read_places [] t = refl
  read_places (f ∷ path) t =
      let rest = read_moved 1 (chained (form top) path t).places ∙ ap (map (moved_place 1)) (read_places path t) in
      λ i. record { kind = form_read laws top i; before = 0; count = 1 } ∷ rest i

  read_slots : (path : List ℕ) (t : Sheet F) → (chained (form top) path t).slots ≡ (chained top path (sheet_of laws t.places t.slots)).slots
  read_slots [] t = refl
  read_slots (f ∷ path) t = ap (λ ss. record { name = f; target = 1 } ∷ map (moved_slot 1) ss) (read_slots path t)

  pub add_read : AddRead laws
  add_read path t = λ i. record { places = read_places path t i; slots = read_slots path t i }

  pub beside_read : (s t w : Sheet F) → Beside s t w → Beside (held laws s) (held laws t) (held laws w)
  beside_read s t w b =
      let m = same_size laws s.places in
      let n = same_size laws t.places in
      let all = same_size laws w.places in
      let both = b.places in
      let in_t : (x : ℕ) → x < size (held laws t) → x < size t = λ x h. omega arith in
      let to : (x : ℕ) → size (held laws s) + x ≡ size s + x = λ x. omega arith in
      record {
        places = omega arith;
        slots = b.slots;
        kind_left = λ d x h.
            kind_at_lem laws d w.places x ∙ ap (loaded laws) (b.kind_left (form d) x (omega arith)) ∙ sym (kind_at_lem laws d s.places x);
        first_left = λ x h. same_first laws w.places x ∙ b.first_left x (omega arith) ∙ sym (same_first laws s.places x);
        count_left = λ x h. same_count laws w.places x ∙ b.count_left x (omega arith) ∙ sym (same_count laws s.places x);
        name_left = b.name_left;
        target_left = b.target_left;
        kind_right = λ d x h.
            ap (kind_at d (held laws w).places) (to x)
            ∙ kind_at_lem laws d w.places (size s + x)
            ∙ ap (loaded laws) (b.kind_right (form d) x (in_t x h))
            ∙ sym (kind_at_lem laws d t.places x);
        first_right = λ x h.
            ap (first_at (held laws w).places) (to x)
            ∙ same_first laws w.places (size s + x)
            ∙ b.first_right x (in_t x h)
            ∙ ap (λ z. width s + z) (sym (same_first laws t.places x));
        count_right = λ x h.
            ap (count_at (held laws w).places) (to x) ∙ same_count laws w.places (size s + x) ∙ b.count_right x (in_t x h) ∙ sym (same_count laws t.places x);
        name_right = b.name_right;
        target_right = λ i h. b.target_right i h ∙ ap (λ z. z + target_at t.slots i) (sym m);
      }

  pub add_beside : AddBeside laws
  add_beside path s t w b = subst (λ z. Beside (held laws s) z (held laws w)) (add_read path t) (beside_read s (chained (form top) path t) w b)
