-- Tables of stored forms, read as sheets of kinds: the graph is the same, and each kind is the one that its form reads as.
use Rattle.std.proofs.Common.{◌≡◌, ℕ, zero, suc, ◌<◌, List, [], ◌∷◌, map, length, get_or, Option, unwrap_or, sym, refl, ap, ◌∙◌, subst, arith}
use lib.ListN.{length-map}
use Rattle.kinds.specs.Laws.{KindLaws, loaded}
use Rattle.records.specs.declared.PlaceRecord.{PlaceRecord}
use Rattle.records.specs.Tables.{first_at, count_at, kind_at, met}
use Rattle.records.specs.Sheets.{Sheet, Slot, Formed, read_place, sheet_of}
use Rattle.records.specs.Beside.{Side, Joined}
use Rattle.records.specs.Beside.Side.{left, right}
use Rattle.records.specs.Beside.Joined.{roots, same, back, trans, follow}

module _ {K F : Type 0} {below : K → K → Type 0} {top : K} {form : K → F} {kind : F → Option K} (laws : KindLaws below top form kind) where
  abbrev pub readings : Sheet F → Sheet K
  readings s = sheet_of laws s.places s.slots

  pub same_size : (ps : List (PlaceRecord F)) → length (map (read_place laws) ps) ≡ length ps
  same_size ps = length-map ps (read_place laws)

  firsts : (ps : List (PlaceRecord F)) → map (λ r. r.before) (map (read_place laws) ps) ≡ map (λ r. r.before) ps
  firsts [] = refl
  firsts (r ∷ ps) = ap (λ l. r.before ∷ l) (firsts ps)

  counts : (ps : List (PlaceRecord F)) → map (λ r. r.count) (map (read_place laws) ps) ≡ map (λ r. r.count) ps
  counts [] = refl
  counts (r ∷ ps) = ap (λ l. r.count ∷ l) (counts ps)

  pub same_first : (ps : List (PlaceRecord F)) (p : ℕ) → first_at (map (read_place laws) ps) p ≡ first_at ps p
  same_first ps p = ap (λ l. get_or l p 0) (firsts ps)

  pub same_count : (ps : List (PlaceRecord F)) (p : ℕ) → count_at (map (read_place laws) ps) p ≡ count_at ps p
  same_count ps p = ap (λ l. get_or l p 0) (counts ps)

  -- the stored form of a kind reads as the kind
  pub form_read : (k : K) → loaded laws (form k) ≡ k
  form_read k = ap (λ o. unwrap_or o top) (laws.reads k)

  -- the kind of a place is what its form reads as, whatever kind is read past the table
  pub kind_at_lem : (d : K) (ps : List (PlaceRecord F)) (p : ℕ) → kind_at d (map (read_place laws) ps) p ≡ loaded laws (kind_at (form d) ps p)
  kind_at_lem d [] p = sym (form_read d)
  kind_at_lem d (r ∷ ps) zero = refl
  kind_at_lem d (r ∷ ps) (suc p) = kind_at_lem d ps p

  pub kind_read : (ps : List (PlaceRecord F)) (p : ℕ) → kind_at top (map (read_place laws) ps) p ≡ loaded laws (kind_at (form top) ps p)
  kind_read = kind_at_lem top

  module _ (s : Sheet F) where
    pub slot_read : (p f q : ℕ) → Slot s p f q → Slot (readings s) p f q
    slot_read p f q e =
        let n = same_first s.places p in
        let m = same_count s.places p in
        record {
          slot = e.slot;
          owns = record { place = simp same_size e.owns.place; from = omega (arith, e.owns.from); upto = omega (arith, e.owns.upto) };
          named = e.named;
          leads = e.leads;
        }

    pub read_slot : (p f q : ℕ) → Slot (readings s) p f q → Slot s p f q
    read_slot p f q e =
        let n = same_first s.places p in
        let m = same_count s.places p in
        let z = same_size s.places in
        record {
          slot = e.slot;
          owns = record { place = omega (arith, e.owns.place); from = omega (arith, e.owns.from); upto = omega (arith, e.owns.upto) };
          named = e.named;
          leads = e.leads;
        }

    pub formed_read : Formed s → Formed (readings s)
    formed_read w =
        let z = same_size s.places in
        let f : (p : ℕ) → first_at (map (read_place laws) s.places) p ≡ first_at s.places p = same_first s.places in
        let k : (p : ℕ) → count_at (map (read_place laws) s.places) p ≡ count_at s.places p = same_count s.places in
        record {
          rooted = omega (arith, w.rooted);
          first = f 0 ∙ w.first;
          running = λ p h. omega (arith, f p, f (suc p), k p, w.running p (omega arith));
          last = λ p h. omega (arith, f p, k p, w.last p (omega arith));
          rising = λ p i h a b. w.rising p i (omega arith) (omega (arith, f p)) (omega (arith, f p, k p));
          begun = λ p h. subst (λ (n : ℕ). p < met s.slots n) (sym (f p)) (w.begun p (omega arith));
          close = w.close;
          full = w.full ∙ sym z;
        }

  module _ (s t : Sheet F) where
    pub side_read : (x f y : ℕ) → Side s t x f y → Side (readings s) (readings t) x f y
    side_read x f y (left e) = left (slot_read s x f y e)
    side_read x f y (right p q a b e) =
        let z = same_size s.places in
        right p q (omega arith) (omega arith) (slot_read t p f q e)

    pub read_side : (x f y : ℕ) → Side (readings s) (readings t) x f y → Side s t x f y
    read_side x f y (left e) = left (read_slot s x f y e)
    read_side x f y (right p q a b e) =
        let z = same_size s.places in
        right p q (omega arith) (omega arith) (read_slot t p f q e)

    pub joined_read : {x y : ℕ} → Joined s t x y → Joined (readings s) (readings t) x y
    joined_read roots = subst (λ (n : ℕ). Joined (readings s) (readings t) 0 n) (same_size s.places) roots
    joined_read same = same
    joined_read (back j) = back (joined_read j)
    joined_read (trans i j) = trans (joined_read i) (joined_read j)
    joined_read (follow f j a b) = follow f (joined_read j) (side_read _ f _ a) (side_read _ f _ b)
