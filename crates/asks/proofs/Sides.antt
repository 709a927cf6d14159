-- The records of one sheet, and behind them those of another with their numbers moved on, are the two side by side.
use Rattle.std.proofs.Common.{◌≡◌, ℕ, ◌+◌, ◌<◌, ◌≤◌, List, ◌++◌, map, length, get_or, drop, ap, ◌∙◌, arith, length-append}
use lib.ListN.{length-map}
use Rattle.std.proofs.lemmas.List.{map-append, get_or_append_left, get_or-append-add}
use Rattle.records.specs.declared.PlaceRecord.{PlaceRecord}
use Rattle.records.specs.declared.SlotRecord.{SlotRecord}
use Rattle.records.specs.Tables.{blank_slot}
use Rattle.records.specs.Sheets.{Sheet, size, width}
use Rattle.records.specs.Beside.{Beside}
use Rattle.asks.specs.Asks.{moved_place, moved_slot}
use Rattle.asks.specs.Laying.{Laid}
use Rattle.asks.proofs.Moved.{first_moved, count_moved, kind_moved, name_moved, target_moved}
use Rattle.asks.proofs.Pasting.{laid}

-- a column of two lists, one behind the other
module _ {A B : Type 0} (f : A → B) (xs ys : List A) (d : B) where
  column_left : (i : ℕ) → i < length xs → get_or (map f (xs ++ ys)) i d ≡ get_or (map f xs) i d
  column_left i h = ap (λ l. get_or l i d) (map-append f xs ys) ∙ get_or_append_left (map f xs) (map f ys) d i (omega (arith, length-map xs f))

  column_right : (i : ℕ) → get_or (map f (xs ++ ys)) (length xs + i) d ≡ get_or (map f ys) i d
  column_right i =
      let e : length xs + i ≡ length (map f xs) + i = omega (arith, length-map xs f) in
      ap (λ l. get_or l (length xs + i) d) (map-append f xs ys)
      ∙ ap (λ j. get_or (map f xs ++ map f ys) j d) e
      ∙ get_or-append-add (map f xs) (map f ys) i d

module _ {K : Type 0} (s t w : Sheet K) where
  pub beside_made : w.places ≡ s.places ++ map (moved_place (width s)) t.places → w.slots ≡ s.slots ++ map (moved_slot (size s)) t.slots
      → Beside s t w
  beside_made e f =
      let ps : List (PlaceRecord K) = map (moved_place (width s)) t.places in
      let ss : List SlotRecord = map (moved_slot (size s)) t.slots in
      record {
        places = ap length e ∙ length-append s.places ps ∙ ap (λ n. size s + n) (length-map t.places (moved_place (width s)));
        slots = ap length f ∙ length-append s.slots ss ∙ ap (λ n. width s + n) (length-map t.slots (moved_slot (size s)));
        kind_left = λ d x h. ap (λ l. get_or (map (λ r. r.kind) l) x d) e ∙ column_left (λ r. r.kind) s.places ps d x h;
        first_left = λ x h. ap (λ l. get_or (map (λ r. r.before) l) x 0) e ∙ column_left (λ r. r.before) s.places ps 0 x h;
        count_left = λ x h. ap (λ l. get_or (map (λ r. r.count) l) x 0) e ∙ column_left (λ r. r.count) s.places ps 0 x h;
        name_left = λ i h. ap (λ l. (get_or l i blank_slot).name) f ∙ ap (λ r. r.name) (get_or_append_left s.slots ss blank_slot i h);
        target_left = λ i h. ap (λ l. (get_or l i blank_slot).target) f ∙ ap (λ r. r.target) (get_or_append_left s.slots ss blank_slot i h);
        kind_right = λ d x h.
            ap (λ l. get_or (map (λ r. r.kind) l) (size s + x) d) e ∙ column_right (λ r. r.kind) s.places ps d x ∙ kind_moved (width s) d t.places x;
        first_right = λ x h.
            ap (λ l. get_or (map (λ r. r.before) l) (size s + x) 0) e ∙ column_right (λ r. r.before) s.places ps 0 x ∙ first_moved (width s) t.places x h;
        count_right = λ x h.
            ap (λ l. get_or (map (λ r. r.count) l) (size s + x) 0) e ∙ column_right (λ r. r.count) s.places ps 0 x ∙ count_moved (width s) t.places x;
        name_right = λ i h.
            ap (λ l. (get_or l (width s + i) blank_slot).name) f ∙ ap (λ r. r.name) (get_or-append-add s.slots ss i blank_slot) ∙ name_moved (size s) t.slots i;
        target_right = λ i h.
            ap (λ l. (get_or l (width s + i) blank_slot).target) f ∙ ap (λ r. r.target) (get_or-append-add s.slots ss i blank_slot) ∙ target_moved (size s) t.slots i h;
      }

-- tables that begin with the records of s, and with those of t, moved on, right behind them
pub laid_beside : {F : Type 0} (s t old new : Sheet F) (n m : ℕ)
    → new.places ≡ (s.places ++ map (moved_place (width s)) t.places) ++ drop n old.places
    → new.slots ≡ (s.slots ++ map (moved_slot (size s)) t.slots) ++ drop m old.slots
    → n ≡ size s + size t → m ≡ width s + width t → n ≤ length old.places → m ≤ length old.slots → Laid s t n m old new
laid_beside s t old new n m np ns hn hm rp rs =
    let ps = map (moved_place (width s)) t.places in
    let ss = map (moved_slot (size s)) t.slots in
    let p = laid old.places new.places (s.places ++ ps) n np (omega (arith, length-append s.places ps, length-map t.places (moved_place (width s)))) rp in
    let q = laid old.slots new.slots (s.slots ++ ss) m ns (omega (arith, length-append s.slots ss, length-map t.slots (moved_slot (size s)))) rs in
    record { beside = beside_made s t _ p.0 q.0; places_past = p.1; slots_past = q.1; places_length = p.2; slots_length = q.2 }
