-- One turn over a source.
use Rattle.std.proofs.Common.{◌≡◌, ℕ, ◌+◌, ◌<◌, ◌≤◌, Bool, true, false, cond, List, [], ◌++◌, ◌∷◌, length, get_or, take, drop, None, sym, refl, ◌∙◌, subst, append_assoc, append-nil, arith}
use Rattle.std.specs.Bool.{then_some}
use mathlib.Core.Logic.{∥∥₁_elim}
use native.Mathlib.Bridge.{le_prop}
use Rattle.kinds.specs.Laws.{KindLaws}
use Rattle.kinds.specs.declared.kind.Kind.{Ghosts}
use Rattle.names.specs.Names.{IsName}
use Rattle.records.specs.declared.PlaceRecord.{PlaceRecord}
use Rattle.records.specs.declared.SlotRecord.{SlotRecord}
use Rattle.records.specs.Tables.{first_at, count_at}
use Rattle.records.specs.Sheets.{Sheet, size, Formed}
use Rattle.records.proofs.Reading.{same_size, same_first, same_count, formed_read}
use Rattle.sheets.specs.Checks.{IsSheet}
use Rattle.sheets.specs.declared.sheet.Sheet.{Sheet as View}
use Rattle.sheets.proofs.Showing.{shows_sheet}
use Rattle.vocabulary.specs.Texts.{Text}
use Rattle.showing.specs.declared.walk.Progress.{Progress}
use Rattle.showing.specs.declared.writing.Output.{Output}
use Rattle.showing.specs.declared.source.Source.{Source}
use Rattle.showing.specs.Shown.{tagged, hashed, naming, slots_of, Shown}
use Rattle.showing.specs.Source.{held}
use Rattle.showing.specs.Writing.{Adds, marked}
use Rattle.showing.specs.Progress.{unwritten, Room, Fresh, Entered, Ended, Taken, measure, opened, Visited, Going, Begun, Since}
use Rattle.showing.proofs.Progressing.{falls_taken, few_open, taken_target, taken_name, going_ended, paused, room, going_reached, falls_reached, going_begins, going_ends}
use Rattle.showing.proofs.Putting.{adds_none, adds_then}

-- that a source holds a sheet is known whole
pub is_sheet : {K F : Type 0} {kind : Ghosts K F} (source : Source K F kind) → IsSheet source.tables.places.now source.tables.slots.now
is_sheet {K} {F} {kind} source =
    let rooted : 0 < length source.tables.places.now = ∥∥₁_elim source.sheet le_prop (λ x. x.formed.rooted) in
    let view : View K F kind = record {
      tables = source.tables;
      limits = (∥∥₁_elim source.sheet le_prop (λ x. x.few_places), ∥∥₁_elim source.sheet le_prop (λ x. x.few_slots));
      shown = λ h. source.sheet;
      nothing = λ none. absurd (omega arith);
    } in
    shows_sheet view rooted

-- the same place opened, by other names of its slots and of whether it has a tag
pub entered_as : {ss : List SlotRecord} {w v : Progress} {p : ℕ} {xs ys : List SlotRecord} {a b : Bool} → xs ≡ ys → a ≡ b → Entered ss w p xs a v → Entered ss w p ys b v
entered_as {ss} {w} e f h = record { left = h.left ∙ (λ i. e i ∷ unwritten ss w); tags = h.tags; next = h.next ∙ (λ i. cond (f i) (w.next + 1) w.next) }

pub marked_then : (b : Bool) (n : ℕ) → marked (then_some b n) ≡ cond b (hashed n (32 ∷ [])) []
marked_then true n = refl
marked_then false n = refl

module _ {K F : Type 0} {kind : Ghosts K F} (texts : K → Text) (source : Source K F kind) where
  abbrev laws : KindLaws kind.below kind.top kind.form kind.kind
  laws = kind.laws

  abbrev ps : List (PlaceRecord F)
  ps = source.tables.places.now

  abbrev ss : List SlotRecord
  ss = source.tables.slots.now

  abbrev s : Sheet K
  s = held source

  formed : Formed s
  formed = formed_read laws (record { places = ps; slots = ss }) (is_sheet source).formed

  small : size s ≤ 1000
  small = omega (arith, same_size laws ps, (is_sheet source).few_places)

  -- the slots of a place, as the tables have them
  pub block_read : (p : ℕ) → take (count_at ps p) (drop (first_at ps p) ss) ≡ slots_of s p
  block_read p =
      let n = sym (same_count laws ps p) in
      let f = sym (same_first laws ps p) in
      λ i. take (n i) (drop (f i) ss)

  pub open_few : (w : Progress) → Begun laws texts s w → length w.left.items ≤ 1000
  open_few w b = few_open laws texts s formed small w b.text b.going

  pub slot_target : (w u : Progress) (x : SlotRecord) → Begun laws texts s w → Taken ss w x u → x.target < length ps
  slot_target w u x b t = omega (arith, taken_target laws texts s formed small w u x b.text b.going t, same_size laws ps)

  pub slot_name : (w u : Progress) (x : SlotRecord) → Begun laws texts s w → Taken ss w x u → IsName x.name
  slot_name w u x b t = taken_name laws texts s formed small w u x b.text (is_sheet source).named b.going t

  slot_low : (w u : Progress) (x : SlotRecord) → Begun laws texts s w → Taken ss w x u → x.target < 1000
  slot_low w u x b t = omega (arith, slot_target w u x b t, (is_sheet source).few_places)

  pub slot_room : (w u : Progress) (x : SlotRecord) → Begun laws texts s w → Taken ss w x u → get_or u.tags x.target None ≡ None → Room u
  slot_room w u x b t new = room laws texts s formed small u x b.text (paused laws texts s formed small w u x b.text b.going t) (slot_low w u x b t) new

  pub since_ended : (w v : Progress) (old new : Output) → Ended ss w v → Adds (41 ∷ []) old new → Since laws texts s w v old new
  since_ended w v old new e adds = record { piece = 41 ∷ []; adds = adds; going = λ text g. going_ended laws texts s formed small w v text g e }

  pub since_slot : (w u v : Progress) (x : SlotRecord) (old new : Output) → Begun laws texts s w → Taken ss w x u → Visited laws texts s x u v old new → Since laws texts s w v old new
  since_slot w u v x old new b t h = record {
    piece = naming laws texts s x ++ h.piece;
    adds = h.adds;
    going = λ text g. going_reached laws texts s formed small u v x text h.piece (get_or u.tags x.target None) refl h.reached (paused laws texts s formed small w u x text g t) (slot_low w u x b t);
  }

  pub falls_slot : (w u v : Progress) (x : SlotRecord) (old new : Output) → Begun laws texts s w → Taken ss w x u → Visited laws texts s x u v old new → measure ss v < measure ss w
  falls_slot w u v x old new b t h =
      let r = (paused laws texts s formed small w u x b.text b.going t).right in
      omega (arith, falls_taken ss w u x t, falls_reached laws texts s formed small u v x.target h.piece (get_or u.tags x.target None) (omega (arith, r.long, slot_low w u x b t)) refl h.reached)

  -- ---- the loop

  pub since_none : (w : Progress) (o : Output) → Since laws texts s w w o o
  since_none w o = record {
    piece = [];
    adds = adds_none o;
    going = λ text g. subst (λ (t : List ℕ). Going laws texts s w t) (sym (append-nil text)) g;
  }

  pub since_more : (w u v : Progress) (first old new : Output) → Since laws texts s w u first old → Since laws texts s u v old new → Since laws texts s w v first new
  since_more w u v first old new c t = record {
    piece = c.piece ++ t.piece;
    adds = adds_then c.adds t.adds;
    going = λ text g. subst (λ (k : List ℕ). Going laws texts s v k) (append_assoc text c.piece t.piece) (t.going (text ++ c.piece) (c.going text g));
  }

  pub begun_since : (w v : Progress) (first new : Output) → Begun laws texts s w → Since laws texts s w v first new → Begun laws texts s v
  begun_since w v first new b c = record { text = b.text ++ c.piece; going = c.going b.text b.going }

  -- the first place is opened
  pub going_first : (w v : Progress) → Fresh w → Entered ss w 0 (slots_of s 0) (tagged s 0) v → Going laws texts s v (opened laws texts s w.next 0)
  going_first w v f e = going_begins laws texts s formed small w v f e

  -- no place is open any more
  pub shown_last : (w : Progress) (text : List ℕ) → Going laws texts s w text → length w.left.items ≡ 0 → Shown laws texts s text
  shown_last w text g none = going_ends laws texts s formed small w text g none
