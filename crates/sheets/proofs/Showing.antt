-- What every sheet shows: nothing, or a sheet.
use Rattle.std.proofs.Common.{◌≡◌, ◌<◌, List, length, arith}
use mathlib.Core.Logic.{∥∥₁_elim, ∥∥₁_map}
use native.Mathlib.Bridge.{le_prop}
use native.Mathlib.Nat.{ℕ_set}
use Rattle.std.proofs.lemmas.List.{nil_from_length}
use Rattle.kinds.specs.declared.kind.Kind.{Ghosts}
use Rattle.records.specs.declared.PlaceRecord.{PlaceRecord}
use Rattle.records.specs.declared.SlotRecord.{SlotRecord}
use Rattle.records.specs.Tables.{WellFormed, name_at}
use Rattle.sheets.specs.Shown.{ShowsNothing, ShowsSheet, shown_places, shown_slots}
use Rattle.sheets.specs.declared.sheet.Sheet.{Sheet}
use Rattle.sheets.proofs.Deciding.{stable, is_name}

module _ {F : Type 0} {ps : List (PlaceRecord F)} {ss : List SlotRecord} where
  pub formed_prop : (w v : WellFormed ps ss) → w ≡ v
  formed_prop w v = λ i. record {
    rooted = le_prop w.rooted v.rooted i;
    first = ℕ_set _ _ w.first v.first i;
    running = λ p h. ℕ_set _ _ (w.running p h) (v.running p h) i;
    last = λ p h. ℕ_set _ _ (w.last p h) (v.last p h) i;
    rising = λ p j h k l. le_prop (w.rising p j h k l) (v.rising p j h k l) i;
    begun = λ p h. le_prop (w.begun p h) (v.begun p h) i;
    close = λ j h. le_prop (w.close j h) (v.close j h) i;
    full = ℕ_set _ _ w.full v.full i;
  }

module _ {K F : Type 0} {kind : Ghosts K F} (s : Sheet K F kind) where
  pub shows_nothing : length (shown_places s) ≡ 0 → ShowsNothing s
  shows_nothing none = record {
    places = nil_from_length (shown_places s) none;
    slots = nil_from_length (shown_slots s) (omega (arith, s.nothing (omega arith)));
  }

  pub shows_sheet : 0 < length (shown_places s) → ShowsSheet s
  shows_sheet some =
      let sheet = s.shown some in
      record {
        few_places = s.limits.0;
        few_slots = s.limits.1;
        formed = ∥∥₁_elim sheet formed_prop (λ x. x.formed);
        named = λ i h. stable (is_name (name_at (shown_slots s) i)) (∥∥₁_map sheet (λ x. x.named i h));
      }
