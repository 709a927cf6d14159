-- What the merge leaves of its tables, put together from what each step leaves.
use Rattle.std.proofs.Common.{◌≡◌, ℕ, ◌+◌, ◌-◌, ◌<◌, ◌≤◌, max, List, ◌++◌, length, get_or, take, drop, replicate, Some, None, Option, sym, ap, ◌∙◌, subst, append_assoc, arith, take-append-drop, length-take, get_or-take, drop-drop, take_at, drop_at}
use native.Mathlib.Decide.{dec_lt}
use Rattle.std.proofs.lemmas.List.{get_or_past, get_or_default}
use Rattle.std.specs.List.{range_with_len}
use Rattle.kinds.specs.Laws.{KindLaws}
use Rattle.records.specs.declared.PlaceRecord.{PlaceRecord}
use Rattle.records.specs.declared.SlotRecord.{SlotRecord}
use Rattle.records.specs.declared.Counts.{Counts}
use Rattle.records.specs.Tables.{WellFormed, blank_slot}
use Rattle.records.specs.Sheets.{Sheet, size, width, blank_place, sheet_of}
use Rattle.records.specs.Beside.{Beside}
use Rattle.joining.specs.Forest.{Own}
use Rattle.joining.proofs.Owning.{own_counting}
use Rattle.asks.specs.Asks.{chained}
use Rattle.asks.specs.Laying.{tables}
use Rattle.unification.specs.Merge.{IsMerge}
use Rattle.merging.specs.Core.{OwnForms, Merges, Replaced, PlacesAfter, SlotsAfter}
use Rattle.merging.specs.United.{UnitedPlaces, UnitedSlots, Cleared, ClearedPlaces, ClearedSlots}

module _ {R : Type 0} (blank : R) (n c : ℕ) (old made new : List R) (within : c ≤ length made) (rest : drop c made ≡ drop c old) (cleared : Cleared blank n c made new) where
  front : length (take c made) ≡ c
  front = length-take c made ∙ omega arith

  parts : new ≡ take c made ++ (replicate (n - c) blank ++ drop (max c n) made)
  parts = cleared ∙ append_assoc (take c made) (replicate (n - c) blank) (drop (max c n) made)

  pub cleared_take : take c new ≡ take c made
  cleared_take = ap (take c) parts ∙ take_at (take c made) (replicate (n - c) blank ++ drop (max c n) made) c front

  pub cleared_rest : Replaced blank n c old new
  cleared_rest =
      let k : ℕ = max c n - c in
      let e : c + k ≡ max c n = omega arith in
      let far : drop (max c n) made ≡ drop (max c n) old =
      ap (λ j. drop j made) (sym e) ∙ sym (drop-drop k c made) ∙ ap (drop k) rest ∙ drop-drop k c old ∙ ap (λ j. drop j old) e in
      ap (drop c) parts ∙ drop_at (take c made) (replicate (n - c) blank ++ drop (max c n) made) c front ∙ ap (λ l. replicate (n - c) blank ++ l) far

-- links that hold their own numbers do so as far as they are lent,
pub own_front : (links : List ℕ) (n : ℕ) → n ≤ length links → ((x : ℕ) → x < n → get_or links x 0 ≡ x) → Own (take n links)
own_front links n room own x =
    elim (dec_lt x n) [
      | yes lt ↦ get_or-take n links x x lt ∙ get_or_default links x x 0 (omega arith) ∙ own x lt
      | no ge ↦ get_or_past (take n links) x x (simp length-take (omega arith))
    ]

-- and put back they are what they were
pub links_back : (links lent : List ℕ) (n : ℕ) → n ≤ length links → ((x : ℕ) → x < n → get_or links x 0 ≡ x) → lent ≡ range_with_len 0 (length (take n links)) → lent ++ drop n links ≡ links
links_back links lent n room own e =
    ap (λ l. l ++ drop n links) (e ∙ sym (own_counting (take n links) (own_front links n room own))) ∙ take-append-drop n links

-- the standing sheet and an ask laid side by side, counted as the tables count them
pub laid_beside : {F : Type 0} (any top : F) (ps : List (PlaceRecord F)) (ss : List SlotRecord) (n m : ℕ) (path : List ℕ) (t : Sheet F) (wp : List (PlaceRecord F)) (ws : List SlotRecord)
    → any ≡ top → n ≤ length ps → m ≤ length ss
    → Beside (tables (take n ps) (take m ss)) (chained any path t) (tables (take (length (take n ps) + length path + size t) wp) (take (length (take m ss) + length path + width t) ws))
    → Beside (tables (take n ps) (take m ss)) (chained top path t) (tables (take (n + length path + size t) wp) (take (m + length path + width t) ws))
laid_beside {F} any top ps ss n m path t wp ws e hn hm b =
    let en : length (take n ps) ≡ n = simp length-take (omega arith) in
    let em : length (take m ss) ≡ m = simp length-take (omega arith) in
    subst (λ (x : F). Beside (tables (take n ps) (take m ss)) (chained x path t) (tables (take (n + length path + size t) wp) (take (m + length path + width t) ws))) e
    (subst (λ (x : ℕ). Beside (tables (take n ps) (take m ss)) (chained any path t) (tables (take (x + length path + size t) wp) (take (m + length path + width t) ws))) en
    (subst (λ (x : ℕ). Beside (tables (take n ps) (take m ss)) (chained any path t) (tables (take (length (take n ps) + length path + size t) wp) (take (x + length path + width t) ws))) em b))

-- the tables after the merge was written and what is left of the standing sheet was blanked
pub places_after : {F : Type 0} (blank : PlaceRecord F) (n : ℕ) (ps ps₁ ps₂ : List (PlaceRecord F)) (r : Option Counts) (a : ℕ) → a ≤ length ps₁ → UnitedPlaces a r ps ps₁ → ClearedPlaces blank n r ps₁ ps₂ → PlacesAfter blank n r ps ps₂
places_after blank n ps ps₁ ps₂ (Some c) a la up cp = cleared_rest blank n c.places ps ps₁ ps₂ (omega (arith, up.most)) up.rest cp
places_after blank n ps ps₁ ps₂ None a la up cp = cp ∙ up

pub slots_after : (m : ℕ) (ss ss₁ ss₂ : List SlotRecord) (r : Option Counts) (b : ℕ) → b ≤ length ss₁ → UnitedSlots b r ss ss₁ → ClearedSlots m r ss₁ ss₂ → SlotsAfter m r ss ss₂
slots_after m ss ss₁ ss₂ (Some c) b lb us cs = cleared_rest blank_slot m c.slots ss ss₁ ss₂ (omega (arith, us.most)) us.rest cs
slots_after m ss ss₁ ss₂ None b lb us cs = cs ∙ us

module _ {K F : Type 0} {below : K → K → Type 0} {top : K} {form : K → F} {kind : F → Option K} (laws : KindLaws below top form kind)
    (s t : Sheet K) (n m : ℕ) (ps ps₁ ps₂ : List (PlaceRecord F)) (ss ss₁ ss₂ : List SlotRecord) where
  pub merged_holds : (r : Option Counts) (a b : ℕ) → a ≤ length ps₁ → b ≤ length ss₁ → Merges laws s t r ps₁ ss₁ → UnitedPlaces a r ps ps₁ → UnitedSlots b r ss ss₁
      → ClearedPlaces (blank_place laws) n r ps₁ ps₂ → ClearedSlots m r ss₁ ss₂ → Merges laws s t r ps₂ ss₂
  merged_holds (Some c) a b la lb held up us cp cs =
      let at_places = cleared_take (blank_place laws) n c.places ps ps₁ ps₂ (omega (arith, up.most)) up.rest cp in
      let at_slots = cleared_take blank_slot m c.slots ss ss₁ ss₂ (omega (arith, us.most)) us.rest cs in
      record {
        formed = subst (λ (l : List (PlaceRecord F)). WellFormed l (take c.slots ss₂)) (sym at_places) (subst (λ (l : List SlotRecord). WellFormed (take c.places ps₁) l) (sym at_slots) held.formed);
        merge = subst (λ (u : Sheet K). IsMerge laws s t u) (sym (λ i. sheet_of laws (at_places i) (at_slots i))) held.merge;
        own = subst (λ (l : List (PlaceRecord F)). OwnForms laws l) (sym at_places) held.own;
      }
  merged_holds None a b la lb clash up us cp cs = clash
