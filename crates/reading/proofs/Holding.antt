-- What the tables and the look_up hold stays so with each token.
use Rattle.std.proofs.Common.{◌≡◌, ℕ, ◌+◌, ◌-◌, ◌<◌, ◌≤◌, List, [], ◌∷◌, ◌++◌, length, get_or, take, set, Some, None, sym, ap, ◌∙◌, subst, ⊎_elim, arith}
use Rattle.std.proofs.lemmas.List.{take_more_set, length-take-le, length-set, length_push, get_or_push, get_or-take, get_or_append_left, get_or-set_same, get_or-set_other}
use Rattle.std.proofs.lemmas.Bool.{cases_eq}
use Rattle.reading.specs.declared.draft.Place.{Place}
use Rattle.reading.specs.declared.draft.Slot.{Slot}
use Rattle.reading.specs.declared.drafting.lookup.Lookup.{Lookup}
use Rattle.reading.specs.Drafts.{parent_at, slot_at, no_slot}
use Rattle.reading.specs.Lookups.{Marks, Listed, owner_at, Fresh}
use Rattle.reading.specs.Held.{Holds}
use Rattle.reading.proofs.Marking.{marks_none}
use Rattle.reading.proofs.Listing.{listed_none, listed_same, listed_more}

module _ {K : Type 0} where
  pub held_none : (ps : List (Place K)) (ss : List Slot) (look : Lookup) → length ps ≤ 1000 → length ss ≤ 4000 → Fresh look → Holds 0 0 0 ps ss look
  held_none ps ss look few fewer f = record {
    places_fit = omega arith;
    slots_fit = omega arith;
    few_places = few;
    few_slots = fewer;
    top_fits = omega arith;
    parents = λ p. omega arith;
    looks = record { tags = marks_none look.described f.described; lists = listed_none (owner_at []) look.newest look.earlier f.newest f.earlier };
  }

  -- a slot is put into the tables
  pub held_slot : (top n m : ℕ) (ps : List (Place K)) (ss : List Slot) (look look₂ : Lookup) (s : Slot) → Holds top n m ps ss look → m < length ss → s.owner ≡ top →
      look₂.described ≡ look.described → look₂.newest ≡ set look.newest top (Some m) → look₂.earlier ≡ set look.earlier m (get_or look.newest top None) → Holds top n (m + 1) ps (set ss m s) look₂
  held_slot top n m ps ss look look₂ s h lt its e f g =
      let more = take_more_set ss m s lt in
      let long = length-set ss m s in
      let count : length (take m ss) ≡ m = length-take-le m ss h.slots_fit in
      let old : Listed (owner_at (take m ss)) m look.newest look.earlier = subst (λ k. Listed (owner_at (take m ss)) k look.newest look.earlier) count h.looks.lists in
      let new : Listed (owner_at (take m ss ++ s ∷ [])) (m + 1) (set look.newest top (Some m)) (set look.earlier m (get_or look.newest top None)) =
      listed_more (owner_at (take m ss)) (owner_at (take m ss ++ s ∷ [])) m top look.newest look.earlier
      (λ i less. ap (λ x. x.owner) (get_or_append_left (take m ss) (s ∷ []) no_slot i (omega arith)))
      (ap (λ x. x.owner) (get_or_push (take m ss) s no_slot m count) ∙ its) old h.top_fits (omega (arith, h.few_slots)) in
      let size : m + 1 ≡ length (take m ss ++ s ∷ []) = omega (arith, length_push (take m ss) s) in
      record {
        places_fit = h.places_fit;
        slots_fit = omega arith;
        few_places = h.few_places;
        few_slots = omega (arith, h.few_slots);
        top_fits = h.top_fits;
        parents = h.parents;
        looks = record {
          tags = subst (Marks (take n ps)) (sym e) h.looks.tags;
          lists =
              subst (λ l. Listed (owner_at l) (length l) look₂.newest look₂.earlier) (sym more)
              (subst (λ k. Listed (owner_at (take m ss ++ s ∷ [])) k look₂.newest look₂.earlier) size
              (subst (λ l. Listed (owner_at (take m ss ++ s ∷ [])) (m + 1) look₂.newest l) (sym g) (subst (λ l. Listed (owner_at (take m ss ++ s ∷ [])) (m + 1) l (set look.earlier m (get_or look.newest top None))) (sym f) new)));
        };
      }

  -- the last slot leads elsewhere
  pub held_target : (top n m : ℕ) (ps : List (Place K)) (ss : List Slot) (look : Lookup) (s : Slot) → Holds top n m ps ss look → (m ≡ 0 → ⊥) → s.owner ≡ (get_or ss (m - 1) no_slot).owner → Holds top n m ps (set ss (m - 1) s) look
  held_target top n m ps ss look s h some its =
      let long = length-set ss (m - 1) s in
      let count : length (take m ss) ≡ m = length-take-le m ss h.slots_fit in
      let size : length (take m ss) ≡ length (take m (set ss (m - 1) s)) = count ∙ sym (length-take-le m (set ss (m - 1) s) (omega (arith, h.slots_fit))) in
      record {
        places_fit = h.places_fit;
        slots_fit = omega (arith, h.slots_fit);
        few_places = h.few_places;
        few_slots = omega (arith, h.few_slots);
        top_fits = h.top_fits;
        parents = h.parents;
        looks = record {
          tags = h.looks.tags;
          lists =
              subst (λ k. Listed (owner_at (take m (set ss (m - 1) s))) k look.newest look.earlier) size
              (listed_same (owner_at (take m ss)) (owner_at (take m (set ss (m - 1) s))) (length (take m ss)) look.newest look.earlier same h.looks.lists);
        };
      }
    where
      same : (i : ℕ) → i < length (take m ss) → owner_at (take m (set ss (m - 1) s)) i ≡ owner_at (take m ss) i
      same i lt =
          let less : i < m = omega (arith, length-take-le m ss h.slots_fit) in
          ap (λ x. x.owner) (get_or-take m (set ss (m - 1) s) i no_slot less) ∙
          ⊎_elim
          (λ e. ap (λ k. (slot_at (set ss (m - 1) s) k).owner) e ∙ ap (λ x. x.owner) (get_or-set_same ss (m - 1) s no_slot (omega (arith, h.slots_fit))) ∙ its ∙ ap (λ k. (slot_at ss k).owner) (sym e))
          (λ ne. ap (λ x. x.owner) (get_or-set_other ss (m - 1) i s no_slot ne))
          (cases_eq i (m - 1)) ∙
          sym (ap (λ x. x.owner) (get_or-take m ss i no_slot less))

  -- the place in whose brackets the innermost open place stands
  pub held_up : (top n m up : ℕ) (ps : List (Place K)) (ss : List Slot) (look : Lookup) → Holds top n m ps ss look → parent_at (take n ps) top ≡ up → Holds up n m ps ss look
  held_up top n m up ps ss look h e = record {
    places_fit = h.places_fit;
    slots_fit = h.slots_fit;
    few_places = h.few_places;
    few_slots = h.few_slots;
    top_fits = subst (λ k. k < 1000) e (h.parents top);
    parents = h.parents;
    looks = h.looks;
  }
