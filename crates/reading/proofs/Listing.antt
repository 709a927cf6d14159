-- The slots of each place as lists from the newest back, and what such a list says of names.
use Rattle.std.proofs.Common.{◌≡◌, ℕ, zero, suc, ◌+◌, ◌-◌, ◌<◌, ◌≤◌, Bool, true, false, ◌&&◌, ◌||◌, eqb, List, length, get_or, take, set, replicate, Some, None, Option, sym, refl, ap, ◌∙◌, subst, ⊎_elim, arith}
use mathlib.Core.Bool.{or-false}
use Rattle.std.proofs.lemmas.List.{take_more, take_all, length-set, length-replicate, get_or-replicate, get_or-set_same, get_or-set_other}
use Rattle.std.proofs.lemmas.Bool.{cases_eq, cases_lt, and_left, and_right, and_from, or_right, eq-eqb, ne_eqb}
use Rattle.reading.specs.declared.draft.Slot.{Slot}
use Rattle.reading.specs.Drafts.{named, slot_at, no_slot}
use Rattle.reading.specs.Lookups.{up_to, Newest, owner_at, Listed}
use Rattle.reading.proofs.Marking.{any_push}

-- ---- the lists

up_to_some : (o : Option ℕ) (i b : ℕ) → up_to o ≤ b → o ≡ Some i → i < b
up_to_some o i b le e = let k : up_to o ≡ i + 1 = ap up_to e in omega arith

newest_none : (owner : ℕ → ℕ) (p : ℕ) (o : Option ℕ) → o ≡ None → Newest owner p 0 o
newest_none owner p o e = record {
  before = let k : up_to o ≡ 0 = ap up_to e in omega arith;
  its = λ i f. let z : ◌≡◌ {A = ℕ} 0 (i + 1) = sym (ap up_to e) ∙ ap up_to f in absurd (omega arith);
  gap = λ y a lt. absurd (omega arith);
}

pub listed_none : (owner : ℕ → ℕ) (newest earlier : List (Option ℕ)) → newest ≡ replicate 1000 None → earlier ≡ replicate 4000 None → Listed owner 0 newest earlier
listed_none owner newest earlier e f = record {
  places = ap length e ∙ length-replicate {A = Option ℕ} 1000 None;
  slots = ap length f ∙ length-replicate {A = Option ℕ} 4000 None;
  starts = λ p lt. newest_none owner p (get_or newest p None) (ap (λ l. get_or l p None) e ∙ get_or-replicate 1000 p None None lt);
  steps = λ i lt. absurd (omega arith);
}

-- only the owners of the first slots count
newest_same : (o o₂ : ℕ → ℕ) (p b : ℕ) (x : Option ℕ) → ((i : ℕ) → i < b → o₂ i ≡ o i) → Newest o p b x → Newest o₂ p b x
newest_same o o₂ p b x same n = record {
  before = n.before;
  its = λ i e. same i (up_to_some x i b n.before e) ∙ n.its i e;
  gap = λ y le lt e. n.gap y le lt (sym (same y lt) ∙ e);
}

pub listed_same : (o o₂ : ℕ → ℕ) (n : ℕ) (newest earlier : List (Option ℕ)) → ((i : ℕ) → i < n → o₂ i ≡ o i) → Listed o n newest earlier → Listed o₂ n newest earlier
listed_same o o₂ n newest earlier same l = record {
  places = l.places;
  slots = l.slots;
  starts = λ p lt. newest_same o o₂ p n _ same (l.starts p lt);
  steps = λ i lt. subst (λ p. Newest o₂ p i (get_or earlier i None)) (sym (same i lt)) (newest_same o o₂ (o i) i _ (λ k less. same k (omega arith)) (l.steps i lt));
}

-- one slot more, of the place p
module _ (o o₂ : ℕ → ℕ) (n p : ℕ) (newest earlier : List (Option ℕ)) (same : (i : ℕ) → i < n → o₂ i ≡ o i) (here : o₂ n ≡ p) (l : Listed o n newest earlier) where
  start_here : Newest o₂ p (n + 1) (Some n)
  start_here = record {
    before = omega arith;
    its = λ i e. let k : n + 1 ≡ i + 1 = ap up_to e in let k₂ : i ≡ n = omega arith in ap o₂ k₂ ∙ here;
    gap = λ y le lt. absurd (omega arith);
  }

  start_other : (q : ℕ) → q < 1000 → (q ≡ p → ⊥) → Newest o₂ q (n + 1) (get_or newest q None)
  start_other q lt ne =
      let old = newest_same o o₂ q n _ same (l.starts q lt) in
      record {
        before = omega (arith, old.before);
        its = old.its;
        gap = λ y le less e. ⊎_elim (λ below. old.gap y le below e) (λ above. let k : y ≡ n = omega arith in ne (sym e ∙ ap o₂ k ∙ here)) (cases_lt y n);
      }

  pub listed_more : p < 1000 → n < 4000 → Listed o₂ (n + 1) (set newest p (Some n)) (set earlier n (get_or newest p None))
  listed_more fits room = record {
    places = length-set newest p (Some n) ∙ l.places;
    slots = length-set earlier n _ ∙ l.slots;
    starts = λ q lt. ⊎_elim
        (λ e. subst (λ r. Newest o₂ r (n + 1) (get_or (set newest p (Some n)) r None)) (sym e) (subst (Newest o₂ p (n + 1)) (sym (get_or-set_same newest p (Some n) None (omega (arith, l.places)))) start_here))
        (λ ne. subst (Newest o₂ q (n + 1)) (sym (get_or-set_other newest p q (Some n) None ne)) (start_other q lt ne))
        (cases_eq q p);
    steps = λ i lt. ⊎_elim
        (λ below. let ne : i ≡ n → ⊥ = λ e. omega arith in
        subst (Newest o₂ (o₂ i) i) (sym (get_or-set_other earlier n i _ None ne)) (subst (λ r. Newest o₂ r i (get_or earlier i None)) (sym (same i below)) (newest_same o o₂ (o i) i _ (λ k less. same k (omega arith)) (l.steps i below))))
        (λ above. let e : i ≡ n = omega arith in
        subst (λ k. Newest o₂ (o₂ k) k (get_or (set earlier n (get_or newest p None)) k None)) (sym e)
        (subst (Newest o₂ (o₂ n) n) (sym (get_or-set_same earlier n (get_or newest p None) None (omega (arith, l.slots))))
        (subst (λ r. Newest o₂ r n (get_or newest p None)) (sym here) (newest_same o o₂ p n _ same (l.starts p fits)))))
        (cases_lt i n);
  }

-- ---- names along a list

module _ (ss : List Slot) (p n : ℕ) where
  abbrev test : Slot → Bool
  test s = eqb s.owner p && eqb s.name n

  named_more : (i : ℕ) → i < length ss → named (take (i + 1) ss) p n ≡ (named (take i ss) p n || test (slot_at ss i))
  named_more i lt = ap (λ l. named l p n) (take_more ss i no_slot lt) ∙ any_push test (take i ss) (slot_at ss i)

  pub named_here : (i : ℕ) → i < length ss → owner_at ss i ≡ p → (slot_at ss i).name ≡ n → named (take (i + 1) ss) p n ≡ true
  named_here i lt e f = named_more i lt ∙ or_right (named (take i ss) p n) _ (and_from _ _ (eq-eqb _ p e) (eq-eqb _ n f))

  not_it : (i : ℕ) → i < length ss → test (slot_at ss i) ≡ false → named (take (i + 1) ss) p n ≡ named (take i ss) p n
  not_it i lt e = named_more i lt ∙ ap (λ b. named (take i ss) p n || b) e ∙ or-false (named (take i ss) p n)

  pub named_before : (i : ℕ) → i < length ss → ((slot_at ss i).name ≡ n → ⊥) → named (take (i + 1) ss) p n ≡ named (take i ss) p n
  named_before i lt ne = not_it i lt (and_right (eqb (slot_at ss i).owner p) _ (ne_eqb _ n ne))

  gap_by : (k a b : ℕ) → b ≡ a + k → b ≤ length ss → ((y : ℕ) → a ≤ y → y < b → owner_at ss y ≡ p → ⊥) → named (take b ss) p n ≡ named (take a ss) p n
  gap_by zero a b e le none = let same : b ≡ a = omega arith in ap (λ m. named (take m ss) p n) same
  gap_by (suc k) a b e le none =
      let last : b ≡ (a + k) + 1 = omega arith in
      ap (λ m. named (take m ss) p n) last ∙
      not_it (a + k) (omega arith) (and_left (eqb (owner_at ss (a + k)) p) _ (ne_eqb _ p (none (a + k) (omega arith) (omega arith)))) ∙
      gap_by k a (a + k) refl (omega arith) (λ y lo hi. none y lo (omega arith))

  pub named_gap : (o : Option ℕ) (b : ℕ) → b ≤ length ss → Newest (owner_at ss) p b o → named (take b ss) p n ≡ named (take (up_to o) ss) p n
  named_gap o b le h = gap_by (b - up_to o) (up_to o) b (omega (arith, h.before)) le h.gap

  -- the slots from o back are left to look at
  pub record Sought (o : Option ℕ) : Type 0 where
    pub rest : named (take (up_to o) ss) p n ≡ named ss p n
    pub inside : up_to o ≤ length ss
    pub its : (i : ℕ) → o ≡ Some i → owner_at ss i ≡ p

  pub sought_start : (newest earlier : List (Option ℕ)) → Listed (owner_at ss) (length ss) newest earlier → p < 1000 → Sought (get_or newest p None)
  sought_start newest earlier l lt =
      let h = l.starts p lt in
      record { rest = sym (named_gap (get_or newest p None) (length ss) (omega arith) h) ∙ ap (λ m. named m p n) (take_all (length ss) ss (omega arith)); inside = h.before; its = h.its }

  pub sought_next : (newest earlier : List (Option ℕ)) (i : ℕ) → Listed (owner_at ss) (length ss) newest earlier → Sought (Some i) → ((slot_at ss i).name ≡ n → ⊥) → Sought (get_or earlier i None)
  sought_next newest earlier i l s ne =
      let lt : i < length ss = omega (arith, s.inside) in
      let h : Newest (owner_at ss) p i (get_or earlier i None) = subst (λ q. Newest (owner_at ss) q i (get_or earlier i None)) (s.its i refl) (l.steps i lt) in
      record {
        rest = sym (named_gap (get_or earlier i None) i (omega arith) h) ∙ sym (named_before i lt ne) ∙ s.rest;
        inside = omega (arith, h.before);
        its = h.its;
      }

  pub sought_found : (i : ℕ) → Sought (Some i) → (slot_at ss i).name ≡ n → named ss p n ≡ true
  sought_found i s e = sym s.rest ∙ named_here i (omega (arith, s.inside)) (s.its i refl) e
