-- Tags that are marked by their numbers are those that the places describe, and the first that is not marked is found.
use denote.Param.Members.{Mut}
use denote.Ref.{Bor}
use Rattle.std.proofs.Common.{◌≡◌, ℕ, zero, suc, ◌+◌, ◌<◌, Bool, true, false, cond, ◌||◌, List, [], ◌∷◌, ◌++◌, length, get_or, replicate, is_some, Some, None, Option, true≢false, refl, sym, ap, ◌∙◌, subst, ⊎_elim, arith}
use mathlib.Core.Bool.{or-false}
use Rattle.std.specs.Bool.{IsTrue}
use Rattle.std.specs.Fn.{Called}
use Rattle.std.specs.Iterator.Runs.{Run, SomeRun, YieldsRefsInOrder, ItemsMapTo, CallKeepsClosure, AllItemsGive, IsFirstToGive}
use Rattle.std.specs.Option.{option_or, option_map, MatchOption, IfSome, IsSomeAnd}
use Rattle.std.proofs.lemmas.List.{length-replicate, get_or-replicate, get_or_past}
use Rattle.std.proofs.lemmas.Bool.{cases_lt}
use Rattle.reading.specs.declared.draft.Target.{Target}
use Rattle.reading.specs.declared.draft.Target.TheVariants.{To, ByTag}
use Rattle.reading.specs.declared.draft.Place.{Place}
use Rattle.reading.specs.declared.draft.Slot.{Slot}
use Rattle.reading.specs.Drafts.{any_of}
use Rattle.reading.specs.Steps.{undescribed_at, undescribed}
use Rattle.reading.specs.Lookups.{unmarked_at, unmarked, Marks}

pub any_push : {X : Type 0} (p : X → Bool) (xs : List X) (x : X) → any_of p (xs ++ x ∷ []) ≡ (any_of p xs || p x)
any_push p [] x = or-false (p x)
any_push p (y ∷ ys) x = ap (λ b. p y || b) (any_push p ys x) ∙ assoc (p y) (any_of p ys) (p x)
  where
    assoc : (a b c : Bool) → (a || (b || c)) ≡ ((a || b) || c)
    assoc true b c = refl
    assoc false b c = refl

module _ {K : Type 0} where
  pub marks_none : (tags : List Bool) → tags ≡ replicate 256 false → Marks {K = K} [] tags
  marks_none tags e = record {
    size = ap length e ∙ length-replicate 256 false;
    same = λ n. ap (λ l. get_or l n false) e ∙ ⊎_elim (λ lt. get_or-replicate 256 n false false lt) (λ ge. get_or_past (replicate 256 false) n false (omega (arith, length-replicate 256 false))) (cases_lt n 256);
  }

  pub unmarked_same : (ps : List (Place K)) (tags : List Bool) (ss : List Slot) → Marks ps tags → unmarked ss tags ≡ undescribed ss ps
  unmarked_same ps tags [] m = refl
  unmarked_same ps tags (s ∷ ss) m = λ i. option_or (one s.target i) (unmarked_same ps tags ss m i)
    where
      one : (t : Target) → unmarked_at t tags ≡ undescribed_at t ps
      one (To p) = refl
      one (ByTag t) = ap (λ b. cond b None (Some t.byte)) (m.same t.number)

-- ---- the first tag that is not marked

if_there : {A : Type 0} (o : Option A) (P : A → Type 0) → IsSomeAnd o P → IfSome o P
if_there None P h = tt
if_there (Some x) P h = h

module _ (tags : List Bool) where
  unmarked_none : (ss : List Slot) → ((k : ℕ) (d : Slot) → k < length ss → unmarked_at (get_or ss k d).target tags ≡ None) → unmarked ss tags ≡ None
  unmarked_none [] a = refl
  unmarked_none (s ∷ ss) a = ap (λ o. option_or o (unmarked ss tags)) (a 0 s (omega arith)) ∙ unmarked_none ss (λ k d l. a (suc k) d (omega arith))

  unmarked_first : (ss : List Slot) (i b : ℕ) → i < length ss → ((k : ℕ) (d : Slot) → k < i → unmarked_at (get_or ss k d).target tags ≡ None) → ((d : Slot) → unmarked_at (get_or ss i d).target tags ≡ Some b) → unmarked ss tags ≡ Some b
  unmarked_first [] i b l a h = absurd (omega arith)
  unmarked_first (s ∷ ss) zero b l a h = ap (λ o. option_or o (unmarked ss tags)) (h s)
  unmarked_first (s ∷ ss) (suc i) b l a h = ap (λ o. option_or o (unmarked ss tags)) (a 0 s (omega arith)) ∙ unmarked_first ss i b (omega arith) (λ k d m. a (suc k) d (omega arith)) h

  -- what `find_map` gives over references to slots, where a call gives the byte of the slot's tag if that is not marked
  module _ {F : Type 0} (g : Mut F (Bor Slot × Unit {0}) (Option ℕ)) (f : F) (ss : List Slot)
      (keeps : CallKeepsClosure g f) (gives : (x : Bor Slot) (o : Option ℕ) (q : F) → Called g f (x, tt) o q → o ≡ unmarked_at x.now.target tags) where
    item : (o : Option (Bor Slot)) (s : Slot) (r : Option ℕ) → option_map (λ y. y.now) o ≡ Some s → IfSome o (λ x. Called g f (x, tt) r f) → unmarked_at s.target tags ≡ r
    item None s r e c = absurd (true≢false (sym (ap is_some e)))
    item (Some x) s r e c = ap (λ (t : Slot). unmarked_at t.target tags) (ap (λ (o : Option Slot). elim o [ None ↦ s | Some z ↦ z ]) (sym e)) ∙ sym (gives x r f c)

    first_of_run : {S : Type 0} {steps : S → Option (Bor Slot) → S → Type 0} (p : Run steps) → ItemsMapTo p (λ y. y.now) ss → (r : Option ℕ)
        → MatchOption r (IsTrue p.whole × AllItemsGive p g f None) (λ y. (i : ℕ) × (i < p.len) × (p.len ≡ i + 1) × IsFirstToGive p g f (Some y) None i) → r ≡ unmarked ss tags
    first_of_run p m None h = sym (unmarked_none ss (λ k d l. item (p.at k) _ None (m.2 k d (omega (arith, l, m.1 h.0))) (h.1 keeps k)))
    first_of_run p m (Some b) h = sym (unmarked_first ss h.0 b (omega (arith, h.1, m.0))
        (λ k d l. item (p.at k) _ None (m.2 k d (omega (arith, l, h.1))) (if_there (p.at k) _ ((h.3 keeps).1 k l)))
        (λ d. item (p.at h.0) _ (Some b) (m.2 h.0 d h.1) (if_there (p.at h.0) _ (h.3 keeps).0)))

    pub first_found : {S : Type 0} {steps : S → Option (Bor Slot) → S → Type 0} (rest : S → List Slot) → YieldsRefsInOrder steps rest → (s : S) → rest s ≡ ss → (r : Option ℕ)
        → SomeRun steps s (λ p. MatchOption r (IsTrue p.whole × AllItemsGive p g f None) (λ y. (i : ℕ) × (i < p.len) × (p.len ≡ i + 1) × IsFirstToGive p g f (Some y) None i)) → r ≡ unmarked ss tags
    first_found rest all s e r d = first_of_run d.0 (subst (ItemsMapTo d.0 (λ y. y.now)) (ap rest d.1 ∙ e) (all d.0 d.0.seen)) r d.2
