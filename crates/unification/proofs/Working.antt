-- The worked merges hold.
use Rattle.std.proofs.Common.{◌≡◌, ℕ, [], ◌∷◌, get_or, Option, sym, refl, subst, inl, inr, lt_irrefl, lit<, lit≤}
use mathlib.Core.List.Memᴰ
use Rattle.kinds.specs.Laws.{KindLaws, MeetLaws}
use Rattle.records.specs.Sheets.{Sheet, Slot, Formed, kind_of, blank_sheet}
use Rattle.records.specs.Satisfaction.{Satisfies}
use Rattle.records.proofs.Shape.{single}
use Rattle.records.proofs.Unique.{moved, nth}
use Rattle.unification.specs.Merge.{IsMerge, Clash}
use Rattle.unification.specs.Examples.{a, b, Case, ring, Holds, fork, shared, chain, Worked}
use Rattle.unification.proofs.Building.{nothing, push_slot, push_place, finish}
use Rattle.unification.proofs.Asking.{itself, blank_formed, blank_most}
use Rattle.unification.proofs.Existing.{only_merge, exact}
use Rattle.unification.proofs.Finite.{satisfied}

module _ {K F : Type 0} {below : K → K → Type 0} {top : K} {form : K → F} {kind : F → Option K} (laws : KindLaws below top form kind)
    {common : K → K → Option K} (meets : MeetLaws below common) where
  -- a slot of the root gives one of the root
  from_root : (u s : Sheet K) (x : Satisfies laws u s) (f q : ℕ) → Slot s 0 f q → Slot u 0 f (x.image q)
  from_root u s x f q e = moved u (x.image 0) 0 f (x.image q) (x.image q) x.root refl (x.slots 0 f q e)

  fork_formed : (k l : K) → Formed (fork laws k l)
  fork_formed k l =
      let g₁ = push_slot [] [] 0 nothing (record { name = a; target = 1 }) (λ h. lit< tt) (lit≤ tt) in
      let g₂ = push_slot [] _ 0 g₁ (record { name = b; target = 2 }) (λ h. lit< tt) (lit≤ tt) in
      let g₃ = push_place [] _ 0 g₂ (record { kind = top; before = 0; count = 2 }) refl refl (lit< tt) in
      let g₄ = push_place _ _ 2 g₃ (record { kind = k; before = 2; count = 0 }) refl refl (lit< tt) in
      let g₅ = push_place _ _ 2 g₄ (record { kind = l; before = 2; count = 0 }) refl refl (lit< tt) in
      finish (fork laws k l).places (fork laws k l).slots g₅ refl

  shared_formed : (k : K) → Formed (shared laws k)
  shared_formed k =
      let g₁ = push_slot [] [] 0 nothing (record { name = a; target = 1 }) (λ h. lit< tt) (lit≤ tt) in
      let g₂ = push_slot [] _ 0 g₁ (record { name = b; target = 1 }) (λ h. lit< tt) (lit≤ tt) in
      let g₃ = push_place [] _ 0 g₂ (record { kind = top; before = 0; count = 2 }) refl refl (lit< tt) in
      let g₄ = push_place _ _ 2 g₃ (record { kind = k; before = 2; count = 0 }) refl refl (lit< tt) in
      finish (shared laws k).places (shared laws k).slots g₄ refl

  chain_formed : (k : K) → Formed (chain laws k)
  chain_formed k =
      let g₁ = push_slot [] [] 0 nothing (record { name = a; target = 1 }) (λ h. lit< tt) (lit≤ tt) in
      let g₂ = push_place [] _ 0 g₁ (record { kind = top; before = 0; count = 1 }) refl refl (lit< tt) in
      let g₃ = push_slot _ _ 1 g₂ (record { name = a; target = 2 }) (λ h. absurd (lt_irrefl 1 h)) (lit≤ tt) in
      let g₄ = push_place _ _ 1 g₃ (record { kind = top; before = 1; count = 1 }) refl refl (lit< tt) in
      let g₅ = push_place _ _ 2 g₄ (record { kind = k; before = 2; count = 0 }) refl refl (lit< tt) in
      finish (chain laws k).places (chain laws k).slots g₅ refl

  ring_formed : (k : K) → Formed (ring k)
  ring_formed k =
      let g₁ = push_slot [] [] 0 nothing (record { name = a; target = 0 }) (λ h. lit< tt) (lit≤ tt) in
      let g₂ = push_place [] _ 0 g₁ (record { kind = k; before = 0; count = 1 }) refl refl (lit< tt) in
      finish (ring k).places (ring k).slots g₂ refl

  -- where u satisfies both, the places of a and of b are one, of a kind at or below k and l
  module _ (k l : K) (u : Sheet K) (wu : Formed u) (x : Satisfies laws u (fork laws k l)) (y : Satisfies laws u (shared laws top)) where
    under_a : x.image 1 ≡ y.image 1
    under_a =
        single u wu 0 a (x.image 1) (y.image 1) (from_root u (fork laws k l) x a 1 (nth (fork laws k l) 0 0 (lit< tt) (lit< tt)))
        (from_root u (shared laws top) y a 1 (nth (shared laws top) 0 0 (lit< tt) (lit< tt)))

    under_b : x.image 2 ≡ y.image 1
    under_b =
        single u wu 0 b (x.image 2) (y.image 1) (from_root u (fork laws k l) x b 2 (nth (fork laws k l) 0 1 (lit< tt) (lit< tt)))
        (from_root u (shared laws top) y b 1 (nth (shared laws top) 0 1 (lit< tt) (lit< tt)))

    meeting : below (kind_of laws u (y.image 1)) k × below (kind_of laws u (y.image 1)) l
    meeting = (
      subst (λ p. below (kind_of laws u p) k) under_a (x.kinds 1 (lit< tt)),
      subst (λ p. below (kind_of laws u p) l) under_b (x.kinds 2 (lit< tt)),
    )

  fork_merge : (k : K) → IsMerge laws (fork laws k k) (shared laws top) (shared laws k)
  fork_merge k =
      only_merge laws meets (fork laws k k) (shared laws top) (shared laws k) (fork_formed k k) (shared_formed top) (shared_formed k)
      (satisfied laws (shared laws k) (fork laws k k) (λ p. get_or (0 ∷ 1 ∷ 1 ∷ []) p 0) refl
      (((tt, (lit< tt, laws.reflexive top)), (lit< tt, laws.reflexive k)), (lit< tt, laws.reflexive k))
      (((tt, ((tt, by_a), by_b)), tt), tt))
      (satisfied laws (shared laws k) (shared laws top) (λ p. p) refl ((tt, (lit< tt, laws.reflexive top)), (lit< tt, laws.greatest k))
      ((tt, ((tt, by_a), by_b)), tt))
      (λ u wu x y.
      satisfied laws u (shared laws k) y.image y.root
      ((tt, (y.within 0 (lit< tt), laws.greatest (kind_of laws u (y.image 0)))), (y.within 1 (lit< tt), (meeting k k u wu x y).0))
      ((tt, ((tt, y.slots 0 a 1 (nth (shared laws top) 0 0 (lit< tt) (lit< tt))), y.slots 0 b 1 (nth (shared laws top) 0 1 (lit< tt) (lit< tt)))), tt))
    where
      by_a : Slot (shared laws k) 0 a 1
      by_a = nth (shared laws k) 0 0 (lit< tt) (lit< tt)

      by_b : Slot (shared laws k) 0 b 1
      by_b = nth (shared laws k) 0 1 (lit< tt) (lit< tt)

  fork_clash : (k l : K) → ((m : K) → below m k → below m l → ⊥) → Clash laws (fork laws k l) (shared laws top)
  fork_clash k l apart =
      (exact laws meets (fork laws k l) (shared laws top) (fork_formed k l) (shared_formed top)).1
      (λ u wu x y. let z = meeting k l u wu x y in apart (kind_of laws u (y.image 1)) z.0 z.1)

  blank_merge : (t : Sheet K) → Formed t → IsMerge laws (blank_sheet laws) t t
  blank_merge t wt = only_merge laws meets (blank_sheet laws) t t (blank_formed laws) wt wt (blank_most laws t wt) (itself laws t) (λ u wu x y. y)

  -- where u satisfies both, the chain goes round its root
  module _ (k : K) (u : Sheet K) (wu : Formed u) (x : Satisfies laws u (ring top)) (y : Satisfies laws u (chain laws k)) where
    round : Slot u 0 a 0
    round = moved u 0 0 a (x.image 0) 0 refl x.root (from_root u (ring top) x a 0 (nth (ring top) 0 0 (lit< tt) (lit< tt)))

    once : y.image 1 ≡ 0
    once = single u wu 0 a (y.image 1) 0 (from_root u (chain laws k) y a 1 (nth (chain laws k) 0 0 (lit< tt) (lit< tt))) round

    twice : y.image 2 ≡ 0
    twice =
        single u wu 0 a (y.image 2) 0
        (moved u (y.image 1) 0 a (y.image 2) (y.image 2) once refl (y.slots 1 a 2 (nth (chain laws k) 1 0 (lit< tt) (lit< tt)))) round

  ring_merge : (k : K) → IsMerge laws (ring top) (chain laws k) (ring k)
  ring_merge k =
      only_merge laws meets (ring top) (chain laws k) (ring k) (ring_formed top) (chain_formed k) (ring_formed k)
      (satisfied laws (ring k) (ring top) (λ p. p) refl (tt, (lit< tt, laws.greatest k)) (tt, (tt, by_a)))
      (satisfied laws (ring k) (chain laws k) (λ p. 0) refl
      (((tt, (lit< tt, laws.greatest k)), (lit< tt, laws.greatest k)), (lit< tt, laws.reflexive k)) (((tt, (tt, by_a)), (tt, by_a)), tt))
      (λ u wu x y.
      satisfied laws u (ring k) (λ p. 0) refl
      (tt, (wu.rooted, subst (λ p. below (kind_of laws u p) k) (twice k u wu x y) (y.kinds 2 (lit< tt)))) (tt, (tt, round k u wu x y)))
    where
      by_a : Slot (ring k) 0 a 0
      by_a = nth (ring k) 0 0 (lit< tt) (lit< tt)

  pub worked : Worked laws
  worked k l c o =
      elim (Memᴰ.cases_cons o) [
        | inl e ↦ holds e (fork_formed k k, shared_formed top, fork_merge k)
        | inr o₁ ↦
            elim (Memᴰ.cases_cons o₁) [
              | inl e ↦ holds e (blank_formed laws, ring_formed top, blank_merge (ring top) (ring_formed top))
              | inr o₂ ↦
                  elim (Memᴰ.cases_cons o₂) [
                    | inl e ↦ holds e (ring_formed top, chain_formed k, ring_merge k)
                    | inr o₃ ↦
                        elim (Memᴰ.cases_cons o₃) [
                          | inl e ↦ holds e (fork_formed k l, shared_formed top, fork_clash k l)
                          | inr o₄ ↦ elim o₄ [ ]
                        ]
                  ]
            ]
      ]
    where
      holds : {d : Case K} → c ≡ d → Holds laws d → Holds laws c
      holds e h = subst (Holds laws) (sym e) h
