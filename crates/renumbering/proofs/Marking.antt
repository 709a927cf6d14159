-- Marks of the places that earlier places lead to.
use Rattle.std.proofs.Common.{◌≡◌, ℕ, ◌+◌, ◌-◌, ◌<◌, Bool, true, false, ◌≢◌, List, length, take, drop, set, replicate, sym, ap, ◌∙◌, subst, inl, inr, arith}
use native.Mathlib.Decide.{dec_lt, ℕ_discrete}
use Rattle.std.proofs.lemmas.List.{get_or-set_same, get_or-set_other, get_or-replicate, get_or_past, length-replicate}
use Rattle.std.proofs.lemmas.Bool.{false≢true}
use Rattle.records.specs.declared.PlaceRecord.{PlaceRecord}
use Rattle.records.specs.declared.SlotRecord.{SlotRecord}
use Rattle.records.specs.Tables.{first_at, count_at, target_at, Owns}
use Rattle.records.specs.Checks as checks
use Rattle.records.proofs.Owned.{own_length, own_target}
use Rattle.renumbering.specs.Drafts.{LedBefore, LedOn, Marks, marked}

-- the root is marked, and those are that the places before p lead to
pub record Marked {F : Type 0} (ps : List (PlaceRecord F)) (ss : List SlotRecord) (p : ℕ) (marks : List Bool) : Type 0 where
  pub root : marked marks 0 ≡ true
  pub all : (x i : ℕ) → x < p → Owns ps x i → marked marks (target_at ss i) ≡ true
  pub only : (q : ℕ) → 0 < q → marked marks q ≡ true → LedBefore ps ss p q

unmarked : (n q : ℕ) → marked (replicate n false) q ≡ false
unmarked n q =
    elim (dec_lt q n) [
      | yes lt ↦ get_or-replicate n q false false lt
      | no ge ↦ get_or_past (replicate n false) q false (omega (arith, length-replicate n false))
    ]

module _ {F : Type 0} (ps : List (PlaceRecord F)) (ss : List SlotRecord) where
  pub root_marked : (n : ℕ) → 0 < n → Marked ps ss 0 (set (replicate n false) 0 true)
  root_marked n h =
      record {
        root = get_or-set_same (replicate n false) 0 true false (omega (arith, length-replicate n false));
        all = λ x i l o. absurd (omega arith);
        only = λ q l is.
            let off : q ≢ 0 = λ e. omega arith in
            absurd (false≢true (sym (unmarked n q) ∙ sym (get_or-set_other (replicate n false) 0 q true false off) ∙ is));
      }

  -- the slots xs of the place p mark what they lead to
  pub marked_more : (p : ℕ) (xs : List SlotRecord) (old new : List Bool) → checks.Counted ps ss → p < length ps
      → xs ≡ take (count_at ps p) (drop (first_at ps p) ss) → Marked ps ss p old → Marks xs (length xs) old new → Marked ps ss (p + 1) new
  marked_more p xs old new c h own m k =
      let from : ℕ = first_at ps p in
      let long = own_length ps ss c p h xs own in
      let target = own_target ps ss c p h xs own in
      record {
        root = k.still 0 m.root;
        all = λ x i l o. elim (dec_lt x p) [
          | yes lt ↦ k.still (target_at ss i) (m.all x i lt o)
          | no ge ↦
              let at : x ≡ p = omega arith in
              let o' = subst (λ z. Owns ps z i) at o in
              let j : ℕ = i - from in
              let there : from + j ≡ i = omega (arith, o'.from) in
              let is : target_at xs j ≡ target_at ss i = target j (omega (arith, o'.upto)) ∙ ap (target_at ss) there in
              ap (marked new) (sym is) ∙ k.more j (omega (arith, o'.upto))
        ];
        only = λ q l is. elim (k.only q is) [
          | inl was ↦
              let b = m.only q l was in
              record { place = b.place; slot = b.slot; earlier = omega arith; owns = b.owns; leads = b.leads }
          | inr z ↦
              record {
                place = p;
                slot = from + z.0;
                earlier = omega arith;
                owns = record { place = h; from = omega arith; upto = omega (arith, z.1) };
                leads = sym (target z.0 (omega (arith, z.1))) ∙ z.2;
              }
        ];
      }

  -- where each place but the first is led to from an earlier one, a place is marked when its turn comes
  pub marked_in_turn : (p : ℕ) (marks : List Bool) → Marked ps ss p marks → LedOn ps ss → p < length ps → marked marks p ≡ true
  marked_in_turn p marks m led h =
      elim (dec_lt 0 p) [
        | yes lt ↦
            let b = led p lt h in
            ap (marked marks) (sym b.leads) ∙ m.all b.place b.slot b.earlier b.owns
        | no ge ↦
            let e : p ≡ 0 = omega arith in
            ap (marked marks) e ∙ m.root
      ]

  -- and a place that is marked in its turn is led to from an earlier one
  pub led_more : (p : ℕ) (marks : List Bool) → Marked ps ss p marks → marked marks p ≡ true → ((q : ℕ) → 0 < q → q < p → LedBefore ps ss q q)
      → (q : ℕ) → 0 < q → q < p + 1 → LedBefore ps ss q q
  led_more p marks m is before q l h =
      elim (dec_lt q p) [
        | yes lt ↦ before q l lt
        | no ge ↦
            let e : q ≡ p = omega arith in
            subst (λ z. LedBefore ps ss z z) (sym e) (m.only p (omega arith) is)
      ]
