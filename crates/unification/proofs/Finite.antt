-- What is shown of a sheet that is written out: place by place, and slot by slot.
use Rattle.std.proofs.Common.{◌≡◌, ℕ, zero, suc, ◌+◌, ◌-◌, ◌<◌, Option, subst, arith}
use native.Mathlib.Decide.{dec_lt}
use Rattle.kinds.specs.Laws.{KindLaws}
use Rattle.records.specs.Sheets.{Sheet, size, Slot, kind_of}
use Rattle.records.specs.Satisfaction.{Satisfies}
use Rattle.records.proofs.Fields.{first_of, count_of, name_of, target_of}

-- P of each number below n
abbrev pub Every : (ℕ → Type 0) → ℕ → Type 0
Every P zero = Unit {0}
Every P (suc n) = Every P n × P n

each : (P : ℕ → Type 0) (n : ℕ) → Every P n → (i : ℕ) → i < n → P i
each P zero t i h = absurd (omega arith)
each P (suc n) t i h =
    elim (dec_lt i n) [
      | yes lt ↦ each P n t.0 i lt
      | no ge ↦
          let e : n ≡ i = omega arith in
          subst P e t.1
    ]

-- R of each slot
abbrev pub EverySlot : {K : Type 0} → Sheet K → (ℕ → ℕ → ℕ → Type 0) → Type 0
EverySlot t R = Every (λ p. Every (λ j. R p (name_of t (first_of t p + j)) (target_of t (first_of t p + j))) (count_of t p)) (size t)

each_slot : {K : Type 0} (t : Sheet K) (R : ℕ → ℕ → ℕ → Type 0) → EverySlot t R → (p f q : ℕ) → Slot t p f q → R p f q
each_slot t R all p f q e =
    let j : ℕ = e.slot - first_of t p in
    let back : first_of t p + j ≡ e.slot = omega (arith, e.owns.from) in
    let row = each (λ p. Every (λ j. R p (name_of t (first_of t p + j)) (target_of t (first_of t p + j))) (count_of t p)) (size t) all p e.owns.place in
    let here =
    each (λ j. R p (name_of t (first_of t p + j)) (target_of t (first_of t p + j))) (count_of t p) row j (omega (arith, e.owns.from, e.owns.upto)) in
    subst (R p f) e.leads (subst (λ n. R p n (target_of t e.slot)) e.named (subst (λ i. R p (name_of t i) (target_of t i)) back here))

module _ {K F : Type 0} {below : K → K → Type 0} {top : K} {form : K → F} {kind : F → Option K} (laws : KindLaws below top form kind) where
  -- u satisfies t, which is written out
  pub satisfied : (u t : Sheet K) (image : ℕ → ℕ) → image 0 ≡ 0 → Every (λ p. (image p < size u) × below (kind_of laws u (image p)) (kind_of laws t p)) (size t)
      → EverySlot t (λ p f q. Slot u (image p) f (image q)) → Satisfies laws u t
  satisfied u t image root places slots =
      record {
        image = image;
        root = root;
        within = λ p h. (each (λ p. (image p < size u) × below (kind_of laws u (image p)) (kind_of laws t p)) (size t) places p h).0;
        slots = each_slot t (λ p f q. Slot u (image p) f (image q)) slots;
        kinds = λ p h. (each (λ p. (image p < size u) × below (kind_of laws u (image p)) (kind_of laws t p)) (size t) places p h).1;
      }
