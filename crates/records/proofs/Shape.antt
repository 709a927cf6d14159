-- What a well formed sheet has: every slot has its place, every place is met, and a path of slots leads to it.
use Rattle.std.proofs.Common.{◌≡◌, ℕ, zero, suc, ◌+◌, ◌-◌, ◌<◌, ◌≤◌, ◌⊎◌, refl, inl, inr, arith}
use native.Mathlib.Decide.{dec_le, dec_lt}
use Rattle.records.specs.Tables.{Owns}
use Rattle.records.specs.Sheets.{Sheet, size, width, Slot, Formed}
use Rattle.records.proofs.Fields.{first_of, count_of, name_of, target_of, met_of}

-- the slot of the name f of the place p comes no later than that of the name f' of the place p'
abbrev pub First : ℕ → ℕ → ℕ → ℕ → Type 0
First p f p' f' = (p < p') ⊎ ((p ≡ p') × (f ≤ f'))

pub either_first : (p f p' f' : ℕ) → First p f p' f' ⊎ First p' f' p f
either_first p f p' f' =
    elim (dec_lt p p') [
      | yes lt ↦ inl (inl lt)
      | no ge ↦
          elim (dec_lt p' p) [
            | yes lt ↦ inr (inl lt)
            | no ge' ↦
                elim (dec_le f f') [
                  | yes le ↦ inl (inr (omega arith, le))
                  | no gt ↦ inr (inr (omega arith, omega arith))
                ]
          ]
    ]

module _ {K : Type 0} (s : Sheet K) (w : Formed s) where
  -- the slots of a place stand before those of each later place
  later : (p q : ℕ) → p < q → q < size s → first_of s p + count_of s p ≤ first_of s q
  later p zero h k = omega arith
  later p (suc q) h k =
      elim (dec_lt p q) [
        | yes lt ↦ omega (arith, later p q lt (omega arith), w.running q k)
        | no ge ↦
            let e : p ≡ q = omega arith in
            rw e (omega (arith, w.running q k))
      ]

  -- and within the sheet
  pub ends : (p : ℕ) → p < size s → first_of s p + count_of s p ≤ width s
  ends p h =
      let l = w.last (size s - 1) (omega (arith, w.rooted)) in
      elim (dec_lt p (size s - 1)) [
        | yes lt ↦ omega (arith, later p (size s - 1) lt (omega arith))
        | no ge ↦
            let e : p ≡ size s - 1 = omega arith in
            rw e (omega arith)
      ]

  -- the place that a slot belongs to
  pub record Owner (i : ℕ) : Type 0 where
    pub place : ℕ
    pub owns : Owns s.places place i

  pub owner : (i : ℕ) → i < width s → Owner i
  owner i h = go (size s - 1) (omega (arith, w.rooted)) (omega (arith, w.last (size s - 1) (omega (arith, w.rooted))))
    where
      go : (p : ℕ) → p < size s → i < first_of s p + count_of s p → Owner i
      go zero k l = record { place = 0; owns = record { place = k; from = omega (arith, w.first); upto = l } }
      go (suc p) k l =
          elim (dec_le (first_of s (suc p)) i) [
            | yes le ↦ record { place = suc p; owns = record { place = k; from = le; upto = l } }
            | no gt ↦ go p (omega arith) (omega (arith, w.running p k))
          ]

  pub met_more : (i j : ℕ) → i ≤ j → met_of s i ≤ met_of s j
  met_more i zero h = let e : i ≡ 0 = omega arith in rw e (omega arith)
  met_more i (suc j) h =
      elim (dec_le i j) [
        | yes le ↦ omega (arith, met_more i j le)
        | no gt ↦ let e : i ≡ suc j = omega arith in rw e (omega arith)
      ]

  pub target_in : (i : ℕ) → i < width s → target_of s i < size s
  target_in i h = omega (arith, met_more (suc i) (width s) h, w.full)

  -- The slot that meets the place q first: it belongs to an earlier place
  pub record Found (q : ℕ) : Type 0 where
    pub place : ℕ
    pub name : ℕ
    pub edge : Slot s place name q
    pub earlier : place < q
    pub new : met_of s edge.slot ≡ q

  pub found : (q : ℕ) → 0 < q → q < size s → Found q
  found q h k = go (width s) (omega arith) (omega (arith, w.full))
    where
      go : (i : ℕ) → i ≤ width s → q < met_of s i → Found q
      go zero l m = absurd (omega arith)
      go (suc i) l m =
          elim (dec_lt q (met_of s i)) [
            | yes lt ↦ go i (omega arith) lt
            | no ge ↦
                let c = w.close i l in
                let o = owner i l in
                record {
                  place = o.place;
                  name = name_of s i;
                  edge = record { slot = i; owns = o.owns; named = refl; leads = omega arith };
                  earlier = omega (arith, w.begun o.place o.owns.place, met_more (first_of s o.place) i o.owns.from);
                  new = omega arith;
                }
          ]

  -- what holds of the root, and of each place that a slot of a place of which it holds leads to, holds of every place
  pub reached : (P : ℕ → Type 0) → P 0 → ((p f q : ℕ) → Slot s p f q → P p → P q) → (q : ℕ) → q < size s → P q
  reached P base step q k = go (suc q) q (omega arith) k
    where
      go : (n r : ℕ) → r < n → r < size s → P r
      go zero r h k = absurd (omega arith)
      go (suc n) zero h k = base
      go (suc n) (suc r) h k =
          let f = found (suc r) (omega arith) k in
          step f.place f.name (suc r) f.edge (go n f.place (omega (arith, f.earlier)) f.edge.owns.place)

  -- within a place the names rise
  pub rises : (p i j : ℕ) → p < size s → first_of s p ≤ i → i < j → j < first_of s p + count_of s p → name_of s i < name_of s j
  rises p i zero k h l m = absurd (omega arith)
  rises p i (suc j) k h l m =
      elim (dec_lt i j) [
        | yes lt ↦ omega (arith, rises p i j k h lt (omega arith), w.rising p j k (omega arith) m)
        | no ge ↦ let e : i ≡ j = omega arith in rw e (w.rising p j k (omega arith) m)
      ]

  pub rises_le : (p i j : ℕ) → p < size s → first_of s p ≤ i → i ≤ j → j < first_of s p + count_of s p → name_of s i ≤ name_of s j
  rises_le p i j k h l m =
      elim (dec_lt i j) [
        | yes lt ↦ omega (arith, rises p i j k h lt m)
        | no ge ↦ let e : i ≡ j = omega arith in rw e (omega arith)
      ]

  -- of two slots, the one of the earlier place, or of the lesser name, stands first
  pub ordered : (p f q p' f' q' : ℕ) (e : Slot s p f q) (e' : Slot s p' f' q') → First p f p' f' → e.slot ≤ e'.slot
  ordered p f q p' f' q' e e' (inl h) = omega (arith, later p p' h e'.owns.place, e.owns.upto, e'.owns.from)
  ordered p f q p' f' q' e e' (inr h) =
      elim (dec_le e.slot e'.slot) [
        | yes le ↦ le
        | no gt ↦
            let to = rw h.0 at e.owns.upto in
            absurd (omega (arith, rises p' e'.slot e.slot e'.owns.place e'.owns.from (omega arith) to))
      ]

  -- a place has one slot of a name
  pub single : (p f q q' : ℕ) → Slot s p f q → Slot s p f q' → q ≡ q'
  single p f q q' e e' =
      let a = ordered p f q p f q' e e' (inr (refl, omega arith)) in
      let b = ordered p f q' p f q e' e (inr (refl, omega arith)) in
      let same : e.slot ≡ e'.slot = omega arith in
      cc

  pub slot_in : (p f q : ℕ) (e : Slot s p f q) → e.slot < width s
  slot_in p f q e = omega (arith, ends p e.owns.place)

  pub edge_in : (p f q : ℕ) → Slot s p f q → q < size s
  edge_in p f q e = omega (arith, target_in e.slot (slot_in p f q e), e.leads)

  -- a slot that comes no later than the one that meets q leads no farther
  pub no_farther : (p f r q : ℕ) → Slot s p f r → (g : Found q) → First p f g.place g.name → r ≤ q
  no_farther p f r q e g first =
      omega (arith, w.close e.slot (slot_in p f r e), met_more e.slot g.edge.slot (ordered p f r g.place g.name q e g.edge first))

  -- a slot belongs to one place
  pub owner_one : (i p q : ℕ) → Owns s.places p i → Owns s.places q i → p ≡ q
  owner_one i p q a b =
      elim (dec_lt p q) [
        | yes lt ↦ absurd (omega (arith, later p q lt b.place))
        | no ge ↦ elim (dec_lt q p) [ yes lt ↦ absurd (omega (arith, later q p lt a.place)) | no ge' ↦ omega arith ]
      ]

  -- the place of a slot, and 0 past the slots
  pick_owner : (i : ℕ) → Dec (i < width s) → ℕ
  pick_owner i (yes h) = (owner i h).place
  pick_owner i (no h) = 0

  pub owner_at : ℕ → ℕ
  owner_at i = pick_owner i (dec_lt i (width s))

  pick_edge : (i : ℕ) (d : Dec (i < width s)) → i < width s → Slot s (pick_owner i d) (name_of s i) (target_of s i)
  unfolding pick_owner
  pick_edge i (yes h) k = let o = owner i h in record { slot = i; owns = o.owns; named = refl; leads = refl }
  pick_edge i (no h) k = absurd (h k)

  pub edge_at : (i : ℕ) → i < width s → Slot s (owner_at i) (name_of s i) (target_of s i)
  unfolding owner_at
  edge_at i h = pick_edge i (dec_lt i (width s)) h

  pub owner_is : (p f q : ℕ) (e : Slot s p f q) → owner_at e.slot ≡ p
  unfolding owner_at pick_owner
  owner_is p f q e =
      elim (dec_lt e.slot (width s)) as (λ d. pick_owner e.slot d ≡ p) [
        | yes h ↦
            owner_one e.slot (owner e.slot h).place p (owner e.slot h).owns e.owns
        | no h ↦ absurd (h (slot_in p f q e))
      ]
