-- Two well formed sheets side by side: the tables that hold them are in order, and their edges are those of the sheets.
use Rattle.std.proofs.Common.{◌≡◌, ℕ, ◌+◌, ◌-◌, ◌<◌, ◌≤◌, map, sym, ap, ◌∙◌, arith}
use native.Mathlib.Decide.{dec_lt}
use Rattle.std.proofs.lemmas.List.{get_or_past, length-map}
use Rattle.records.specs.Tables.{first_at, count_at, name_at, target_at, Owns}
use Rattle.records.specs.Sheets.{Sheet, size, width, Slot, Formed}
use Rattle.records.specs.Beside.{Side, Beside}
use Rattle.records.specs.Beside.Side.{left, right}
use Rattle.records.proofs.Shape.{ends, target_in, rises, slot_in}

-- the graph of v is that of s with that of t after it
pub record Stands {K F : Type 0} (s t : Sheet K) (v : Sheet F) : Type 0 where
  pub places : size v ≡ size s + size t
  pub slots : width v ≡ width s + width t
  pub first_left : (x : ℕ) → x < size s → first_at v.places x ≡ first_at s.places x
  pub count_left : (x : ℕ) → x < size s → count_at v.places x ≡ count_at s.places x
  pub name_left : (i : ℕ) → i < width s → name_at v.slots i ≡ name_at s.slots i
  pub target_left : (i : ℕ) → i < width s → target_at v.slots i ≡ target_at s.slots i
  pub first_right : (x : ℕ) → x < size t → first_at v.places (size s + x) ≡ width s + first_at t.places x
  pub count_right : (x : ℕ) → x < size t → count_at v.places (size s + x) ≡ count_at t.places x
  pub name_right : (i : ℕ) → i < width t → name_at v.slots (width s + i) ≡ name_at t.slots i
  pub target_right : (i : ℕ) → i < width t → target_at v.slots (width s + i) ≡ size s + target_at t.slots i

pub beside_stands : {K : Type 0} {s t w : Sheet K} → Beside s t w → Stands s t w
beside_stands b =
    record {
      places = b.places;
      slots = b.slots;
      first_left = b.first_left;
      count_left = b.count_left;
      name_left = b.name_left;
      target_left = b.target_left;
      first_right = b.first_right;
      count_right = b.count_right;
      name_right = b.name_right;
      target_right = b.target_right;
    }

module _ {K F : Type 0} {s t : Sheet K} {v : Sheet F} (b : Stands s t v) (fs : Formed s) (ft : Formed t) where
  -- a slot of a place of the one sheet, or of the other
  pub left_owns : (x i : ℕ) → x < size s → Owns v.places x i → Owns s.places x i × (i < width s)
  left_owns x i h o =
      let f = b.first_left x h in
      let k = b.count_left x h in
      (record { place = h; from = omega (arith, o.from); upto = omega (arith, o.upto) }, omega (arith, o.upto, ends s fs x h))

  pub right_owns : (x i : ℕ) → size s ≤ x → Owns v.places x i → Owns t.places (x - size s) (i - width s) × (width s ≤ i) × (i - width s < width t)
  right_owns x i h o =
      let z : ℕ = x - size s in
      let e : size s + z ≡ x = omega arith in
      let z_in : z < size t = omega (arith, o.place, b.places) in
      let f = ap (first_at v.places) (sym e) ∙ b.first_right z z_in in
      let k = ap (count_at v.places) (sym e) ∙ b.count_right z z_in in (
        record { place = z_in; from = omega (arith, o.from); upto = omega (arith, o.upto, o.from) },
        omega (arith, o.from),
        omega (arith, o.upto, o.from, ends t ft z z_in),
      )

  -- ---- the tables are in order

  pub block : (x : ℕ) → first_at v.places x + count_at v.places x ≤ width v
  block x =
      elim (dec_lt x (size s)) [
        | yes lt ↦ omega (arith, b.first_left x lt, b.count_left x lt, ends s fs x lt, b.slots)
        | no ge ↦
            elim (dec_lt x (size v)) [
              | yes lt ↦
                  let z : ℕ = x - size s in
                  let e : size s + z ≡ x = omega arith in
                  let z_in : z < size t = omega (arith, b.places) in
                  omega (arith, ap (first_at v.places) e, ap (count_at v.places) e, b.first_right z z_in, b.count_right z z_in, ends t ft z z_in, b.slots)
              | no past ↦
                  omega (
                    arith,
                    get_or_past (map (λ p. p.before) v.places) x 0 (simp length-map (omega arith)),
                    get_or_past (map (λ p. p.count) v.places) x 0 (simp length-map (omega arith)),
                  )
            ]
      ]

  pub rising : (x i j : ℕ) → i < j → Owns v.places x i → Owns v.places x j → name_at v.slots i < name_at v.slots j
  rising x i j less oi oj =
      elim (dec_lt x (size s)) [
        | yes lt ↦
            let a = left_owns x i lt oi in
            let d = left_owns x j lt oj in
            omega (arith, b.name_left i a.1, b.name_left j d.1, rises s fs x i j lt a.0.from less d.0.upto)
        | no ge ↦
            let a = right_owns x i (omega arith) oi in
            let d = right_owns x j (omega arith) oj in
            let i' : ℕ = i - width s in
            let j' : ℕ = j - width s in
            let ei : width s + i' ≡ i = omega (arith, a.1) in
            let ej : width s + j' ≡ j = omega (arith, d.1) in
            omega (
              arith,
              ap (name_at v.slots) ei,
              ap (name_at v.slots) ej,
              b.name_right i' a.2,
              b.name_right j' d.2,
              rises t ft (x - size s) i' j' a.0.place a.0.from (omega (arith, a.1)) d.0.upto,
            )
      ]

  pub aims : (i : ℕ) → i < width v → target_at v.slots i < size v
  aims i h =
      elim (dec_lt i (width s)) [
        | yes lt ↦ omega (arith, b.target_left i lt, target_in s fs i lt, b.places)
        | no ge ↦
            let k : ℕ = i - width s in
            let e : width s + k ≡ i = omega arith in
            let k_in : k < width t = omega (arith, b.slots) in
            omega (arith, ap (target_at v.slots) e, b.target_right k k_in, target_in t ft k k_in, b.places)
      ]

  -- ---- the edges are those of the sheets

  pub left_edge : (p f q : ℕ) → Slot s p f q → Slot v p f q
  left_edge p f q e =
      let o = e.owns in
      let h = o.place in
      let i_in = slot_in s fs p f q e in
      record {
        slot = e.slot;
        owns = record { place = omega (arith, b.places); from = omega (arith, b.first_left p h, o.from); upto = omega (arith, b.first_left p h, b.count_left p h, o.upto) };
        named = b.name_left e.slot i_in ∙ e.named;
        leads = b.target_left e.slot i_in ∙ e.leads;
      }

  pub right_edge : (p f q : ℕ) → Slot t p f q → Slot v (size s + p) f (size s + q)
  right_edge p f q e =
      let o = e.owns in
      let h = o.place in
      let i_in = slot_in t ft p f q e in
      record {
        slot = width s + e.slot;
        owns = record { place = omega (arith, b.places); from = omega (arith, b.first_right p h, o.from); upto = omega (arith, b.first_right p h, b.count_right p h, o.upto) };
        named = b.name_right e.slot i_in ∙ e.named;
        leads = b.target_right e.slot i_in ∙ ap (λ n. size s + n) e.leads;
      }

  pub from_side : (x f y : ℕ) → Side s t x f y → Slot v x f y
  from_side x f y (left e) = left_edge x f y e
  from_side x f y (right p q h k e) = rw (h, k) (right_edge p f q e)

  pub to_side : (x f y : ℕ) → Slot v x f y → Side s t x f y
  to_side x f y e =
      elim (dec_lt x (size s)) [
        | yes lt ↦
            let o = left_owns x e.slot lt e.owns in
            left (record { slot = e.slot; owns = o.0; named = sym (b.name_left e.slot o.1) ∙ e.named; leads = sym (b.target_left e.slot o.1) ∙ e.leads })
        | no ge ↦
            let o = right_owns x e.slot (omega arith) e.owns in
            let k : ℕ = e.slot - width s in
            let at_k : width s + k ≡ e.slot = omega (arith, o.1) in
            let to = b.target_right k o.2 in
            let to' = ap (target_at v.slots) at_k ∙ e.leads in
            right (x - size s) (y - size s) (omega arith) (omega arith)
            (record { slot = k; owns = o.0; named = sym (b.name_right k o.2) ∙ ap (name_at v.slots) at_k ∙ e.named; leads = omega arith })
      ]
