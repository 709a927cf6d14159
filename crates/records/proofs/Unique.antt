-- Two well formed sheets that satisfy each other are equal, and by one map at most does one satisfy another.
use Rattle.std.proofs.Common.{◌≡◌, ℕ, zero, suc, ◌+◌, ◌-◌, ◌<◌, ◌≤◌, List, map, length, get_or, Option, sym, refl, ap, ◌∙◌, subst, inl, inr, arith, ext_get_or}
use native.Mathlib.Decide.{dec_le, dec_lt}
use Rattle.std.proofs.lemmas.List.{get_or-map}
use Rattle.kinds.specs.Laws.{KindLaws}
use Rattle.records.specs.declared.PlaceRecord.{PlaceRecord}
use Rattle.records.specs.declared.SlotRecord.{SlotRecord}
use Rattle.records.specs.Tables.{first_at, count_at, kind_at, name_at, target_at, blank_slot, Owns}
use Rattle.records.specs.Sheets.{Sheet, size, width, Slot, Formed, kind_of}
use Rattle.records.specs.Satisfaction.{Satisfies}
use Rattle.records.proofs.Fields.{first_of, count_of, name_of, target_of}
use Rattle.records.proofs.Shape.{First, either_first, Found, found, reached, rises, rises_le, single, no_farther, edge_in, owner}

place_path : {K : Type 0} (x y : PlaceRecord K) → x.kind ≡ y.kind → x.before ≡ y.before → x.count ≡ y.count → x ≡ y
place_path x y a b c = λ i. record { kind = a i; before = b i; count = c i }

-- places are equal if their columns are
pub same_places : {K : Type 0} (d : K) (ps qs : List (PlaceRecord K)) → length ps ≡ length qs → ((p : ℕ) → p < length ps → kind_at d ps p ≡ kind_at d qs p)
    → ((p : ℕ) → p < length ps → first_at ps p ≡ first_at qs p) → ((p : ℕ) → p < length ps → count_at ps p ≡ count_at qs p) → ps ≡ qs
same_places {K} d ps qs e kinds firsts counts = ext_get_or blank ps qs e (λ p h. place_path (get_or ps p blank) (get_or qs p blank)
    (column (λ r. r.kind) d p h (kinds p h)) (column (λ r. r.before) 0 p h (firsts p h)) (column (λ r. r.count) 0 p h (counts p h)))
  where
    blank : PlaceRecord K
    blank = record { kind = d; before = 0; count = 0 }

    column : {A : Type 0} (f : PlaceRecord K → A) (z : A) (p : ℕ) → p < length ps → get_or (map f ps) p z ≡ get_or (map f qs) p z → f (get_or ps p blank) ≡ f (get_or qs p blank)
    column f z p h q = sym (get_or-map f ps p blank z h) ∙ q ∙ get_or-map f qs p blank z (omega arith)

-- and so are slots
pub same_slots : (ss ts : List SlotRecord) → length ss ≡ length ts → ((i : ℕ) → i < length ss → name_at ss i ≡ name_at ts i)
    → ((i : ℕ) → i < length ss → target_at ss i ≡ target_at ts i) → ss ≡ ts
same_slots ss ts e names targets = ext_get_or blank_slot ss ts e (λ i h j. record { name = names i h j; target = targets i h j })

module _ {K : Type 0} where
  pub sheet_path : (s t : Sheet K) → s.places ≡ t.places → s.slots ≡ t.slots → s ≡ t
  sheet_path s t a b = λ i. record { places = a i; slots = b i }

  -- a slot, carried along equations of its ends
  pub moved : (s : Sheet K) (p p' f q q' : ℕ) → p ≡ p' → q ≡ q' → Slot s p f q → Slot s p' f q'
  moved s p p' f q q' a b e = record { slot = e.slot; owns = subst (λ x. Owns s.places x e.slot) a e.owns; named = e.named; leads = e.leads ∙ b }

  -- the k-th slot of a place
  pub nth : (s : Sheet K) (p k : ℕ) → p < size s → k < count_of s p → Slot s p (name_of s (first_of s p + k)) (target_of s (first_of s p + k))
  nth s p k h l = record { slot = first_of s p + k; owns = record { place = h; from = omega arith; upto = omega arith }; named = refl; leads = refl }

  -- Row by row: the k-th slot of a place of s has a k-th slot in t, whose name is no greater
  row : (s t : Sheet K) → Formed s → Formed t → (p : ℕ) → p < size s → ((f q : ℕ) → Slot s p f q → Slot t p f q)
      → (k : ℕ) → k < count_of s p → (k < count_of t p) × (name_of t (first_of t p + k) ≤ name_of s (first_of s p + k))
  row s t w v p h edges zero l =
      let e = edges (name_of s (first_of s p + 0)) (target_of s (first_of s p + 0)) (nth s p 0 h l) in
      (omega arith, omega (arith, rises_le t v p (first_of t p + 0) e.slot e.owns.place (omega arith) (omega arith) e.owns.upto))
  row s t w v p h edges (suc k) l =
      let e = edges (name_of s (first_of s p + suc k)) (target_of s (first_of s p + suc k)) (nth s p (suc k) h l) in
      let ih = row s t w v p h edges k (omega arith) in
      let up = rises s w p (first_of s p + k) (first_of s p + suc k) h (omega arith) (omega arith) (omega arith) in
      let past : first_of t p + suc k ≤ e.slot =
      elim (dec_le (first_of t p + suc k) e.slot) [
        | yes le ↦ le
        | no gt ↦ absurd (omega (arith, rises_le t v p e.slot (first_of t p + k) e.owns.place e.owns.from (omega arith) (omega arith)))
      ] in
      (omega arith, omega (arith, rises_le t v p (first_of t p + suc k) e.slot e.owns.place (omega arith) past e.owns.upto))

  count_le : (s t : Sheet K) → Formed s → Formed t → (p : ℕ) → p < size s → ((f q : ℕ) → Slot s p f q → Slot t p f q) → count_of s p ≤ count_of t p
  count_le s t w v p h edges =
      elim (dec_lt 0 (count_of s p)) [
        | yes lt ↦ omega (arith, (row s t w v p h edges (count_of s p - 1) (omega arith)).0)
        | no ge ↦ omega arith
      ]

module _ {K F : Type 0} {below : K → K → Type 0} {top : K} {form : K → F} {kind : F → Option K} (laws : KindLaws below top form kind) where
  -- there and back again every place is itself
  round : (s t : Sheet K) → Formed s → (a : Satisfies laws s t) (b : Satisfies laws t s) (q : ℕ) → q < size s → a.image (b.image q) ≡ q
  round s t w a b =
      reached s w (λ q. a.image (b.image q) ≡ q) (ap a.image b.root ∙ a.root)
      (λ p f q e h.
      let e' = a.slots (b.image p) f (b.image q) (b.slots p f q e) in
      single s w p f (a.image (b.image q)) q (moved s (a.image (b.image p)) p f (a.image (b.image q)) (a.image (b.image q)) h refl e') e)

  -- each place of s below n is itself in t
  Fixed : (s t : Sheet K) → Satisfies laws t s → ℕ → Type 0
  Fixed s t b n = (r : ℕ) → r < n → r < size s → b.image r ≡ r

  -- a place is not carried to one before it
  forward : (s t : Sheet K) → Formed s → (a : Satisfies laws s t) (b : Satisfies laws t s) (q : ℕ) → Fixed t s a q → q < size s → q ≤ b.image q
  unfolding Fixed
  forward s t w a b q fix k =
      elim (dec_le q (b.image q)) [
        | yes le ↦ le
        | no gt ↦ absurd (omega (arith, round s t w a b q k, fix (b.image q) (omega arith) (b.within q k)))
      ]

  -- where s meets q at a slot that comes no later than the one where t does, q is carried to q
  nearer : (s t : Sheet K) (w : Formed s) (v : Formed t) (a : Satisfies laws s t) (b : Satisfies laws t s) (q : ℕ)
      → Fixed s t b q → Fixed t s a q → q < size s → (f : Found s w q) (g : Found t v q)
      → First f.place f.name g.place g.name → b.image q ≡ q
  unfolding Fixed
  nearer s t w v a b q fs ft k f g first =
      let back = b.slots f.place f.name q f.edge in
      let e = moved t (b.image f.place) f.place f.name (b.image q) (b.image q) (fs f.place f.earlier f.edge.owns.place) refl back in
      omega (arith, no_farther t v f.place f.name (b.image q) q e g first, forward s t w a b q ft k)

  here : (s t : Sheet K) (w : Formed s) (v : Formed t) (a : Satisfies laws s t) (b : Satisfies laws t s) (q : ℕ)
      → Fixed s t b q → Fixed t s a q → q < size s → b.image q ≡ q
  here s t w v a b zero fs ft k = b.root
  here s t w v a b (suc m) fs ft k =
      let n : ℕ = suc m in
      let in_t : n < size t = omega (arith, forward s t w a b n ft k, b.within n k) in
      let f = found s w n (omega arith) k in
      let g = found t v n (omega arith) in_t in
      elim (either_first f.place f.name g.place g.name) [
        | inl first ↦ nearer s t w v a b n fs ft k f g first
        | inr first ↦
            let e = nearer t s v w b a n ft fs in_t g f first in
            ap b.image (sym e) ∙ round t s v b a n in_t
      ]

  more : (s t : Sheet K) (b : Satisfies laws t s) (n : ℕ) → Fixed s t b n → (n < size s → b.image n ≡ n) → Fixed s t b (suc n)
  unfolding Fixed
  more s t b n fix at_n r h k =
      elim (dec_lt r n) [
        | yes lt ↦ fix r lt k
        | no ge ↦ let e : r ≡ n = omega arith in rw e (at_n (omega arith))
      ]

  all_fixed : (s t : Sheet K) (w : Formed s) (v : Formed t) (a : Satisfies laws s t) (b : Satisfies laws t s) (n : ℕ)
      → Fixed s t b n × Fixed t s a n
  unfolding Fixed
  all_fixed s t w v a b zero = (λ r h k. absurd (omega arith), λ r h k. absurd (omega arith))
  all_fixed s t w v a b (suc n) =
      let ih = all_fixed s t w v a b n in
      (more s t b n ih.0 (here s t w v a b n ih.0 ih.1), more t s a n ih.1 (here t s v w b a n ih.1 ih.0))

  fixed : (s t : Sheet K) → Formed s → Formed t → Satisfies laws s t → (b : Satisfies laws t s) (r : ℕ) → r < size s → b.image r ≡ r
  unfolding Fixed
  fixed s t w v a b r k = (all_fixed s t w v a b (suc r)).0 r (omega arith) k

  size_le : (s t : Sheet K) → Formed s → Formed t → Satisfies laws s t → Satisfies laws t s → size s ≤ size t
  size_le s t w v a b =
      let last : size s - 1 < size s = omega (arith, w.rooted) in
      omega (arith, fixed s t w v a b (size s - 1) last, b.within (size s - 1) last)

  -- so the one has the edges of the other
  carried : (s t : Sheet K) → Formed s → Formed t → Satisfies laws s t → Satisfies laws t s → (p f q : ℕ) → Slot s p f q → Slot t p f q
  carried s t w v a b p f q e =
      moved t (b.image p) p f (b.image q) q (fixed s t w v a b p e.owns.place) (fixed s t w v a b q (edge_in s w p f q e)) (b.slots p f q e)

  module _ (s t : Sheet K) (w : Formed s) (v : Formed t) (a : Satisfies laws s t) (b : Satisfies laws t s) where
    same_size : size s ≡ size t
    same_size = omega (arith, size_le s t w v a b, size_le t s v w b a)

    to_t : (p f q : ℕ) → Slot s p f q → Slot t p f q
    to_t = carried s t w v a b

    to_s : (p f q : ℕ) → Slot t p f q → Slot s p f q
    to_s = carried t s v w b a

    same_count : (p : ℕ) → p < size s → count_of s p ≡ count_of t p
    same_count p h =
        let e = same_size in
        omega (arith, count_le s t w v p h (to_t p), count_le t s v w p (omega arith) (to_s p))

    same_first : (p : ℕ) → p < size s → first_of s p ≡ first_of t p
    same_first zero h = w.first ∙ sym v.first
    same_first (suc p) h =
        let e = same_size in
        omega (arith, w.running p h, v.running p (omega arith), same_first p (omega arith), same_count p (omega arith))

    same_kind : (p : ℕ) → p < size s → kind_of laws s p ≡ kind_of laws t p
    same_kind p h =
        let e = same_size in
        let k : p < size t = omega arith in
        laws.antisymmetric (kind_of laws s p) (kind_of laws t p) (rw (fixed t s v w b a p k) at (a.kinds p k)) (rw (fixed s t w v a b p h) at (b.kinds p h))

    -- the k-th slots of a place
    same_nth : (p k : ℕ) → p < size s → k < count_of s p
        → (name_of s (first_of s p + k) ≡ name_of t (first_of t p + k)) × (target_of s (first_of s p + k) ≡ target_of t (first_of t p + k))
    same_nth p k h j =
        let e = same_size in
        let c = same_count p h in
        let there = (row s t w v p h (to_t p) k j).1 in
        let back = (row t s v w p (omega arith) (to_s p) k (omega arith)).1 in
        let name : name_of t (first_of t p + k) ≡ name_of s (first_of s p + k) = omega arith in
        let edge = to_s p (name_of t (first_of t p + k)) (target_of t (first_of t p + k)) (nth t p k (omega arith) (omega arith)) in
        (sym name, single s w p (name_of s (first_of s p + k)) (target_of s (first_of s p + k)) (target_of t (first_of t p + k)) (nth s p k h j) (rw name at edge))

    same_slot : (i : ℕ) → i < width s → (name_of s i ≡ name_of t i) × (target_of s i ≡ target_of t i)
    same_slot i h =
        let o = owner s w i h in
        let p : ℕ = o.place in
        let in_s : first_of s p + (i - first_of s p) ≡ i = omega (arith, o.owns.from) in
        let in_t : first_of t p + (i - first_of s p) ≡ i = omega (arith, o.owns.from, same_first p o.owns.place) in
        let n = same_nth p (i - first_of s p) o.owns.place (omega (arith, o.owns.upto)) in
        (ap (name_of s) (sym in_s) ∙ n.0 ∙ ap (name_of t) in_t, ap (target_of s) (sym in_s) ∙ n.1 ∙ ap (target_of t) in_t)

    same_width : width s ≡ width t
    same_width =
        let e = same_size in
        let in_s : size s - 1 < size s = omega (arith, w.rooted) in
        omega (arith, w.last (size s - 1) (omega arith), v.last (size s - 1) (omega arith), same_first (size s - 1) in_s, same_count (size s - 1) in_s)

    pub unique : s ≡ t
    unique =
        sheet_path s t (same_places top s.places t.places same_size same_kind same_first same_count)
        (same_slots s.slots t.slots same_width (λ i h. (same_slot i h).0) (λ i h. (same_slot i h).1))

  pub one_image : (s t : Sheet K) → Formed s → Formed t → (a b : Satisfies laws s t) (p : ℕ) → p < size t → a.image p ≡ b.image p
  one_image s t w v a b =
      reached t v (λ p. a.image p ≡ b.image p) (a.root ∙ sym b.root)
      (λ p f q e h.
      single s w (b.image p) f (a.image q) (b.image q)
      (moved s (a.image p) (b.image p) f (a.image q) (a.image q) h refl (a.slots p f q e)) (b.slots p f q e))
