-- A sheet under a root of its own: its shape, its slots, and what satisfies it.
use Rattle.std.proofs.Common.{◌≡◌, ℕ, zero, suc, ◌+◌, ◌<◌, ◌≤◌, ◌⊎◌, Option, sym, refl, ap, ◌∙◌, subst, inl, inr, arith}
use lib.ListN.{length-map}
use Rattle.kinds.specs.Laws.{KindLaws}
use Rattle.records.specs.Tables.{met}
use Rattle.records.specs.Sheets.{Sheet, size, width, kind_of, Slot, Formed}
use Rattle.records.proofs.Fields.{first_of, count_of, name_of, target_of}
use Rattle.records.proofs.Shape.{ends, slot_in}
use Rattle.asks.specs.Paths.{From}
use Rattle.asks.specs.Asks.{moved_place, moved_slot, under}
use Rattle.asks.proofs.Moved.{first_moved, count_moved, kind_moved, name_moved, target_moved}

module _ {K : Type 0} (top : K) (f : ℕ) (t : Sheet K) where
  pub under_size : size (under top f t) ≡ suc (size t)
  under_size = ap suc (length-map t.places (moved_place 1))

  pub under_width : width (under top f t) ≡ suc (width t)
  under_width = ap suc (length-map t.slots (moved_slot 1))

  first_late : (p : ℕ) → p < size t → first_of (under top f t) (suc p) ≡ suc (first_of t p)
  first_late p h = omega (arith, first_moved 1 t.places p h)

  count_late : (p : ℕ) → count_of (under top f t) (suc p) ≡ count_of t p
  count_late p = count_moved 1 t.places p

  name_late : (i : ℕ) → name_of (under top f t) (suc i) ≡ name_of t i
  name_late i = name_moved 1 t.slots i

  target_late : (i : ℕ) → i < width t → target_of (under top f t) (suc i) ≡ suc (target_of t i)
  target_late i h = omega (arith, target_moved 1 t.slots i h)

  met_late : (i : ℕ) → i ≤ width t → met (under top f t).slots (suc i) ≡ suc (met t.slots i)
  met_late zero h = refl
  met_late (suc i) h =
      let a = met_late i (omega arith) in
      let b = target_late i h in
      omega (arith, a, b)

  module _ (w : Formed t) where
    pub under_formed : Formed (under top f t)
    under_formed =
        record {
          rooted = omega arith;
          first = refl;
          running = λ p h. running p (omega (arith, under_size));
          last = λ p e. last p (omega (arith, under_size));
          rising = λ p i h. rising p i (omega (arith, under_size));
          begun = λ p h. begun p (omega (arith, under_size));
          close = λ i h. close i (omega (arith, under_width));
          full = ap (met (under top f t).slots) under_width ∙ met_late (width t) (omega arith) ∙ ap suc w.full ∙ sym under_size;
        }
      where
        running : (p : ℕ) → p < size t → first_of (under top f t) (suc p) ≡ first_of (under top f t) p + count_of (under top f t) p
        running zero h = omega (arith, first_late 0 h, w.first)
        running (suc p) h = omega (arith, first_late (suc p) h, first_late p (omega arith), count_late p, w.running p h)

        last : (p : ℕ) → p ≡ size t → first_of (under top f t) p + count_of (under top f t) p ≡ width (under top f t)
        last zero e = absurd (omega (arith, w.rooted))
        last (suc p) e = omega (arith, first_late p (omega arith), count_late p, under_width, w.last p e)

        rising : (p i : ℕ) → p < suc (size t) → first_of (under top f t) p ≤ i → suc i < first_of (under top f t) p + count_of (under top f t) p
            → name_of (under top f t) i < name_of (under top f t) (suc i)
        rising zero i h k l = absurd (omega arith)
        rising (suc p) zero h k l = absurd (omega (arith, first_late p (omega arith)))
        rising (suc p) (suc i) h k l =
            let hp : p < size t = omega arith in
            let a = first_late p hp in
            let b = count_late p in
            let n = ends t w p hp in
            omega (arith, name_late i, name_late (suc i), w.rising p i hp (omega arith) (omega arith))

        begun : (p : ℕ) → p < suc (size t) → p < met (under top f t).slots (first_of (under top f t) p)
        begun zero h = omega arith
        begun (suc p) h =
            let hp : p < size t = omega arith in
            omega (arith, ap (met (under top f t).slots) (first_late p hp), met_late (first_of t p) (omega (arith, ends t w p hp)), w.begun p hp)

        close : (i : ℕ) → i < suc (width t) → target_of (under top f t) i ≤ met (under top f t).slots i
        close zero h = omega arith
        close (suc i) h =
            let hi : i < width t = omega arith in
            omega (arith, target_late i hi, met_late i (omega arith), w.close i hi)

    -- the slot of the root, and the slots of t
    slot_first : Slot (under top f t) 0 f 1
    slot_first = record { slot = 0; owns = record { place = omega arith; from = omega arith; upto = omega arith }; named = refl; leads = refl }

    slot_late : (p g q : ℕ) → Slot t p g q → Slot (under top f t) (suc p) g (suc q)
    slot_late p g q e =
        let hi = slot_in t w p g q e in
        let hp = e.owns.place in
        record {
          slot = suc e.slot;
          owns =
              record {
                place = omega (arith, under_size);
                from = omega (arith, first_late p hp, e.owns.from);
                upto = omega (arith, first_late p hp, count_late p, e.owns.upto);
              };
          named = name_late e.slot ∙ e.named;
          leads = target_late e.slot hi ∙ ap suc e.leads;
        }

    -- and there are no others
    pub record Late (p g q : ℕ) : Type 0 where
      pub place : ℕ
      pub target : ℕ
      pub from : p ≡ suc place
      pub to : q ≡ suc target
      pub edge : Slot t place g target

    slot_split : (p g q : ℕ) → Slot (under top f t) p g q → ((p ≡ 0) × (g ≡ f) × (q ≡ 1)) ⊎ Late p g q
    slot_split zero g q e =
        let z : e.slot ≡ 0 = omega (arith, e.owns.upto) in
        let a : f ≡ g = ap (name_of (under top f t)) (sym z) ∙ e.named in
        let b : 1 ≡ q = ap (target_of (under top f t)) (sym z) ∙ e.leads in
        inl (refl, sym a, sym b)
    slot_split (suc p) g q e = inr (go e.slot e.owns.from e.owns.upto e.named e.leads)
      where
        hp : p < size t
        hp = omega (arith, e.owns.place, under_size)

        go : (i : ℕ) → first_of (under top f t) (suc p) ≤ i → i < first_of (under top f t) (suc p) + count_of (under top f t) (suc p)
            → name_of (under top f t) i ≡ g → target_of (under top f t) i ≡ q → Late (suc p) g q
        go zero a b c d = absurd (omega (arith, first_late p hp))
        go (suc i) a b c d =
            let y = first_late p hp in
            let z = count_late p in
            let hi : i < width t = omega (arith, ends t w p hp) in
            record {
              place = p;
              target = target_of t i;
              from = refl;
              to = sym d ∙ target_late i hi;
              edge = record { slot = i; owns = record { place = hp; from = omega arith; upto = omega arith }; named = sym (name_late i) ∙ c; leads = refl };
            }

module _ {K F : Type 0} {below : K → K → Type 0} {top : K} {form : K → F} {kind : F → Option K} (laws : KindLaws below top form kind)
    (f : ℕ) (t : Sheet K) (w : Formed t) (u : Sheet K) where
  -- what is satisfied from x has t satisfied from the target of the slot f of x
  pub under_there : (x : ℕ) → From laws u x (under top f t) → (y : ℕ) × Slot u x f y × From laws u y t
  under_there x g = (
    g.image 1,
    rw g.root at (g.slots 0 f 1 (slot_first top f t w)),
    record {
      image = λ p. g.image (suc p);
      root = refl;
      within = λ p h. g.within (suc p) (omega (arith, under_size top f t));
      slots = λ p a q e. g.slots (suc p) a (suc q) (slot_late top f t w p a q e);
      kinds = λ p h.
          subst (λ z. below (kind_of laws u (g.image (suc p))) z) (kind_moved 1 top t.places p) (g.kinds (suc p) (omega (arith, under_size top f t)));
    },
  )

  -- and the other way round
  ahead : ℕ → (ℕ → ℕ) → ℕ → ℕ
  ahead x m zero = x
  ahead x m (suc p) = m p

  pub under_back : (x y : ℕ) → Slot u x f y → From laws u y t → From laws u x (under top f t)
  unfolding ahead
  under_back x y e g =
      record {
        image = ahead x g.image;
        root = refl;
        within = λ p h. within p (omega (arith, under_size top f t));
        slots = λ p a q d. slots p a q (slot_split top f t w p a q d);
        kinds = λ p h. kinds p (omega (arith, under_size top f t));
      }
    where
      within : (p : ℕ) → p < suc (size t) → ahead x g.image p < size u
      within zero h = e.owns.place
      within (suc p) h = g.within p (omega arith)

      slots : (p a q : ℕ) → ((p ≡ 0) × (a ≡ f) × (q ≡ 1)) ⊎ Late top f t w p a q → Slot u (ahead x g.image p) a (ahead x g.image q)
      slots p a q (inl h) =
          subst (λ z. Slot u (ahead x g.image z) a (ahead x g.image q)) (sym h.0)
          (subst (λ z. Slot u x z (ahead x g.image q)) (sym h.1)
          (subst (λ z. Slot u x f (ahead x g.image z)) (sym h.2) (subst (λ z. Slot u x f z) (sym g.root) e)))
      slots p a q (inr b) =
          subst (λ z. Slot u (ahead x g.image z) a (ahead x g.image q)) (sym b.from)
          (subst (λ z. Slot u (g.image b.place) a (ahead x g.image z)) (sym b.to) (g.slots b.place a b.target b.edge))

      kinds : (p : ℕ) → p < suc (size t) → below (kind_of laws u (ahead x g.image p)) (kind_of laws (under top f t) p)
      kinds zero h = laws.greatest (kind_of laws u x)
      kinds (suc p) h = subst (λ z. below (kind_of laws u (g.image p)) z) (sym (kind_moved 1 top t.places p)) (g.kinds p (omega arith))
