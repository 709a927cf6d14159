-- Two well formed sheets side by side are a graph, and its quotient by the joined places is their merge but for the kinds.
use Rattle.std.proofs.Common.{◌≡◌, ℕ, ◌+◌, ◌-◌, ◌<◌, length, sym, ap, ◌∙◌, subst, arith}
use native.Mathlib.Decide.{dec_lt}
use Rattle.records.specs.Tables.{name_at, target_at}
use Rattle.records.specs.Sheets.{Sheet, size, width, Slot, Formed}
use Rattle.records.specs.Beside.{Beside}
use Rattle.records.specs.Beside.Joined.{roots, follow}
use Rattle.records.proofs.Shape.{reached, owner_one}
use Rattle.records.proofs.Sides.{Stands, left_owns, right_owns, block, rising, aims, left_edge, right_edge, from_side, to_side}
use Rattle.numbering.specs.Quotient.{Work, Reached, Quotient}
use Rattle.numbering.specs.Quotient.Reached.{start, along, across}
use Rattle.numbering.specs.Sides.{Alike, Classes, Shaped}

pub stands : {K F : Type 0} (s t w : Sheet K) (v : Sheet F) → Beside s t w → Alike w v → Stands s t v
stands s t w v b a =
    record {
      places = a.places ∙ b.places;
      slots = ap length a.slots ∙ b.slots;
      first_left = λ x h. a.first x ∙ b.first_left x h;
      count_left = λ x h. a.count x ∙ b.count_left x h;
      name_left = λ i h. ap (λ l. name_at l i) a.slots ∙ b.name_left i h;
      target_left = λ i h. ap (λ l. target_at l i) a.slots ∙ b.target_left i h;
      first_right = λ x h. a.first (size s + x) ∙ b.first_right x h;
      count_right = λ x h. a.count (size s + x) ∙ b.count_right x h;
      name_right = λ i h. ap (λ l. name_at l (width s + i)) a.slots ∙ b.name_right i h;
      target_right = λ i h. ap (λ l. target_at l (width s + i)) a.slots ∙ b.target_right i h;
    }

module _ {K F : Type 0} (s t : Sheet K) (v : Sheet F) (fs : Formed s) (ft : Formed t) (b : Stands s t v) (c : ℕ → ℕ) (g : Classes s t c) where
  end_in : (x f y : ℕ) → Slot v x f y → y < size s + size t
  end_in x f y e = omega (arith, e.leads, aims b fs ft e.slot (omega (arith, e.owns.upto, block b fs ft x)), b.places)

  root_in : size s < size s + size t
  root_in = omega (arith, ft.rooted)

  pub ready : Work v.places v.slots c
  ready =
      record {
        rooted = omega (arith, b.places, fs.rooted);
        blocks = block b fs ft;
        inside = λ x h. omega (arith, g.inside x (omega (arith, b.places)), b.places);
        rests = λ x h.
            let k : x < size s + size t = omega (arith, b.places) in
            sym (g.one x (c x) k (g.inside x k) (g.member x k));
        aimed = aims b fs ft;
        own = λ x y i a d.
            grind (
              arith,
              left_owns b fs ft x i,
              left_owns b fs ft y i,
              right_owns b fs ft x i,
              right_owns b fs ft y i,
              owner_one s fs i x y,
              owner_one t ft (i - width s) (x - size s) (y - size s),
            );
        rising = rising b fs ft;
        closed = λ x y f p q e d s'.
            g.one p q (end_in x f p e) (end_in y f q d)
            (follow f (g.apart x y (omega (arith, e.owns.place, b.places)) (omega (arith, d.owns.place, b.places)) s') (to_side b fs ft x f p e) (to_side b fs ft y f q d));
        reached = λ x h.
            elim (dec_lt x (size s)) [
              | yes lt ↦ reached s fs (Reached v.places v.slots c) start (λ p f q e r. along f r (left_edge b fs ft p f q e)) x lt
              | no ge ↦
                  let e : size s + (x - size s) ≡ x = omega arith in
                  let zero_right : size s ≡ size s + 0 = omega arith in
                  subst (Reached v.places v.slots c) e
                  (reached t ft (λ z. Reached v.places v.slots c (size s + z))
                  (subst (Reached v.places v.slots c) zero_right (across start (omega (arith, b.places, ft.rooted)) (g.one 0 (size s) (omega (arith, root_in)) root_in roots)))
                  (λ p f q e r. along f r (right_edge b fs ft p f q e)) (x - size s) (omega (arith, b.places)))
            ];
      }

  pub assembled : (m : Sheet F) → Quotient v.places v.slots c m.places m.slots → Shaped s t v c m
  assembled m q =
      let n = b.places in
      record {
        formed = q.formed;
        class = q.class;
        root_left = q.root;
        root_right = q.one (size s) 0 (omega (arith, ft.rooted)) (omega (arith, ft.rooted)) (sym (g.one 0 (size s) (omega (arith, root_in)) root_in roots)) ∙ q.root;
        within = λ x h. q.within x (omega arith);
        onto = λ p h. let z = q.onto p h in (z.0, omega (arith, z.1), z.2);
        edges = λ x f y e. q.edges x f y (from_side b fs ft x f y e);
        only = λ p f r e. let z = q.only p f r e in (z.0, z.1, z.2, z.3, to_side b fs ft z.0 f z.1 z.4);
        one = λ x y h k j. q.one x y (omega arith) (omega arith) (g.one x y h k j);
        apart = λ x y h k e. g.apart x y h k (q.apart x y (omega arith) (omega arith) e);
        kinds = λ d x h. q.kinds d x (omega arith);
      }
