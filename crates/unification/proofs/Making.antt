-- What a program that merges has to show is enough.
use Rattle.std.proofs.Common.{◌≡◌, ℕ, zero, suc, ◌+◌, ◌-◌, ◌<◌, Option, sym, refl, ◌∙◌, arith}
use native.Mathlib.Decide.{dec_lt}
use Rattle.kinds.specs.Laws.{KindLaws}
use Rattle.records.specs.Sheets.{Sheet, size, Formed}
use Rattle.records.specs.Beside.{left, right, Joined, roots, same, back, trans, follow}
use Rattle.records.proofs.Shape.{single, edge_in, reached, found}
use Rattle.records.proofs.Unique.{moved}
use Rattle.unification.specs.Merge.{IsMerge, Made}
use Rattle.unification.proofs.Merging.{side_in}

module _ {K F : Type 0} {below : K → K → Type 0} {top : K} {form : K → F} {kind : F → Option K} (laws : KindLaws below top form kind) where
  module _ (s t m : Sheet K) (ws : Formed s) (wt : Formed t) (g : Made laws s t m) where
    -- a place of s, and one of t, is reached by edges, which lead to edges of m
    in_left : (p : ℕ) → p < size s → g.class p < size m
    in_left =
        reached s ws (λ p. g.class p < size m) (rw g.root_left g.formed.rooted)
        (λ p f q e h. edge_in m g.formed (g.class p) f (g.class q) (g.all p f q (left e)))

    in_right : (p : ℕ) → p < size t → g.class (size s + p) < size m
    in_right =
        reached t wt (λ p. g.class (size s + p) < size m)
        (let z : size s + 0 ≡ size s = omega arith in rw (z, g.root_right) g.formed.rooted)
        (λ p f q e h. edge_in m g.formed (g.class (size s + p)) f (g.class (size s + q)) (g.all (size s + p) f (size s + q) (right p q refl refl e)))

    within : (x : ℕ) → x < size s + size t → g.class x < size m
    within x h =
        elim (dec_lt x (size s)) [
          | yes lt ↦ in_left x lt
          | no ge ↦
              let z : size s + (x - size s) ≡ x = omega arith in
              rw z at (in_right (x - size s) (omega arith))
        ]

    onto : (p : ℕ) → p < size m → (x : ℕ) × (x < size s + size t) × (g.class x ≡ p)
    onto zero h = (0, omega (arith, ws.rooted), g.root_left)
    onto (suc p) h =
        let f = found m g.formed (suc p) (omega arith) h in
        let o = g.only f.place f.name (suc p) f.edge in
        (o.1, (side_in s t ws wt o.0 f.name o.1 o.4).1, o.3)

    one : {x y : ℕ} → Joined s t x y → g.class x ≡ g.class y
    one roots = g.root_left ∙ sym g.root_right
    one same = refl
    one (back j) = sym (one j)
    one (trans j k) = one j ∙ one k
    one (follow {x} {y} {x'} {y'} f j e e') =
        single m g.formed (g.class y) f (g.class x') (g.class y')
        (moved m (g.class x) (g.class y) f (g.class x') (g.class x') (one j) refl (g.all x f x' e)) (g.all y f y' e')

    pub enough : IsMerge laws s t m
    enough =
        record {
          formed = g.formed;
          class = g.class;
          root = g.root_left;
          within = within;
          onto = onto;
          one = λ x y h k j. one j;
          apart = g.apart;
          under = g.under;
          greatest = g.greatest;
          all = g.all;
          only = g.only;
        }
