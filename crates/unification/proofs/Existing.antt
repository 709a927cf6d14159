-- Two well formed sheets have a merge, or they clash.
use Rattle.std.proofs.Common.{◌≡◌, ℕ, zero, suc, ◌+◌, ◌-◌, ◌<◌, max, ◌⊎◌, List, [], ◌∷◌, length, Option, sym, refl, ap, ◌∙◌, subst, inl, inr, arith}
use mathlib.Core.Path.{subst₃}
use mathlib.Core.List.{Memᴰ as On}
use native.Mathlib.Decide.{dec_lt, ℕ_discrete}
use Rattle.kinds.specs.Laws.{KindLaws, MeetLaws}
use Rattle.records.specs.Tables.{target_at}
use Rattle.records.specs.Sheets.{Sheet, size, width, Slot, Formed, kind_of, blank_sheet}
use Rattle.records.specs.Beside.{Side, left, right, roots}
use Rattle.records.proofs.Shape.{found, reached, slot_in, edge_in}
use Rattle.records.proofs.Unique.{unique}
use Rattle.records.proofs.Pigeons.{look}
use Rattle.unification.specs.Merge.{IsMerge, Clash, Made, Merged, more, Clashing, newest, older}
use Rattle.unification.specs.Theorems.{Exists, OnlyMerge, Exact, ClashAnyOrder, Decided}
use Rattle.unification.proofs.Building.{finish}
use Rattle.unification.proofs.Closing.{Classes, Closed, find}
use Rattle.unification.proofs.Closing as closing
use Rattle.unification.proofs.Numbering.{at, Written, write}
use Rattle.unification.proofs.Nets.{side_owner, side_name, side_target, side_of, slot_of, net, joins, side_kind, to_under, from_under}
use Rattle.unification.proofs.Common.{Glb, glbs, kind_for, for_lower, for_most}
use Rattle.unification.proofs.Making.{enough}
use Rattle.unification.proofs.Merging.{greatest, refused}
use Rattle.unification.proofs.Asking.{merged_stands, clashing_refused}

-- a bound above the values of f below n
bound : (f : ℕ → ℕ) (n : ℕ) → (top : ℕ) × ((i : ℕ) → i < n → f i < top)
bound f zero = (0, λ i h. absurd (omega arith))
bound f (suc n) =
    let b = bound f n in (
      max b.0 (suc (f n)),
      λ i h.
          elim (dec_lt i n) [
            | yes lt ↦ omega (arith, b.1 i lt)
            | no ge ↦ let e : i ≡ n = omega arith in rw e (omega arith)
          ],
    )

-- where a number stands in a list, and 0 if it does not
spot : List ℕ → ℕ → ℕ
spot o v = elim (look (λ j. at o j ≡ v) (λ j. ℕ_discrete (at o j) v) (length o)) [ inl f ↦ f.0 | inr z ↦ 0 ]

pub In : List ℕ → ℕ → Type 0
In o v = (j : ℕ) × (j < length o) × (at o j ≡ v)

spot_is : (o : List ℕ) (v : ℕ) → In o v → (spot o v < length o) × (at o (spot o v) ≡ v)
unfolding spot In
spot_is o v i =
    elim (look (λ j. at o j ≡ v) (λ j. ℕ_discrete (at o j) v) (length o)) as
    (λ r. ((elim r [ inl f ↦ f.0 | inr z ↦ 0 ]) < length o) × (at o (elim r [ inl f ↦ f.0 | inr z ↦ 0 ]) ≡ v)) [
      | inl f ↦ (f.1, f.2)
      | inr z ↦ absurd (z i.0 i.1 i.2)
    ]

module _ {K F : Type 0} {below : K → K → Type 0} {top : K} {form : K → F} {kind : F → Option K} (laws : KindLaws below top form kind)
    (s t : Sheet K) (ws : Formed s) (wt : Formed t) where
  module _ (c : ℕ → ℕ) (cs : Classes (net s t ws wt) (joins s t ws wt) c) (rt : c 0 ≡ c (size s)) (cl : Closed (net s t ws wt) c)
      (all : (x : ℕ) → x < size s + size t → Glb laws (side_kind laws s t) c (c x) (size s + size t))
      (w : Written top (net s t ws wt) c (kind_for laws (side_kind laws s t) c (size s + size t) all) cl cs.inside) where
    abbrev m : Sheet K
    m = record { places = w.ps; slots = w.ss }

    formed : Formed m
    formed = finish w.ps w.ss w.going.build (w.full ∙ w.going.met)

    abbrev o : List ℕ
    o = w.o

    inj : (i j : ℕ) → i < length o → j < length o → at o i ≡ at o j → i ≡ j
    inj i j hi hj e =
        elim (dec_lt i j) [
          | yes lt ↦ absurd (w.going.order.apart i j lt hj e)
          | no ge ↦ elim (dec_lt j i) [ yes lt ↦ absurd (w.going.order.apart j i lt hi (sym e)) | no ge' ↦ omega arith ]
        ]

    -- where a class is written, so are those that its slots lead to
    next : (i : ℕ) → i < width s + width t → In o (c (side_owner s t ws wt i)) → In o (c (side_target s t ws wt i))
    unfolding In
    next i h q =
        let z = w.going.all q.0 i q.1 h (sym q.2) (inl (omega (arith, q.1, w.full))) in
        (target_at w.ss z.0, w.going.targets z.0 z.1.inside, z.3)

    next_side : (x f y : ℕ) → Side s t x f y → In o (c x) → In o (c y)
    next_side x f y e q =
        let z = slot_of s t ws wt x f y e in
        subst (λ v. In o (c v)) z.4 (next z.0 z.1 (subst (λ v. In o (c v)) (sym z.2) q))

    root_in : In o (c 0)
    unfolding In
    root_in = (0, omega (arith, w.full, formed_some), w.going.root)
      where
        formed_some : 0 < length w.ps
        formed_some = formed.rooted

    written : (x : ℕ) → x < size s + size t → In o (c x)
    written x h =
        elim (dec_lt x (size s)) [
          | yes lt ↦ reached s ws (λ p. In o (c p)) root_in (λ p f q e i. next_side p f q (left e) i) x lt
          | no ge ↦
              let e : size s + (x - size s) ≡ x = omega arith in
              subst (λ v. In o (c v)) e
              (reached t wt (λ p. In o (c (size s + p)))
              (let z : size s ≡ size s + 0 = omega arith in subst (λ v. In o (c v)) z (subst (In o) rt root_in))
              (λ p f q d i. next_side (size s + p) f (size s + q) (right p q refl refl d) i)
              (x - size s) (omega arith))
        ]

    class : ℕ → ℕ
    class x = spot o (c x)

    class_is : (x : ℕ) → x < size s + size t → (class x < length o) × (at o (class x) ≡ c x)
    unfolding class
    class_is x h = spot_is o (c x) (written x h)

    edge_of : (p i : ℕ) → p < length o → i < width s + width t → c (side_owner s t ws wt i) ≡ at o p → Slot m p (side_name s t ws wt i) (class (side_target s t ws wt i))
    edge_of p i h l e =
        let z = w.going.all p i h l e (inl (omega (arith, w.full))) in
        let y = class_is (side_target s t ws wt i) ((net s t ws wt).target_in i l) in
        elim z.1.where_it_is [
          | inl q ↦
              record {
                slot = z.0;
                owns = q;
                named = z.2;
                leads = inj (target_at w.ss z.0) (class (side_target s t ws wt i)) (w.going.targets z.0 z.1.inside) y.0 (z.3 ∙ sym y.1);
              }
          | inr q ↦ absurd (omega (arith, q.0, w.full))
        ]

    slot_i : (p f q : ℕ) → Slot m p f q
        → (i : ℕ) × (i < width s + width t) × (c (side_owner s t ws wt i) ≡ at o p) × (side_name s t ws wt i ≡ f) × (c (side_target s t ws wt i) ≡ at o q)
    slot_i p f q e =
        let z = w.going.only p e.slot (omega (arith, e.owns.place, w.full))
        (record { inside = slot_in m formed p f q e; turn = omega (arith, e.owns.place); where_it_is = inl e.owns }) in
        (z.0, z.1, z.2, z.3 ∙ e.named, z.4 ∙ ap (at o) e.leads)

    -- what is written at a place stands for its class
    stands_at : (i q : ℕ) → i < width s + width t → c (side_target s t ws wt i) ≡ at o q → c (at o q) ≡ at o q
    stands_at i q h e = ap c (sym e) ∙ cs.rep (side_target s t ws wt i) ((net s t ws wt).target_in i h) ∙ e

    stands_for : (p : ℕ) → p < length o → c (at o p) ≡ at o p
    stands_for zero h = rw w.going.root (cs.rep 0 (omega (arith, ws.rooted)))
    stands_for (suc p) h =
        let f = found m formed (suc p) (omega arith) (omega (arith, w.full)) in
        let z = slot_i f.place f.name (suc p) f.edge in
        stands_at z.0 (suc p) z.1 z.4

    class_at : (x p : ℕ) → x < size s + size t → p < length o → c x ≡ at o p → class x ≡ p
    class_at x p h l e = let y = class_is x h in inj (class x) p y.0 l (y.1 ∙ e)

    made : Made laws s t m
    made =
        record {
          formed = formed;
          class = class;
          root_left = class_at 0 0 (omega (arith, ws.rooted)) (omega (arith, w.full, formed.rooted)) (sym w.going.root);
          root_right = class_at (size s) 0 (omega (arith, wt.rooted)) (omega (arith, w.full, formed.rooted)) (sym rt ∙ sym w.going.root);
          all = λ x f y e.
              let z = slot_of s t ws wt x f y e in
              let i : ℕ = z.0 in
              let k = class_is (side_owner s t ws wt i) ((net s t ws wt).owner_in i z.1) in
              subst₃ (Slot m) (ap class z.2) z.3 (ap class z.4) (edge_of (class (side_owner s t ws wt i)) i k.0 z.1 (sym k.1));
          only = λ p f q e.
              let z = slot_i p f q e in
              let i : ℕ = z.0 in (
                side_owner s t ws wt i,
                side_target s t ws wt i,
                class_at (side_owner s t ws wt i) p ((net s t ws wt).owner_in i z.1) (omega (arith, e.owns.place, w.full)) z.2,
                class_at (side_target s t ws wt i) q ((net s t ws wt).target_in i z.1) (omega (arith, edge_in m formed p f q e, w.full)) z.4,
                subst (λ g. Side s t (side_owner s t ws wt i) g (side_target s t ws wt i)) z.3 (side_of s t ws wt i z.1),
              );
          apart = λ x y hx hy e. cs.sound x y hx hy (sym (class_is x hx).1 ∙ ap (at o) e ∙ (class_is y hy).1);
          under = λ x h.
              let k = class_is x h in
              let v : ℕ = at o (class x) in
              let v_in : v < size s + size t = w.going.order.inside (class x) k.0 in
              to_under laws s t (kind_of laws m (class x)) x
              (subst (λ l. below l (side_kind laws s t x)) (sym (w.going.kinds (class x) (omega (arith, k.0, w.full))))
              (for_lower laws (side_kind laws s t) c (size s + size t) all v v_in x h (sym (ap c k.1 ∙ cs.rep x h))));
          greatest = λ p k h under.
              let v : ℕ = at o p in
              let p_in : p < length o = omega (arith, w.full) in
              let v_in : v < size s + size t = w.going.order.inside p p_in in
              subst (below k) (sym (w.going.kinds p h))
              (for_most laws (side_kind laws s t) c (size s + size t) all v v_in k
              (λ x hx e. from_under laws s t k x hx (under x hx (class_at x p hx p_in (e ∙ stands_for p p_in)))));
        }

  merge_or_clash : {common : K → K → Option K} → MeetLaws below common → ((m : Sheet K) × IsMerge laws s t m) ⊎ Clash laws s t
  merge_or_clash meets =
      elim (glbs laws (side_kind laws s t) f.c meets (size s + size t) (size s + size t)) [
        | inl all ↦
            let limit = bound (side_name s t ws wt) (width s + width t) in
            let w = write top (net s t ws wt) f.c (kind_for laws (side_kind laws s t) f.c (size s + size t) all) f.closed f.classes.inside limit.0 limit.1
            (omega (arith, ws.rooted)) in
            inl (
              record { places = w.ps; slots = w.ss },
              enough laws s t (record { places = w.ps; slots = w.ss }) ws wt (made f.c f.classes f.roots f.closed all w),
            )
        | inr z ↦
            inr (record {
              place = z.0;
              inside = z.1;
              none = λ k under.
                  z.2.none k (λ x h e. from_under laws s t k x h (under x h (f.classes.sound z.0 x z.1 h (sym e))));
            })
      ]
    where
      f : closing.Found (net s t ws wt) (joins s t ws wt) 0 (size s)
      f = find (net s t ws wt) (joins s t ws wt) 0 (size s) (omega (arith, ws.rooted)) (omega (arith, wt.rooted)) (omega (arith, ws.rooted)) roots

module _ {K F : Type 0} {below : K → K → Type 0} {top : K} {form : K → F} {kind : F → Option K} (laws : KindLaws below top form kind)
    {common : K → K → Option K} (meets : MeetLaws below common) where
  pub exists : Exists laws
  exists s t ws wt = merge_or_clash laws s t ws wt meets

  pub only_merge : OnlyMerge laws
  only_merge s t m ws wt wm a b most =
      elim (exists s t ws wt) [
        | inl g ↦
            let k = greatest laws s t g.0 ws wt g.1 in
            subst (IsMerge laws s t) (unique laws g.0 m g.1.formed wm (most g.0 g.1.formed k.0 k.1) (k.2 m wm a b)) g.1
        | inr c ↦ absurd (refused laws s t m ws wt c wm a b)
      ]

  pub exact : Exact laws
  exact s t ws wt = (
    λ c u wu a b. refused laws s t u ws wt c wu a b,
    λ no_sheet.
        elim (exists s t ws wt) [
          | inl g ↦ let k = greatest laws s t g.0 ws wt g.1 in absurd (no_sheet g.0 g.1.formed k.0 k.1)
          | inr c ↦ c
        ],
  )

  pub decided : Decided laws
  decided [] formed = inl (blank_sheet laws, Merged.none, merged_stands laws Merged.none)
  decided (a ∷ l) formed =
      elim (decided l (λ b o. formed b (On.tail o))) [
        | inr none_of ↦ inr (λ u wu all. none_of u wu (λ b o. all b (On.tail o)))
        | inl z ↦
            let wa = formed a (On.head refl) in
            elim (exists z.0 a z.2.formed wa) [
              | inl g ↦ let y = more a z.1 wa g.1 in inl (g.0, y, merged_stands laws y)
              | inr clash ↦
                  inr (λ u wu all.
                  refused laws z.0 a u z.2.formed wa clash wu (z.2.most u wu (λ b o. all b (On.tail o))) (all a (On.head refl)))
            ]
      ]

  -- asks come to a sheet or to a clash
  comes : (l : List (Sheet K)) → ((a : Sheet K) → On a l → Formed a) → ((m : Sheet K) × Merged laws l m) ⊎ Clashing laws l
  comes [] formed = inl (blank_sheet laws, Merged.none)
  comes (a ∷ l) formed =
      elim (comes l (λ b o. formed b (On.tail o))) [
        | inr c ↦ inr (older a c)
        | inl z ↦
            let wa = formed a (On.head refl) in
            elim (exists z.0 a (merged_stands laws z.1).formed wa) [
              | inl g ↦ inl (g.0, more a z.1 wa g.1)
              | inr clash ↦ inr (newest a z.1 wa clash)
            ]
      ]

  pub clash_any_order : ClashAnyOrder laws
  clash_any_order l l' alike formed c =
      elim (comes l' formed) [
        | inr d ↦ d
        | inl z ↦
            let x = merged_stands laws z.1 in
            absurd (clashing_refused laws c z.0 x.formed (λ a o. x.each a (alike.there a o)))
      ]
