-- Classes can be numbered as their slots meet them, and written out as a well formed sheet.
use Rattle.std.proofs.Common.{◌≡◌, ℕ, zero, suc, ◌+◌, ◌-◌, ◌<◌, ◌≤◌, max, ◌≢◌, ◌⊎◌, List, [], ◌∷◌, ◌++◌, length, get_or, sym, refl, ap, ◌∙◌, inl, inr, arith}
use native.Mathlib.Decide.{dec_lt, ℕ_discrete}
use Rattle.std.proofs.lemmas.List.{get_or_append_left, get_or_push, length_push}
use Rattle.records.specs.declared.PlaceRecord.{PlaceRecord}
use Rattle.records.specs.declared.SlotRecord.{SlotRecord}
use Rattle.records.specs.Tables.{kind_at, name_at, target_at, met, Owns}
use Rattle.records.proofs.Pushing.{name_old, name_new, target_old, target_new, met_old, met_push, first_old, first_new, count_old, count_new, kind_old, kind_new}
use Rattle.records.proofs.Pigeons.{look, pigeon}
use Rattle.unification.proofs.Building.{Building, nothing, push_slot, push_place}
use Rattle.unification.proofs.Closing.{Net, Closed}

abbrev pub at : List ℕ → ℕ → ℕ
at o j = get_or o j 0

-- different numbers below n
pub record Order (n : ℕ) (o : List ℕ) : Type 0 where
  pub apart : (i j : ℕ) → i < j → j < length o → at o i ≢ at o j
  pub inside : (j : ℕ) → j < length o → at o j < n

-- o, with v at j: it was there, or is pushed
pub record Extended (n : ℕ) (o : List ℕ) (v : ℕ) : Type 0 where
  pub more : List ℕ
  pub j : ℕ
  pub order : Order n more
  pub old : (k : ℕ) → k < length o → at more k ≡ at o k
  pub near : j ≤ length o
  pub size : length more ≡ max (length o) (suc j)
  pub is : at more j ≡ v

extend : (n : ℕ) (o : List ℕ) (v : ℕ) → Order n o → v < n → Extended n o v
extend n o v g h =
    elim (look (λ j. at o j ≡ v) (λ j. ℕ_discrete (at o j) v) (length o)) [
      | inl f ↦ record { more = o; j = f.0; order = g; old = λ k l. refl; near = omega (arith, f.1); size = omega (arith, f.1); is = f.2 }
      | inr none ↦
          record {
            more = o ++ v ∷ [];
            j = length o;
            order =
                record {
                  apart = λ i j l m e.
                      elim (dec_lt j (length o)) [
                        | yes lt ↦ g.apart i j l lt (sym (before i (omega arith)) ∙ e ∙ before j lt)
                        | no ge ↦ none i (omega (arith, long)) (sym (before i (omega (arith, long))) ∙ e ∙ here j (omega (arith, long)))
                      ];
                  inside = λ j l.
                      elim (dec_lt j (length o)) [
                        | yes lt ↦ rw (before j lt) (g.inside j lt)
                        | no ge ↦ rw (here j (omega (arith, long))) h
                      ];
                };
            old = before;
            near = omega arith;
            size = omega (arith, long);
            is = here (length o) refl;
          }
    ]
  where
    long : length (o ++ v ∷ []) ≡ length o + 1
    long = length_push o v

    before : (k : ℕ) → k < length o → at (o ++ v ∷ []) k ≡ at o k
    before k l = get_or_append_left o (v ∷ []) 0 k l

    here : (k : ℕ) → k ≡ length o → at (o ++ v ∷ []) k ≡ v
    here k e = get_or_push o v 0 k (sym e)

-- the slot k stands in the row of the place p: a place of ps, or the next one, whose row begins at b
pub record Row {K : Type 0} (ps : List (PlaceRecord K)) (ss : List SlotRecord) (b p k : ℕ) : Type 0 where
  pub inside : k < length ss
  pub turn : p ≤ length ps
  pub where_it_is : Owns ps p k ⊎ ((p ≡ length ps) × (b ≤ k))

module _ {K : Type 0} (any : K) (N : Net) (c : ℕ → ℕ) (kind_for : ℕ → K) where
  -- what is written so far: the rows of ps, and of the next row the names below f
  pub record Going (ps : List (PlaceRecord K)) (ss : List SlotRecord) (o : List ℕ) (b f : ℕ) : Type 0 where
    pub build : Building ps ss b
    pub order : Order N.places o
    pub root : at o 0 ≡ c 0
    pub met : length o ≡ met ss (length ss)
    pub turn : length ps ≤ length o
    pub kinds : (p : ℕ) → p < length ps → kind_at any ps p ≡ kind_for (at o p)
    pub targets : (k : ℕ) → k < length ss → target_at ss k < length o
    pub low : (k : ℕ) → b ≤ k → k < length ss → name_at ss k < f
    pub only : (p k : ℕ) → p < length o → Row ps ss b p k
        → (i : ℕ) × (i < N.slots) × (c (N.owner i) ≡ at o p) × (N.name i ≡ name_at ss k) × (c (N.target i) ≡ at o (target_at ss k))
    pub all : (p i : ℕ) → p < length o → i < N.slots → c (N.owner i) ≡ at o p → (p < length ps) ⊎ ((p ≡ length ps) × (N.name i < f))
        → (k : ℕ) × Row ps ss b p k × (name_at ss k ≡ N.name i) × (at o (target_at ss k) ≡ c (N.target i))

  module _ (ps : List (PlaceRecord K)) (ss : List SlotRecord) (o : List ℕ) (b f : ℕ) (g : Going ps ss o b f) where
    -- no slot of the next row has the name f
    skip : ((i : ℕ) → i < N.slots → c (N.owner i) ≡ at o (length ps) → N.name i ≡ f → ⊥) → Going ps ss o b (suc f)
    skip none =
        record {
          build = g.build;
          order = g.order;
          root = g.root;
          met = g.met;
          turn = g.turn;
          kinds = g.kinds;
          targets = g.targets;
          only = g.only;
          low = λ k h l. omega (arith, g.low k h l);
          all = λ p i h l e d.
              elim d [
                | inl lt ↦ g.all p i h l e (inl lt)
                | inr q ↦
                    elim (dec_lt (N.name i) f) [
                      | yes lt ↦ g.all p i h l e (inr (q.0, lt))
                      | no ge ↦ absurd (none i l (e ∙ ap (at o) q.0) (omega (arith, q.1)))
                    ]
              ];
        }

    -- the slot i has
    emit : (i : ℕ) → Closed N c → i < N.slots → c (N.owner i) ≡ at o (length ps) → N.name i ≡ f → length ps < length o → (x : Extended N.places o (c (N.target i)))
        → Going ps (ss ++ record { name = f; target = x.j } ∷ []) x.more b (suc f)
    emit i closed h own name room x =
        record {
          build = push_slot ps ss b g.build s (λ lt. g.low (length ss - 1) (omega arith) (omega arith)) (omega (arith, x.near, g.met));
          order = x.order;
          root = x.old 0 (omega arith) ∙ g.root;
          met = x.size ∙ ap (λ m. max m (suc x.j)) g.met ∙ sym (met_push ss s);
          turn = omega (arith, x.size);
          kinds = λ p l. g.kinds p l ∙ ap kind_for (sym (x.old p (omega arith)));
          targets = λ k l.
              elim (dec_lt k (length ss)) [
                | yes lt ↦ rw (target_old ss s k lt) (omega (arith, g.targets k lt, x.size))
                | no ge ↦ rw (target_new ss s k (omega (arith, long))) (omega (arith, x.size))
              ];
          low = λ k m l.
              elim (dec_lt k (length ss)) [
                | yes lt ↦ rw (name_old ss s k lt) (omega (arith, g.low k m lt))
                | no ge ↦ rw (name_new ss s k (omega (arith, long))) (omega arith)
              ];
          only = λ p k l r.
              elim (dec_lt k (length ss)) [
                | yes lt ↦
                    let old = g.only p k (omega (arith, r.turn)) (record { inside = lt; turn = r.turn; where_it_is = r.where_it_is }) in (
                      old.0,
                      old.1,
                      old.2 ∙ sym (x.old p (omega (arith, r.turn))),
                      old.3 ∙ sym (name_old ss s k lt),
                      old.4 ∙ sym (x.old (target_at ss k) (g.targets k lt)) ∙ ap (at x.more) (sym (target_old ss s k lt)),
                    )
                | no ge ↦
                    let e : k ≡ length ss = omega (arith, long, r.inside) in
                    let q : p ≡ length ps =
                    elim r.where_it_is [
                      | inl z ↦ absurd (omega (arith, z.upto, g.build.ends p z.place, g.build.begins))
                      | inr z ↦ z.0
                    ] in (
                      i,
                      h,
                      own ∙ ap (at o) (sym q) ∙ sym (x.old p (omega (arith, r.turn))),
                      name ∙ sym (name_new ss s k e),
                      sym x.is ∙ ap (at x.more) (sym (target_new ss s k e)),
                    )
              ];
          all = λ p i' l h' e d.
              elim d [
                | inl lt ↦ lift p i' (g.all p i' (omega arith) h' (e ∙ x.old p (omega arith)) (inl lt))
                | inr q ↦
                    let p_in : p < length o = omega (arith, q.0) in
                    let e' = e ∙ x.old p p_in in
                    elim (dec_lt (N.name i') f) [
                      | yes lt ↦ lift p i' (g.all p i' p_in h' e' (inr (q.0, lt)))
                      | no ge ↦
                          let same : N.name i ≡ N.name i' = omega (arith, q.1) in (
                            length ss,
                            record { inside = omega (arith, long); turn = omega (arith, q.0); where_it_is = inr (q.0, g.build.begins) },
                            name_new ss s (length ss) refl ∙ sym name ∙ same,
                            ap (at x.more) (target_new ss s (length ss) refl) ∙ x.is
                                ∙ closed.follows i i' h h' same (own ∙ ap (at o) (sym q.0) ∙ sym e'),
                          )
                    ]
              ];
        }
      where
        s : SlotRecord
        s = record { name = f; target = x.j }

        long : length (ss ++ s ∷ []) ≡ length ss + 1
        long = length_push ss s

        lift : (p i' : ℕ) → ((k : ℕ) × Row ps ss b p k × (name_at ss k ≡ N.name i') × (at o (target_at ss k) ≡ c (N.target i')))
            → (k : ℕ) × Row ps (ss ++ s ∷ []) b p k × (name_at (ss ++ s ∷ []) k ≡ N.name i') × (at x.more (target_at (ss ++ s ∷ []) k) ≡ c (N.target i'))
        lift p i' z =
            let k : ℕ = z.0 in
            let lt : k < length ss = z.1.inside in (
              k,
              record { inside = omega (arith, long); turn = z.1.turn; where_it_is = z.1.where_it_is },
              name_old ss s k lt ∙ z.2,
              ap (at x.more) (target_old ss s k lt) ∙ x.old (target_at ss k) (g.targets k lt) ∙ z.3,
            )

  -- the row is whole: its place is pushed
  finish_row : (top : ℕ) (ps : List (PlaceRecord K)) (ss : List SlotRecord) (o : List ℕ) (b : ℕ) → ((i : ℕ) → i < N.slots → N.name i < top)
      → Going ps ss o b top → length ps < length o → length ps < met ss b
      → Going (ps ++ record { kind = kind_for (at o (length ps)); before = b; count = length ss - b } ∷ []) ss o (length ss) 0
  finish_row top ps ss o b bound g room soon =
      record {
        build = push_place ps ss b g.build x refl (omega (arith, g.build.begins)) soon;
        order = g.order;
        root = g.root;
        met = g.met;
        turn = omega (arith, long);
        kinds = λ p l.
            elim (dec_lt p (length ps)) [
              | yes lt ↦ rw (kind_old ps x p any lt) (g.kinds p lt)
              | no ge ↦
                  let e : p ≡ length ps = omega (arith, long) in
                  rw (kind_new ps x p any e) (ap (λ q. kind_for (at o q)) (sym e))
            ];
        targets = g.targets;
        low = λ k m l. absurd (omega arith);
        only = λ p k l r.
            elim r.where_it_is [
              | inr z ↦ absurd (omega (arith, z.1, r.inside))
              | inl z ↦
                  elim (dec_lt p (length ps)) [
                    | yes lt ↦
                        g.only p k l
                        (record { inside = r.inside; turn = omega arith; where_it_is = inl (record { place = lt; from = rw (first_old ps x p lt) at z.from; upto = rw (first_old ps x p lt, count_old ps x p lt) at z.upto }) })
                    | no ge ↦
                        let e : p ≡ length ps = omega (arith, long, z.place) in
                        g.only p k l (record { inside = r.inside; turn = omega arith; where_it_is = inr (e, rw (first_new ps x p e) at z.from) })
                  ]
            ];
        all = λ p i l h e d.
            elim d [
              | inr q ↦ absurd (omega (arith, q.1))
              | inl in_new ↦
                  elim (dec_lt p (length ps)) [
                    | yes lt ↦ let z = g.all p i l h e (inl lt) in (z.0, lift p z.0 z.1, z.2, z.3)
                    | no ge ↦
                        let q : p ≡ length ps = omega (arith, long) in
                        let z = g.all p i l h e (inr (q, bound i h)) in
                        (z.0, lift p z.0 z.1, z.2, z.3)
                  ]
            ];
      }
    where
      x : PlaceRecord K
      x = record { kind = kind_for (at o (length ps)); before = b; count = length ss - b }

      long : length (ps ++ x ∷ []) ≡ length ps + 1
      long = length_push ps x

      lift : (p k : ℕ) → Row ps ss b p k → Row (ps ++ x ∷ []) ss (length ss) p k
      lift p k r =
          record {
            inside = r.inside;
            turn = omega (arith, r.turn, long);
            where_it_is =
                elim r.where_it_is [
                  | inl z ↦
                      inl (record {
                        place = omega (arith, z.place, long);
                        from = rw (first_old ps x p z.place) z.from;
                        upto = rw (first_old ps x p z.place, count_old ps x p z.place) z.upto;
                      })
                  | inr z ↦
                      inl (record {
                        place = omega (arith, z.0, long);
                        from = rw (first_new ps x p z.0) z.1;
                        upto = rw (first_new ps x p z.0, count_new ps x p z.0) (omega (arith, z.1, r.inside));
                      })
                ];
          }

  record Rowed (ps : List (PlaceRecord K)) (b top : ℕ) : Type 0 where
    ss : List SlotRecord
    o : List ℕ
    going : Going ps ss o b top
    room : length ps < length o
    soon : length ps < met ss b

  module _ (closed : Closed N c) (inside : (x : ℕ) → x < N.places → c x < N.places) where
    row : (d f top : ℕ) (ps : List (PlaceRecord K)) (ss : List SlotRecord) (o : List ℕ) (b : ℕ) → f + d ≡ top → Going ps ss o b f
        → length ps < length o → length ps < met ss b → Rowed ps b top
    row zero f top ps ss o b e g room soon =
        let z : f ≡ top = omega arith in
        record { ss = ss; o = o; going = rw z at g; room = room; soon = soon }
    row (suc d) f top ps ss o b e g room soon =
        elim (look (λ i. (c (N.owner i) ≡ at o (length ps)) × (N.name i ≡ f)) both? N.slots) [
          | inr none ↦ row d (suc f) top ps ss o b (omega arith) (skip ps ss o b f g (λ i h own name. none i h (own, name))) room soon
          | inl z ↦
              let x = extend N.places o (c (N.target z.0)) g.order (inside (N.target z.0) (N.target_in z.0 z.1)) in
              row d (suc f) top ps (ss ++ record { name = f; target = x.j } ∷ []) x.more b (omega arith)
              (emit ps ss o b f g z.0 closed z.1 z.2.0 z.2.1 room x) (omega (arith, x.size))
              (rw (met_old ss (record { name = f; target = x.j }) b g.build.begins) soon)
        ]
      where
        both? : (i : ℕ) → Dec ((c (N.owner i) ≡ at o (length ps)) × (N.name i ≡ f))
        both? i =
            elim (ℕ_discrete (c (N.owner i)) (at o (length ps))) [
              | no h ↦ no (λ q. h q.0)
              | yes a ↦ elim (ℕ_discrete (N.name i) f) [ no h ↦ no (λ q. h q.1) | yes a' ↦ yes (a, a') ]
            ]

    pub record Written : Type 0 where
      pub ps : List (PlaceRecord K)
      pub ss : List SlotRecord
      pub o : List ℕ
      pub going : Going ps ss o (length ss) 0
      pub full : length ps ≡ length o

    rows : (fuel top : ℕ) (ps : List (PlaceRecord K)) (ss : List SlotRecord) (o : List ℕ) → ((i : ℕ) → i < N.slots → N.name i < top)
        → Going ps ss o (length ss) 0 → N.places < length ps + fuel → Written
    rows zero top ps ss o bound g h = absurd (omega (arith, g.turn, pigeon (length o) N.places (at o) g.order.inside g.order.apart))
    rows (suc fuel) top ps ss o bound g h =
        elim (dec_lt (length ps) (length o)) [
          | no ge ↦ record { ps = ps; ss = ss; o = o; going = g; full = omega (arith, g.turn) }
          | yes lt ↦
              let r = row top 0 top ps ss o (length ss) (omega arith) g lt (omega (arith, g.met)) in
              rows fuel top (ps ++ record { kind = kind_for (at r.o (length ps)); before = length ss; count = length r.ss - length ss } ∷ []) r.ss r.o bound
              (finish_row top ps r.ss r.o (length ss) bound r.going r.room r.soon)
              (omega (arith, length_push ps (record { kind = kind_for (at r.o (length ps)); before = length ss; count = length r.ss - length ss })))
        ]

    pub write : (top : ℕ) → ((i : ℕ) → i < N.slots → N.name i < top) → 0 < N.places → Written
    write top bound some = rows (suc N.places) top [] [] (c 0 ∷ []) bound start (omega arith)
      where
        start : Going [] [] (c 0 ∷ []) 0 0
        start =
            record {
              build = nothing;
              order = record { apart = λ i j h k e. omega arith; inside = λ j h. let z : j ≡ 0 = omega arith in rw z (inside 0 some) };
              root = refl;
              met = refl;
              turn = omega arith;
              kinds = λ p h. absurd (omega arith);
              targets = λ k h. absurd (omega arith);
              low = λ k m h. absurd (omega arith);
              only = λ p k h r. absurd (omega (arith, r.inside));
              all = λ p i l h e d. absurd (elim d [ inl lt ↦ omega arith | inr q ↦ omega (arith, q.1) ]);
            }
