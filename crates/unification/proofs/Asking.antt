-- What stands for a list of asks, and what merging them one after the other comes to.
use Rattle.std.proofs.Common.{◌≡◌, List, [], ◌∷◌, Option, refl, ap, ◌∙◌, inl, inr, arith}
use mathlib.Core.List.Memᴰ
use mathlib.Core.List.{Memᴰ as On}
use Rattle.kinds.specs.Laws.{KindLaws}
use Rattle.records.specs.Sheets.{Sheet, Formed, kind_of, blank_sheet}
use Rattle.records.specs.Satisfaction.{Satisfies}
use Rattle.records.proofs.Unique.{unique}
use Rattle.unification.specs.Merge.{IsMerge, Standing, Merged, none, more, Clashing, newest, older}
use Rattle.unification.specs.Theorems.{Stands, OneStanding, AnyOrder}
use Rattle.unification.proofs.Merging.{greatest, refused}

module _ {K F : Type 0} {below : K → K → Type 0} {top : K} {form : K → F} {kind : F → Option K} (laws : KindLaws below top form kind) where
  -- a sheet satisfies itself
  pub itself : (s : Sheet K) → Satisfies laws s s
  itself s = record { image = λ p. p; root = refl; within = λ p h. h; slots = λ p f q e. e; kinds = λ p h. laws.reflexive (kind_of laws s p) }

  -- what satisfies a sheet satisfies what that satisfies
  pub through : (s t u : Sheet K) → Satisfies laws s t → Satisfies laws t u → Satisfies laws s u
  through s t u a b =
      record {
        image = λ p. a.image (b.image p);
        root = ap a.image b.root ∙ a.root;
        within = λ p h. a.within (b.image p) (b.within p h);
        slots = λ p f q e. a.slots (b.image p) f (b.image q) (b.slots p f q e);
        kinds = λ p h. laws.transitive (kind_of laws s (a.image (b.image p))) (kind_of laws t (b.image p)) (kind_of laws u p) (a.kinds (b.image p) (b.within p h)) (b.kinds p h);
      }

  pub blank_formed : Formed (blank_sheet laws)
  blank_formed =
      record {
        rooted = omega arith;
        first = refl;
        running = λ p h. absurd (omega arith);
        last = λ p e. let z : p ≡ 0 = omega arith in rw z refl;
        rising = λ p i h k l. let z : p ≡ 0 = omega arith in absurd (omega (arith, rw z at l));
        begun = λ p h. let z : p ≡ 0 = omega arith in rw z (omega arith);
        close = λ i h. absurd (omega arith);
        full = refl;
      }

  -- every sheet satisfies the blank sheet
  pub blank_most : (u : Sheet K) → Formed u → Satisfies laws u (blank_sheet laws)
  blank_most u wu =
      record {
        image = λ p. 0;
        root = refl;
        within = λ p h. wu.rooted;
        slots = λ p f q e. absurd (let z : p ≡ 0 = omega (arith, e.owns.place) in omega (arith, rw z at e.owns.upto));
        kinds = λ p h. let z : p ≡ 0 = omega arith in rw z (laws.greatest (kind_of laws u 0));
      }

  stands_none : Standing laws [] (blank_sheet laws)
  stands_none = record { formed = blank_formed; each = λ a o. elim o [ ]; most = λ u wu all. blank_most u wu }

  stands_more : (asks : List (Sheet K)) (a m m' : Sheet K) → Standing laws asks m → Formed a → IsMerge laws m a m' → Standing laws (a ∷ asks) m'
  stands_more asks a m m' h wa g =
      let k = greatest laws m a m' h.formed wa g in
      record {
        formed = g.formed;
        each = λ b o. elim (Memᴰ.cases_cons o) [ inl e ↦ rw e k.1 | inr l ↦ through m' m b k.0 (h.each b l) ];
        most = λ u wu all. k.2 u wu (h.most u wu (λ b o. all b (On.tail o))) (all a (On.head refl));
      }

  pub stands : Stands laws
  stands = (stands_none, stands_more)

  pub one_standing : OneStanding laws
  one_standing l l' m m' i h k =
      unique laws m m' h.formed k.formed (k.most m h.formed (λ a o. h.each a (i.back a o))) (h.most m' k.formed (λ a o. k.each a (i.there a o)))

  pub merged_stands : {l : List (Sheet K)} {m : Sheet K} → Merged laws l m → Standing laws l m
  merged_stands none = stands_none
  merged_stands (more {asks} {m} {m'} a h wa g) = stands_more asks a m m' (merged_stands h) wa g

  pub any_order : AnyOrder laws
  any_order l l' m m' i h k = one_standing l l' m m' i (merged_stands h) (merged_stands k)

  -- no sheet satisfies asks that come to a clash
  pub clashing_refused : {l : List (Sheet K)} → Clashing laws l → (u : Sheet K) → Formed u → ((a : Sheet K) → On a l → Satisfies laws u a) → ⊥
  clashing_refused (newest {asks} {m} a h wa c) u wu all =
      let x = merged_stands h in
      refused laws m a u x.formed wa c wu (x.most u wu (λ b o. all b (On.tail o))) (all a (On.head refl))
  clashing_refused (older a c) u wu all = clashing_refused c u wu (λ b o. all b (On.tail o))
