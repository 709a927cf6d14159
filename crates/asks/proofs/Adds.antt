-- The laws of the sheet that an add stands for.
use Rattle.std.proofs.Common.{◌≡◌, ℕ, ◌+◌, List, [], ◌∷◌, length, Option, refl, arith}
use Rattle.kinds.specs.Laws.{KindLaws}
use Rattle.records.specs.Sheets.{Sheet, size, width, kind_of, Formed}
use Rattle.records.specs.Satisfaction.{Satisfies}
use Rattle.records.proofs.Unique.{unique}
use Rattle.asks.specs.Paths.{Leads, stop, step, From}
use Rattle.asks.specs.Asks.{chained}
use Rattle.asks.specs.Theorems.{AddLaw, AddOnly}
use Rattle.asks.proofs.Under.{under_size, under_width, under_formed, under_there, under_back}

module _ {K : Type 0} (top : K) where
  pub add_sized : (path : List ℕ) (t : Sheet K) → (size (chained top path t) ≡ length path + size t) × (width (chained top path t) ≡ length path + width t)
  add_sized [] t = (omega arith, omega arith)
  add_sized (f ∷ path) t =
      let h = add_sized path t in
      (omega (arith, under_size top f (chained top path t), h.0), omega (arith, under_width top f (chained top path t), h.1))

  pub add_formed : (path : List ℕ) (t : Sheet K) → Formed t → Formed (chained top path t)
  add_formed [] t w = w
  add_formed (f ∷ path) t w = under_formed top f (chained top path t) (add_formed path t w)

module _ {K F : Type 0} {below : K → K → Type 0} {top : K} {form : K → F} {kind : F → Option K} (laws : KindLaws below top form kind) where
  -- what satisfies a sheet satisfies it from the root
  from_root : (u t : Sheet K) → Satisfies laws u t → From laws u 0 t
  from_root u t g = record { image = g.image; root = g.root; within = g.within; slots = g.slots; kinds = g.kinds }

  at_root : (u t : Sheet K) → From laws u 0 t → Satisfies laws u t
  at_root u t g = record { image = g.image; root = g.root; within = g.within; slots = g.slots; kinds = g.kinds }

  module _ (u t : Sheet K) (w : Formed t) where
    add_there : (path : List ℕ) (x : ℕ) → From laws u x (chained top path t) → (y : ℕ) × Leads u x path y × From laws u y t
    add_there [] x g = (x, stop, g)
    add_there (f ∷ path) x g =
        let h = under_there laws f (chained top path t) (add_formed top path t w) u x g in
        let i = add_there path h.0 h.2 in
        (i.0, step h.1 i.1, i.2)

    add_back : {x y : ℕ} {path : List ℕ} → Leads u x path y → From laws u y t → From laws u x (chained top path t)
    add_back stop g = g
    add_back (step {x} {f} {z} {y} {path} e l) g = under_back laws f (chained top path t) (add_formed top path t w) u x z e (add_back l g)

  pub add_law : AddLaw laws
  add_law path t w u v = (
    λ g. add_there u t w path 0 (from_root u (chained top path t) g),
    λ h. at_root u (chained top path t) (add_back u t w h.1 h.2),
  )

  itself : (s : Sheet K) → Satisfies laws s s
  itself s = record { image = λ p. p; root = refl; within = λ p h. h; slots = λ p f q e. e; kinds = λ p h. laws.reflexive (kind_of laws s p) }

  pub add_only : AddOnly laws
  add_only path t s wt ws law =
      let drawn = chained top path t in
      let wd = add_formed top path t wt in
      let other = add_law path t wt in
      unique laws s drawn ws wd ((other s ws).1 ((law s ws).0 (itself s))) ((law drawn wd).1 ((other drawn wd).0 (itself drawn)))
