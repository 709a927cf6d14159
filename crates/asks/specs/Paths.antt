-- Paths in a sheet, and what a sheet has from a place on. A path is a list of name numbers.
use Rattle.std.specs.Prelude.{◌≡◌, ℕ, ◌<◌, List, [], ◌∷◌, Option}
use Rattle.kinds.specs.Laws.{KindLaws}
use Rattle.records.specs.Sheets.{Sheet, size, kind_of, Slot}

-- the path leads in s from the place x to the place y: a slot of its first name goes from x to a place from which the rest leads to y
pub data Leads {K : Type 0} (s : Sheet K) : ℕ → List ℕ → ℕ → Type 0 where
  stop : {x : ℕ} → Leads s x [] x
  step : {x f z y : ℕ} {path : List ℕ} → Slot s x f z → Leads s z path y → Leads s x (f ∷ path) y

module _ {K F : Type 0} {below : K → K → Type 0} {top : K} {form : K → F} {kind : F → Option K} (laws : KindLaws below top form kind) where
  -- t is satisfied from the place x of s: as `Satisfies`, but the root of t goes to x
  pub record From (s : Sheet K) (x : ℕ) (t : Sheet K) : Type 0 where
    pub image : ℕ → ℕ
    pub root : image 0 ≡ x
    pub within : (p : ℕ) → p < size t → image p < size s
    pub slots : (p f q : ℕ) → Slot t p f q → Slot s (image p) f (image q)
    pub kinds : (p : ℕ) → p < size t → below (kind_of laws s (image p)) (kind_of laws t p)
