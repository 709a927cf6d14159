-- When a sheet has all that another asks for. (The field says that t subsumes s.)
use Rattle.std.specs.Prelude.{◌≡◌, ℕ, ◌<◌, Option}
use Rattle.kinds.specs.Laws.{KindLaws}
use Rattle.records.specs.Sheets.{Sheet, size, kind_of, Slot}

module _ {K F : Type 0} {below : K → K → Type 0} {top : K} {form : K → F} {kind : F → Option K} (laws : KindLaws below top form kind) where
  -- s satisfies t: the places of t are mapped to places of s, the root to the root, so that each slot of t gives one of the same
  -- name between the images, and the kind of each image is at or below the kind of its place
  pub record Satisfies (s t : Sheet K) : Type 0 where
    pub image : ℕ → ℕ
    pub root : image 0 ≡ 0
    pub within : (p : ℕ) → p < size t → image p < size s
    pub slots : (p f q : ℕ) → Slot t p f q → Slot s (image p) f (image q)
    pub kinds : (p : ℕ) → p < size t → below (kind_of laws s (image p)) (kind_of laws t p)
