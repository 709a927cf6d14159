-- What is proved of sheets and of their merges, for every type of kind that keeps the laws and for sheets of every size.
use Rattle.std.specs.Prelude.{◌≡◌, ℕ, ◌<◌, ◌⊎◌, List, [], ◌∷◌, Option}
use mathlib.Core.List.{Memᴰ as On}
use Rattle.kinds.specs.Laws.{KindLaws}
use Rattle.records.specs.Sheets.{Sheet, size, Formed, Reached, blank_sheet}
use Rattle.records.specs.Satisfaction.{Satisfies}
use Rattle.unification.specs.Merge.{IsMerge, Clash, Made, Standing, Merged, Clashing}

-- the two lists have the same sheets, in whatever order and however often
pub record Alike {K : Type 0} (l l' : List (Sheet K)) : Type 0 where
  pub there : (a : Sheet K) → On a l → On a l'
  pub back : (a : Sheet K) → On a l' → On a l

-- Every place of a sheet is reached from the root.
abbrev pub AllReached : Type 0 → Type 0
AllReached K = (s : Sheet K) → Formed s → (p : ℕ) → p < size s → Reached s p

module _ {K F : Type 0} {below : K → K → Type 0} {top : K} {form : K → F} {kind : F → Option K} (laws : KindLaws below top form kind) where
  -- ---- sheets

  -- Two sheets that satisfy each other are equal, record for record.
  abbrev pub Unique : Type 0
  Unique = (s t : Sheet K) → Formed s → Formed t → Satisfies laws s t → Satisfies laws t s → s ≡ t

  -- There is at most one map by which a sheet satisfies another.
  abbrev pub OneImage : Type 0
  OneImage = (s t : Sheet K) → Formed s → Formed t → (a b : Satisfies laws s t) (p : ℕ) → p < size t → a.image p ≡ b.image p

  -- ---- the merge of two sheets

  -- The merge satisfies both, and every sheet that satisfies both satisfies the merge.
  abbrev pub Greatest : Type 0
  Greatest =
      (s t m : Sheet K) → Formed s → Formed t → IsMerge laws s t m
      → Satisfies laws m s × Satisfies laws m t × ((u : Sheet K) → Formed u → Satisfies laws u s → Satisfies laws u t → Satisfies laws u m)

  -- And a sheet of which that holds is the merge.
  abbrev pub OnlyMerge : Type 0
  OnlyMerge =
      (s t m : Sheet K) → Formed s → Formed t → Formed m → Satisfies laws m s → Satisfies laws m t
      → ((u : Sheet K) → Formed u → Satisfies laws u s → Satisfies laws u t → Satisfies laws u m) → IsMerge laws s t m

  -- Where two sheets clash, no sheet satisfies both.
  abbrev pub Refused : Type 0
  Refused = (s t u : Sheet K) → Formed s → Formed t → Clash laws s t → Formed u → Satisfies laws u s → Satisfies laws u t → ⊥

  -- Two sheets have one merge at most,
  abbrev pub OneMerge : Type 0
  OneMerge = (s t m m' : Sheet K) → Formed s → Formed t → IsMerge laws s t m → IsMerge laws s t m' → m ≡ m'

  -- they have a merge or they clash,
  abbrev pub Exists : Type 0
  Exists = (s t : Sheet K) → Formed s → Formed t → ((m : Sheet K) × IsMerge laws s t m) ⊎ Clash laws s t

  -- and never both.
  abbrev pub NotBoth : Type 0
  NotBoth = (s t m : Sheet K) → Formed s → Formed t → IsMerge laws s t m → Clash laws s t → ⊥

  -- Two sheets clash exactly when no sheet satisfies both.
  abbrev pub Exact : Type 0
  Exact =
      (s t : Sheet K) → Formed s → Formed t
      → (Clash laws s t → (u : Sheet K) → Formed u → Satisfies laws u s → Satisfies laws u t → ⊥)
      × (((u : Sheet K) → Formed u → Satisfies laws u s → Satisfies laws u t → ⊥) → Clash laws s t)

  -- What a program has to show is enough.
  abbrev pub Enough : Type 0
  Enough = (s t m : Sheet K) → Formed s → Formed t → Made laws s t m → IsMerge laws s t m

  -- ---- lists of asks

  -- For no asks the blank sheet stands, and the merge with one more ask stands for the asks and that one.
  abbrev pub Stands : Type 0
  Stands =
      Standing laws [] (blank_sheet laws)
      × ((asks : List (Sheet K)) (a m m' : Sheet K) → Standing laws asks m → Formed a → IsMerge laws m a m' → Standing laws (a ∷ asks) m')

  -- What stands for the same asks is one sheet.
  abbrev pub OneStanding : Type 0
  OneStanding = (l l' : List (Sheet K)) (m m' : Sheet K) → Alike l l' → Standing laws l m → Standing laws l' m' → m ≡ m'

  -- So is what merging them one after the other comes to, in any order and with any repeats,
  abbrev pub AnyOrder : Type 0
  AnyOrder = (l l' : List (Sheet K)) (m m' : Sheet K) → Alike l l' → Merged laws l m → Merged laws l' m' → m ≡ m'

  -- and where they come to a clash in one order, they do so in every order, with any repeats.
  abbrev pub ClashAnyOrder : Type 0
  ClashAnyOrder = (l l' : List (Sheet K)) → Alike l l' → ((a : Sheet K) → On a l' → Formed a) → Clashing laws l → Clashing laws l'

  -- Asks come to a sheet, which stands for them, or no sheet satisfies them all.
  abbrev pub Decided : Type 0
  Decided =
      (l : List (Sheet K)) → ((a : Sheet K) → On a l → Formed a)
      → ((m : Sheet K) × Merged laws l m × Standing laws l m) ⊎ ((u : Sheet K) → Formed u → ((a : Sheet K) → On a l → Satisfies laws u a) → ⊥)
