-- Worked merges, over any type of kind: a table of cases, and one statement of them all.
use Rattle.std.specs.Prelude.{ℕ, List, [], ◌∷◌, Option}
use mathlib.Core.List.{Memᴰ as On}
use Rattle.kinds.specs.Laws.{KindLaws}
use Rattle.records.specs.Sheets.{Sheet, Formed, blank_sheet}
use Rattle.unification.specs.Merge.{IsMerge, Clash}

-- the numbers of the names `a` and `b`: 1 and 2 times 38 to the power of 11
abbrev pub a : ℕ
a = 238572050223552512

abbrev pub b : ℕ
b = 477144100447105024

-- m is the merge of s and t; or s and t clash, if the kinds k and l have no kind in common
pub data Case (K : Type 0) : Type 0 where
  merge : (s t m : Sheet K) → Case K
  clash : (s t : Sheet K) (k l : K) → Case K

-- (#1 k a (#1))
abbrev pub ring : {K : Type 0} → K → Sheet K
ring k = record { places = record { kind = k; before = 0; count = 1 } ∷ []; slots = record { name = a; target = 0 } ∷ [] }

module _ {K F : Type 0} {below : K → K → Type 0} {top : K} {form : K → F} {kind : F → Option K} (laws : KindLaws below top form kind) where
  -- what a case says
  abbrev pub Holds : Case K → Type 0
  Holds (merge s t m) = Formed s × Formed t × IsMerge laws s t m
  Holds (clash s t k l) = Formed s × Formed t × (((m : K) → below m k → below m l → ⊥) → Clash laws s t)

  -- (any a (k) b (l))
  abbrev pub fork : K → K → Sheet K
  fork k l =
      record {
        places = record { kind = top; before = 0; count = 2 } ∷ record { kind = k; before = 2; count = 0 } ∷ record { kind = l; before = 2; count = 0 } ∷ [];
        slots = record { name = a; target = 1 } ∷ record { name = b; target = 2 } ∷ [];
      }

  -- (any a (#1 k) b (#1))
  abbrev pub shared : K → Sheet K
  shared k =
      record {
        places = record { kind = top; before = 0; count = 2 } ∷ record { kind = k; before = 2; count = 0 } ∷ [];
        slots = record { name = a; target = 1 } ∷ record { name = b; target = 1 } ∷ [];
      }

  -- (any a (any a (k)))
  abbrev pub chain : K → Sheet K
  chain k =
      record {
        places = record { kind = top; before = 0; count = 1 } ∷ record { kind = top; before = 1; count = 1 } ∷ record { kind = k; before = 2; count = 0 } ∷ [];
        slots = record { name = a; target = 1 } ∷ record { name = a; target = 2 } ∷ [];
      }

  -- the table
  abbrev pub cases : K → K → List (Case K)
  cases k l =
      merge (fork k k) (shared top) (shared k)
      ∷ merge (blank_sheet laws) (ring top) (ring top)
      ∷ merge (ring top) (chain k) (ring k)
      ∷ clash (fork k l) (shared top) k l
      ∷ []

  -- every case holds, for all kinds k and l
  abbrev pub Worked : Type 0
  Worked = (k l : K) (c : Case K) → On c (cases k l) → Holds c
