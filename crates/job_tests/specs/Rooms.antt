-- The limits of a job on these tables.
use Rattle.std.specs.Prelude.{ℕ, min, List, length}

-- P
abbrev pub places_on : {X : Type 0} → List X → List X → List ℕ → ℕ
places_on places work links = min 1000 (min (length places) (min (length work) (length links)))

-- Q
abbrev pub slots_on : {X : Type 0} → List X → List X → ℕ
slots_on slots work = min 4000 (min (length slots) (length work))
