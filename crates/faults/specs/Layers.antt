-- The numbers of refusals, by layer.
use Rattle.std.specs.Prelude.{ℕ, ◌≤◌, ◌⊎◌}
use Rattle.faults.specs.declared.Layer.{Layer}
use Rattle.faults.specs.declared.Layer.TheVariants.{Text, Sheet, Job}

-- the numbers of a layer
abbrev pub InLayer : Layer → ℕ → Type 0
InLayer Text n = (10 ≤ n) × (n ≤ 13)
InLayer Sheet n = ((20 ≤ n) × (n ≤ 29)) ⊎ ((51 ≤ n) × (n ≤ 54))
InLayer Job n = (30 ≤ n) × (n ≤ 38)

-- a number that belongs to a layer
abbrev pub InSomeLayer : ℕ → Type 0
InSomeLayer n = InLayer Text n ⊎ InLayer Sheet n ⊎ InLayer Job n
