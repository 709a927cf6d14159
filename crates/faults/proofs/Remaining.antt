-- The layer of a number that belongs to neither of the other two.
use Rattle.std.proofs.Common.{inl, inr}
use Rattle.std.specs.Prelude.{ℕ}
use Rattle.faults.specs.Layers.{InLayer, InSomeLayer}
use Rattle.faults.specs.declared.Layer.TheVariants.{Text, Sheet, Job}

pub remaining : (n : ℕ) → InSomeLayer n → (InLayer Text n → ⊥) → (InLayer Job n → ⊥) → InLayer Sheet n
remaining n (inl t) text job = absurd (text t)
remaining n (inr (inl s)) text job = s
remaining n (inr (inr j)) text job = absurd (job j)
