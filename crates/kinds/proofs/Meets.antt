-- A table that passes one test over all pairs, which antt computes, holds the meet of each two kinds.
use Rattle.std.proofs.Common.{◌≡◌, Bool, true, false, T, eqb, List, [], get_or, slice_get, Some, None, Option, refl, ap}
use Rattle.kinds.specs.declared.catalogue.Catalogue.{Catalogue}
use Rattle.kinds.specs.Catalogue.{listed, index, shared, MeetTable}
use Rattle.kinds.specs.CatalogueLaws.{every, all_pairs, by_index}

abbrev alike : Option Catalogue → Option Catalogue → Bool
alike (Some a) (Some b) = eqb (index a) (index b)
alike (Some a) None = false
alike None (Some b) = false
alike None None = true

same : (x y : Option Catalogue) → T (alike x y) → x ≡ y
same (Some a) (Some b) t = ap Some (by_index a b t)
same (Some a) None t = absurd t
same None (Some b) t = absurd t
same None None t = refl

-- there is an entry, and it is y
abbrev holds : Option (Option Catalogue) → Option Catalogue → Bool
holds (Some x) y = alike x y
holds None y = false

held : (o : Option (Option Catalogue)) (y : Option Catalogue) → T (holds o y) → o ≡ Some y
held (Some x) y t = ap Some (same x y t)
held None y t = absurd t

abbrev answer : List (List (Option Catalogue)) → Catalogue → Catalogue → Option (Option Catalogue)
answer table a b = slice_get (get_or table (index a) []) (index b)

pub meet_table : (table : List (List (Option Catalogue))) → T (every (λ a. every (λ b. holds (answer table a b) (shared a b)) listed) listed) → MeetTable table
meet_table table t = record { right = λ a b. held (answer table a b) (shared a b) (all_pairs (λ x y. holds (answer table x y) (shared x y)) t a b) }
