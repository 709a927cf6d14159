-- The table of worked orders, each with its result.
use Rattle.std.specs.Prelude.{◌≡◌, ℕ, T, List, [], ◌∷◌, ℤ, pos, negsuc, Some, None, codes, Option, int_le}
use Rattle.std.specs.Int.Signed.{le_z_yes}
use Rattle.kinds.specs.Laws.{KindLaws}
use Rattle.kinds.specs.declared.catalogue.Catalogue.{Catalogue}
use Rattle.kinds.specs.declared.catalogue.Catalogue.TheVariants.{Ware, Electrical, Outdoor, OutdoorMover, Bell, Tune}
use Rattle.kinds.specs.Catalogue as catalogues
use Rattle.kinds.specs.CatalogueLaws.{catalogue_laws}
use Rattle.ranges.specs.declared.range.Range.{Range}
use Rattle.ranges.specs.Ranges.{overlap}
use Rattle.ranges.specs.RangeLaws.{range_laws}
use Rattle.either_kind.specs.declared.either.Either.{Either}
use Rattle.either_kind.specs.declared.either.Either.TheVariants.{Any, First}
use Rattle.either_kind.specs.Either.{Under, form_of, kind_of}
use Rattle.either_kind.specs.EitherLaws.{either_laws}
use Rattle.names.specs.Names.{number}
use Rattle.records.specs.Sheets.{Sheet, blank_sheet}
use Rattle.unification.specs.Merge.{IsMerge, Clash}
use Rattle.unification.specs.Examples.{ring, fork, shared, chain}

-- the range from l to h
abbrev pub from_to : (l h : ℤ) → T (int_le (negsuc 2147483647) l) → T (int_le l h) → T (int_le h (pos 2147483647)) → Range
from_to l h p q r = record { low = l; high = h; ends = (le_z_yes p, le_z_yes q, le_z_yes r) }

-- the kinds of orders: either of catalogue and range
abbrev pub Order : Type 0
Order = Either Catalogue Range

abbrev pub order_laws : KindLaws (Under catalogue_laws range_laws) Any (form_of catalogue_laws range_laws) (kind_of catalogue_laws range_laws)
order_laws = either_laws catalogue_laws range_laws

abbrev pub bell : Order
bell = First Bell

abbrev pub tune : Order
tune = First Tune

-- what is worked out: the meet of two kinds of the catalogue, or of two ranges; the number of a name; the merge of two sheets, or
-- that they clash
pub data Case : Type 0 where
  catalogue : Catalogue → Catalogue → Option Catalogue → Case
  range : Range → Range → Option Range → Case
  name : List ℕ → ℕ → Case
  merge : Sheet Order → Sheet Order → Sheet Order → Case
  clash : Sheet Order → Sheet Order → Case

-- the last part of a case is its result
abbrev pub Holds : Case → Type 0
Holds (catalogue a b result) = catalogues.shared a b ≡ result
Holds (range a b result) = overlap a b ≡ result
Holds (name bytes result) = number bytes ≡ result
Holds (merge s t result) = IsMerge order_laws s t result
Holds (clash s t) = Clash order_laws s t

-- The sheets are, as text: `fork k l` is (any a (k) b (l)), `shared k` is (any a (#1 k) b (#1)), `ring k` is (#1 k a (#1)), and `chain k` is
-- (any a (any a (k))). `shared any` is what the tie of the paths a and b stands for, and `ring any` the tie of () and (a).
abbrev pub cases : List Case
cases =
    catalogue Electrical Outdoor (Some OutdoorMover)
    ∷ catalogue Tune Ware None
    ∷ range (from_to (pos 24) (pos 48) tt tt tt) (from_to (pos 48) (pos 60) tt tt tt) (Some (from_to (pos 48) (pos 48) tt tt tt))
    ∷ name (codes "a") 238572050223552512
    ∷ merge (fork order_laws bell bell) (shared order_laws Any) (shared order_laws bell)
    ∷ merge (blank_sheet order_laws) (ring Any) (ring Any)
    ∷ merge (ring Any) (chain order_laws bell) (ring bell)
    ∷ clash (fork order_laws bell tune) (shared order_laws Any)
    ∷ []

abbrev pub AllHold : List Case → Type 0
AllHold [] = Unit {0}
AllHold (c ∷ cs) = Holds c × AllHold cs

-- every case of the table has its result
abbrev pub Worked : Type 0
Worked = AllHold cases
