use mathlib.Core.List.Memᴰ.{head}
use mathlib.Core.List.Memᴰ.{tail}
use Rattle.std.proofs.Common.{pos, sym, refl, ap}
use Rattle.std.specs.Result.{result_ok}
use Rattle.kinds.specs.Laws.{MeetLaws}
use Rattle.kinds.specs.Catalogue.{shared}
use Rattle.kinds.specs.CatalogueLaws.{catalogue_laws, catalogue_meets}
use Rattle.ranges.specs.Ranges.{overlap}
use Rattle.ranges.specs.RangeLaws.{made_at, range_laws, range_meets}
use Rattle.either_kind.specs.Either.{Under, joint}
use Rattle.either_kind.specs.EitherLaws.{either_meets}
use Rattle.unification.proofs.Working.{worked}
use Rattle.worked.specs.Cases.{from_to, order_laws, bell, tune}
use Rattle.worked.proofs.worked_orders_hold.Goals as goal

order_meets : MeetLaws (Under catalogue_laws range_laws) (joint shared overlap)
order_meets = either_meets catalogue_laws range_laws catalogue_meets range_meets

pub returns : goal.returns
returns c =
    let cases = worked order_laws order_meets bell tune in (
      refl,
      (
        refl,
        (
          sym (ap result_ok (made_at (pos 48) (pos 48) (from_to (pos 48) (pos 48) tt tt tt) refl refl)),
          (
            refl,
            (
              (cases _ (head refl)).2,
              ((cases _ (tail (head refl))).2, ((cases _ (tail (tail (head refl)))).2, ((cases _ (tail (tail (tail (head refl))))).2 (λ m. order_meets.none bell tune m refl), tt))),
            ),
          ),
        ),
      ),
    )
