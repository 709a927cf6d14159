use Rattle.std.proofs.Common.{rules, ◌<◌, ◌≤◌, length, Decides, sym, ◌∙◌, inl, inr}
use Rattle.std.proofs.lemmas.Bool.Decides.{Decides-at}
use Rattle.std.proofs.lemmas.Bool.{false≢true}
use Rattle.renumbering.proofs.Counts.{by_sums, by_places, rises_all}
use Rattle.renumbering.proofs.Deciding.{decides_le, decides_both}
use Rattle.renumbering.proofs.drafts.is_draft.Goals as goal
use Rattle.renumbering.proofs.drafts.is_draft.Goals.{then-not-is_empty, else-not-is_empty, then-tables-le-MOST_PLACES, else-tables-le-MOST_PLACES, then-tables-le-MOST_SLOTS, else-tables-le-MOST_SLOTS, then-is_counted, else-is_counted, then-is_aimed, else-is_aimed}

pub returns-then-is_rising : goal.returns-then-is_rising
returns-then-is_rising g c =
    let ps = c.args.tables.places.now in
    let ss = c.args.tables.slots.now in
    let few : Decides c.if-not-is_empty.value ((0 < length ps) × (length ps ≤ 1000)) =
    elim c.if-not-is_empty.branch [
      | then-not-is_empty w ↦ search (rules, w.value-is, w.if-not-is_empty.ensures, decides_le)
      | else-not-is_empty w ↦ search (rules, w.value-is, w.if-not-is_empty.ensures, decides_le)
    ] in
    let small = decides_both _ c.if-tables-le-MOST_PLACES.value few (elim c.if-tables-le-MOST_PLACES.branch [
      | then-tables-le-MOST_PLACES w ↦ inl (w.if-tables-le-MOST_PLACES.true, Decides-at _ _ w.value-is (decides_le (length ss) 4000))
      | else-tables-le-MOST_PLACES w ↦ inr (w.if-tables-le-MOST_PLACES.false, w.value-is)
    ]) in
    let counted = decides_both _ c.if-tables-le-MOST_SLOTS.value small (elim c.if-tables-le-MOST_SLOTS.branch [
      | then-tables-le-MOST_SLOTS w ↦ inl (w.if-tables-le-MOST_SLOTS.true, Decides-at _ _ w.value-is w.is_counted.ensures)
      | else-tables-le-MOST_SLOTS w ↦ inr (w.if-tables-le-MOST_SLOTS.false, w.value-is)
    ]) in
    let aimed = decides_both _ c.if-is_counted.value counted (elim c.if-is_counted.branch [
      | then-is_counted w ↦ inl (w.if-is_counted.true, Decides-at _ _ w.value-is w.is_aimed.ensures)
      | else-is_counted w ↦ inr (w.if-is_counted.false, w.value-is)
    ]) in
    let rises = decides_both _ c.if-is_aimed.value aimed (elim c.if-is_aimed.branch [
      | then-is_aimed w ↦ inl (w.if-is_aimed.true, Decides-at _ _ w.value-is w.is_rising.ensures)
      | else-is_aimed w ↦ inr (w.if-is_aimed.false, w.value-is)
    ]) in
    let all = rises.0 c.if-is_rising.true in
    let some = all.0.0.0.0.0 in
    let sums = all.0.0.1 in (
      λ e. record {
        some_place = some;
        few_places = all.0.0.0.0.1;
        few_slots = all.0.0.0.1;
        counted = by_places ps ss some sums;
        aimed = all.0.1;
        rising = rises_all ps ss sums all.1;
        led = c.is_led_on.ensures.0 e;
      },
      λ d. c.is_led_on.ensures.1 d.led,
    )

pub returns-else-is_rising : goal.returns-else-is_rising
returns-else-is_rising g c =
    let ps = c.args.tables.places.now in
    let ss = c.args.tables.slots.now in
    let few : Decides c.if-not-is_empty.value ((0 < length ps) × (length ps ≤ 1000)) =
    elim c.if-not-is_empty.branch [
      | then-not-is_empty w ↦ search (rules, w.value-is, w.if-not-is_empty.ensures, decides_le)
      | else-not-is_empty w ↦ search (rules, w.value-is, w.if-not-is_empty.ensures, decides_le)
    ] in
    let small = decides_both _ c.if-tables-le-MOST_PLACES.value few (elim c.if-tables-le-MOST_PLACES.branch [
      | then-tables-le-MOST_PLACES w ↦ inl (w.if-tables-le-MOST_PLACES.true, Decides-at _ _ w.value-is (decides_le (length ss) 4000))
      | else-tables-le-MOST_PLACES w ↦ inr (w.if-tables-le-MOST_PLACES.false, w.value-is)
    ]) in
    let counted = decides_both _ c.if-tables-le-MOST_SLOTS.value small (elim c.if-tables-le-MOST_SLOTS.branch [
      | then-tables-le-MOST_SLOTS w ↦ inl (w.if-tables-le-MOST_SLOTS.true, Decides-at _ _ w.value-is w.is_counted.ensures)
      | else-tables-le-MOST_SLOTS w ↦ inr (w.if-tables-le-MOST_SLOTS.false, w.value-is)
    ]) in
    let aimed = decides_both _ c.if-is_counted.value counted (elim c.if-is_counted.branch [
      | then-is_counted w ↦ inl (w.if-is_counted.true, Decides-at _ _ w.value-is w.is_aimed.ensures)
      | else-is_counted w ↦ inr (w.if-is_counted.false, w.value-is)
    ]) in
    let rises = decides_both _ c.if-is_aimed.value aimed (elim c.if-is_aimed.branch [
      | then-is_aimed w ↦ inl (w.if-is_aimed.true, Decides-at _ _ w.value-is w.is_rising.ensures)
      | else-is_aimed w ↦ inr (w.if-is_aimed.false, w.value-is)
    ]) in (
      λ e. absurd (false≢true (sym c.if-is_rising.false ∙ e)),
      λ d. rises.1 (((((d.some_place, d.few_places), d.few_slots), by_sums ps ss d.some_place d.counted), d.aimed), λ p h i low high within. d.rising p i h low high),
    )
