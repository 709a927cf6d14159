use Rattle.std.proofs.Common.{rules, ◌≡◌, ℕ, ◌<◌, ◌≤◌, List, length, refl, ap, ◌∙◌, arith, length-take}
use Rattle.std.specs.List.{range_with_len}
use Rattle.std.proofs.lemmas.List.FromFn.{get_or-range_with_len}
use Rattle.numbering.specs.Quotient.{at}
use Rattle.renumbering.proofs.Drafting.{draft_work, draft_quotient, places_all, slots_all}
use Rattle.renumbering.proofs.renumber.Goals as goal

-- each place is its own class
own : (ends : List ℕ) (n : ℕ) → ends ≡ range_with_len 0 1000 → n ≤ 1000 → (x : ℕ) → x < n → at ends x ≡ x
own ends n e few x h =
    let there = get_or-range_with_len 0 1000 x 0 (omega arith) in
    ap (λ l. at l x) e ∙ there ∙ omega arith

pub number-requires-clause-work : goal.number-requires-clause-work
number-requires-clause-work g c =
    let draft = c.if-not-is_draft.ensures.0 refl in
    draft_work c.args.draft.places.now c.args.draft.slots.now draft _ (own c.own_numbers.new.entries _ (search rules) draft.few_places)

pub returns-clause-written : goal.returns-clause-written
returns-clause-written g c =
    let ps = c.args.draft.places.now in
    let ss = c.args.draft.slots.now in
    let draft = c.if-not-is_draft.ensures.0 refl in
    let is_own : (x : ℕ) → x < length ps → at c.own_numbers.new.entries x ≡ x = own c.own_numbers.new.entries _ (search rules) draft.few_places in
    let quotient = c.number.ensures.quotient in
    let places = places_all ps ss draft _ is_own _ _ quotient in
    let slots = slots_all ps ss draft _ is_own _ _ quotient in
    let within = c.number.ensures.within in
    record {
      places = omega (arith, places, within, simp length-take at places);
      slots = omega (arith, slots, within, simp length-take at slots);
      quotient = draft_quotient ps ss draft _ is_own _ _ quotient;
      places_past = c.number.ensures.kept.0;
      slots_past = c.number.ensures.kept.1;
    }
