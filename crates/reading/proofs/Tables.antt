-- What one record more does to what the tables hold.
use Rattle.std.proofs.Common.{◌≡◌, ℕ, ◌-◌, ◌≤◌, eqb, List, length, get_or, take, set, sym, ap, ◌∙◌, arith}
use lib.Seq.{take-set-lt}
use Rattle.std.proofs.lemmas.List.{length-take-le, get_or-take}
use Rattle.std.proofs.lemmas.Bool.{cond-false, ne_eqb}
use Rattle.reading.specs.declared.draft.Tag.{Tag}
use Rattle.reading.specs.declared.draft.Mode.TheVariants.{Inside}
use Rattle.reading.specs.declared.draft.Slot.{Slot}
use Rattle.reading.specs.declared.draft.Target.TheVariants.{ByTag}
use Rattle.reading.specs.Drafts.{Draft, parent_at, no_slot}
use Rattle.reading.specs.Steps.{go, close, refer, by_tag}

module _ {K : Type 0} where
  pub closed_up : (d : Draft K) (up : ℕ) → (d.top ≡ 0 → ⊥) → parent_at d.places d.top ≡ up → go (record { mode = Inside; top = up; places = d.places; slots = d.slots }) ≡ close d
  closed_up d up ne e =
      (λ i. go (record { mode = Inside; top = sym e i; places = d.places; slots = d.slots })) ∙ sym (cond-false (eqb d.top 0) _ _ (ne_eqb _ 0 ne))

  pub tag_set : (ss : List Slot) (n : ℕ) (d : Draft K) (t : Tag) → (n ≡ 0 → ⊥) → n ≤ length ss → d.slots ≡ take n ss →
      go (record { mode = Inside; top = d.top; places = d.places; slots = take n (set ss (n - 1) (record { owner = (get_or ss (n - 1) no_slot).owner; name = (get_or ss (n - 1) no_slot).name; target = ByTag t })) }) ≡ refer t d
  tag_set ss n d t some le e =
      let at : length d.slots ≡ n = ap length e ∙ length-take-le n ss le in
      let same : get_or d.slots (length d.slots - 1) no_slot ≡ get_or ss (n - 1) no_slot =
      (λ i. get_or (e i) (at i - 1) no_slot) ∙ get_or-take n ss (n - 1) no_slot (omega arith) in
      let is : take n (set ss (n - 1) (record { owner = (get_or ss (n - 1) no_slot).owner; name = (get_or ss (n - 1) no_slot).name; target = ByTag t })) ≡ by_tag d.slots t =
      take-set-lt n ss (n - 1) _ (omega arith) ∙
      (λ i. set (sym e i) (sym at i - 1) (record { owner = (sym same i).owner; name = (sym same i).name; target = ByTag t })) in
      (λ i. go (record { mode = Inside; top = d.top; places = d.places; slots = is i })) ∙ sym (cond-false (eqb (length d.slots) 0) _ _ (ne_eqb _ 0 (λ z. some (sym at ∙ z))))
