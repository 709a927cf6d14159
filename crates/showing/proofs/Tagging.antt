-- Counting the slots that lead to each place.
use Rattle.std.proofs.Common.{◌≡◌, ℕ, ◌+◌, ◌<◌, ◌≤◌, cond, eqb, List, [], ◌∷◌, length, get_or, take, set, sym, refl, ap, ◌∙◌, subst, ⊎_elim, arith}
use Rattle.std.specs.List.{All}
use Rattle.std.proofs.lemmas.List.Elements.{All-head, All-tail, All-from_get_or}
use Rattle.std.proofs.lemmas.List.{get_or-set_same, get_or-set_other, get_or_past, length-take}
use Rattle.std.proofs.lemmas.List.Sums.{count_by_more_yes, count_by_more_no, count_by-le-length, sum_by-cons}
use Rattle.std.proofs.lemmas.Bool.{cases_eq, cases_lt, eq-eqb, ne_eqb}
use Rattle.records.specs.declared.SlotRecord.{SlotRecord}
use Rattle.records.specs.Tables.{blank_slot, target_at}
use Rattle.records.specs.declared.PlaceRecord.{PlaceRecord}
use Rattle.records.specs.Sheets.{Sheet}
use Rattle.records.proofs.Shape.{target_in}
use Rattle.sheets.specs.Checks.{IsSheet}
use Rattle.showing.specs.Tags.{led}

-- the table is right of the first i slots
abbrev pub Leads : List ℕ → List SlotRecord → ℕ → Type 0
Leads leading ss i = (p : ℕ) → p < 1000 → get_or leading p 0 ≡ led (take i ss) p

pub leads_more : (leading : List ℕ) (ss : List SlotRecord) (i : ℕ) → length leading ≡ 1000 → i < length ss → target_at ss i < 1000 → Leads leading ss i → Leads (set leading (target_at ss i) (get_or leading (target_at ss i) 0 + 1)) ss (i + 1)
leads_more leading ss i long h low inv p l =
    let t : ℕ = target_at ss i in
    let v : ℕ = get_or leading t 0 + 1 in
    ⊎_elim
    (λ e. subst (λ (q : ℕ). get_or (set leading t v) q 0 ≡ led (take (i + 1) ss) q) e
    (get_or-set_same leading t v 0 (omega arith) ∙ ap (λ (n : ℕ). n + 1) (inv t low) ∙ sym (count_by_more_yes (λ x. eqb x.target t) ss i blank_slot h (eq-eqb t t refl))))
    (λ other. get_or-set_other leading t p v 0 (λ e. other (sym e)) ∙ inv p l ∙ sym (count_by_more_no (λ x. eqb x.target p) ss i blank_slot h (ne_eqb t p other)))
    (cases_eq t p)

pub led_few : (ss : List SlotRecord) (i p : ℕ) → i ≤ length ss → led (take i ss) p ≤ i
led_few ss i p h = omega (arith, count_by-le-length (λ x. eqb x.target p) (take i ss), length-take i ss)

-- no slot leads to a place past those that all of them lead to
pub led_past : (n p : ℕ) (ss : List SlotRecord) → All (λ x. x.target < n) ss → n ≤ p → led ss p ≡ 0
led_past n p [] aimed h = refl
led_past n p (x ∷ ss) aimed h =
    let other = ne_eqb x.target p (λ e. omega (arith, All-head (λ y. y.target < n) x ss aimed)) in
    let rest = led_past n p ss (All-tail (λ y. y.target < n) x ss aimed) h in
    sum_by-cons (λ y. cond (eqb y.target p) 1 0) x ss ∙ (λ i. cond (other i) 1 0 + rest i)

module _ {F : Type 0} {ps : List (PlaceRecord F)} {ss : List SlotRecord} (sheet : IsSheet ps ss) where
  pub targets_low : (i : ℕ) → i < length ss → target_at ss i < 1000
  targets_low i h = let s : Sheet F = record { places = ps; slots = ss } in omega (arith, target_in s sheet.formed i h, sheet.few_places)

  -- a table of 1,000 counts that is right below 1,000 is right of every place
  pub leads_all : (leading : List ℕ) → length leading ≡ 1000 → ((p : ℕ) → p < 1000 → get_or leading p 0 ≡ led ss p) → (p : ℕ) → get_or leading p 0 ≡ led ss p
  leads_all leading long counts p =
      ⊎_elim
      (λ low. counts p low)
      (λ past. get_or_past leading p 0 (omega arith) ∙ sym (led_past 1000 p ss (All-from_get_or (λ x. x.target < 1000) ss blank_slot targets_low) past))
      (cases_lt p 1000)
