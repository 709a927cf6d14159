use Rattle.std.proofs.Common.{◌≡◌, ℕ, ◌<◌, ◌≤◌, Bool, true, false, List, [], ◌∷◌, length, ℤ, pos, neg_ℤ, ◌-ℤ◌, FitsSigned, w32, Some, None, Ok, Err, Option, Result, inl, inr, sym, ap, ◌∙◌, arith}
use Rattle.std.specs.Option.{SomeIff}
use Rattle.std.specs.Result.{OkIff, result_ok}
use Rattle.std.proofs.lemmas.Bool.{and_from, cases_lt, cond-true, le-leb}
use Rattle.std.proofs.lemmas.Bool.Decides.{nat_tests}
use Rattle.std.proofs.lemmas.Int.{ints}
use Rattle.tokens.specs.Tokens.{value, well_formed, number_of}
use Rattle.tokens.proofs.token.numeral.number_of.Goals as goal

-- a number too great for 32 bits
too_great : (minus : Bool) (ds : List ℕ) → 2147483648 < value ds → None ≡ number_of minus ds
too_great true ds h = grind (arith, nat_tests)
too_great false ds h = grind (arith, nat_tests)

minus_number : (ds : List ℕ) (o : Option ℤ) → well_formed true ds ≡ true → SomeIff o (FitsSigned w32 (pos 0 -ℤ pos (value ds))) (pos 0 -ℤ pos (value ds)) → o ≡ number_of true ds
minus_number ds (Some z) formed (fits, is) =
    let few : value ds ≤ 2147483648 = omega (arith, ints) in
    let same : z ≡ neg_ℤ (pos (value ds)) = omega (arith, ints) in
    ap Some same ∙ sym (cond-true _ _ _ (and_from (well_formed true ds) _ formed (le-leb _ 2147483648 few)))
minus_number ds None formed not_fits = elim (cases_lt 2147483648 (value ds)) [
  | inl great ↦ too_great true ds great
  | inr few ↦ absurd (not_fits (omega (arith, ints)))
]

plain_number : (ds : List ℕ) (o : Option ℤ) → well_formed false ds ≡ true → SomeIff o (FitsSigned w32 (pos (value ds))) (pos (value ds)) → o ≡ number_of false ds
plain_number ds (Some z) formed (fits, is) =
    let few : value ds ≤ 2147483647 = omega (arith, ints) in
    ap Some is ∙ sym (cond-true _ _ _ (and_from (well_formed false ds) _ formed (le-leb _ 2147483647 few)))
plain_number ds None formed not_fits = elim (cases_lt 2147483647 (value ds)) [
  | inl great ↦ grind (arith, nat_tests)
  | inr few ↦ absurd (not_fits (omega (arith, ints)))
]

ok_iff : {E : Type 0} (P : Type 0) (v : ℤ) (r : Result ℤ E) → OkIff r P v → SomeIff (result_ok r) P v
ok_iff P v (Ok x) h = h
ok_iff P v (Err e) h = h

some_digit : (minus : Bool) (ds : List ℕ) → well_formed minus ds ≡ true → 0 < length ds
some_digit minus [] formed = absurd (cc)
some_digit minus (d ∷ ds) formed = omega arith

pub returns-in_err-size : goal.returns-in_err-size
returns-in_err-size c =
    let ds = c.args.digits.now in
    let formed : well_formed c.args.minus ds ≡ true = sym c.well_formed-2.ensures ∙ c.if-not-well_formed.false in
    c.from_residual.ensures ∙ elim (cases_lt (value ds) 4294967296) [
      | inl small ↦ absurd (c.in_err-size.ensures (some_digit c.args.minus ds formed, small))
      | inr great ↦ too_great c.args.minus ds (omega arith)
    ]

pub returns-then-minus : goal.returns-then-minus
returns-then-minus c =
    let formed = sym c.well_formed-2.ensures ∙ c.if-not-well_formed.false in
    rw c.if-minus.true
    (minus_number c.args.digits.now _ (rw c.if-minus.true at formed) (rw c.in_ok-size.ensures.1 at c.checked_sub_unsigned.ensures))

pub returns-else-minus : goal.returns-else-minus
returns-else-minus c =
    let formed = sym c.well_formed-2.ensures ∙ c.if-not-well_formed.false in
    rw c.if-minus.false
    (c.ok.ensures.value ∙ plain_number c.args.digits.now _ (rw c.if-minus.false at formed) (ok_iff _ _ c.try_from.result (rw c.in_ok-size.ensures.1 at c.try_from.ensures)))
