-- Ranges of whole numbers: when two numbers are the ends of one, inclusion, the common part, and the form in a record.
use Rattle.std.specs.Prelude.{ℕ, ◌⊎◌, List, ◌++◌, ℤ, pos, negsuc, ◌≤ℤ◌, Ok, Err, codes, Option, Result}
use Rattle.std.specs.Fmt.{signed_decimal}
use Rattle.std.proofs.Common.{inl, inr}
use Rattle.std.specs.Int.Signed.{le_z_yes, clash_ℤ}
use Rattle.std.proofs.lemmas.Int.{by_lt_z}
use Rattle.std.specs.Int.{int_max, int_min}
use Rattle.std.specs.Result.{result_ok}
use Rattle.ranges.specs.declared.range.Range.{Range}
use Rattle.ranges.specs.declared.range.RangeForm.{RangeForm}

-- l and h are the ends of a range: from -2,147,483,648 to 2,147,483,647, and l not above h
abbrev pub Ends : ℤ → ℤ → Type 0
Ends l h = (negsuc 2147483647 ≤ℤ l) × (l ≤ℤ h) × (h ≤ℤ pos 2147483647)

pub ends_decided : (l h : ℤ) → Ends l h ⊎ (Ends l h → ⊥)
ends_decided l h =
    by_lt_z l (negsuc 2147483647) (λ out. inr (λ e. clash_ℤ out e.0)) (λ p.
    by_lt_z h l (λ out. inr (λ e. clash_ℤ out e.1)) (λ q.
    by_lt_z (pos 2147483647) h (λ out. inr (λ e. clash_ℤ out e.2)) (λ r. inl (p, q, r))))

abbrev pub made_if : (l h : ℤ) → Ends l h ⊎ (Ends l h → ⊥) → Result Range RangeForm
made_if l h (inl e) = Ok (record { low = l; high = h; ends = e })
made_if l h (inr out) = Err (record { low = l; high = h })

-- the range with these ends, or the two numbers again where they are not the ends of one
abbrev pub made : ℤ → ℤ → Result Range RangeForm
made l h = made_if l h (ends_decided l h)

-- the greatest range
abbrev pub widest : Range
widest = record { low = negsuc 2147483647; high = pos 2147483647; ends = (le_z_yes tt, le_z_yes tt, le_z_yes tt) }

-- a is at or below b: each number of a is one of b's
abbrev pub Inside : Range → Range → Type 0
Inside a b = (b.low ≤ℤ a.low) × (a.high ≤ℤ b.high)

-- the common part of a and b
abbrev pub overlap : Range → Range → Option Range
overlap a b = result_ok (made (int_max a.low b.low) (int_min a.high b.high))

-- the stored form of a range, and the range that has a form
abbrev pub form_of : Range → RangeForm
form_of r = record { low = r.low; high = r.high }

abbrev pub range_of : RangeForm → Option Range
range_of f = result_ok (made f.low f.high)

-- the text of a range: its ends in base ten with two dots between, in square brackets
abbrev pub text : Range → List ℕ
text r = codes "[" ++ (signed_decimal r.low ++ (codes ".." ++ (signed_decimal r.high ++ codes "]")))
