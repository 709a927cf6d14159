-- The laws of ranges, shown. (A proof, and nothing that a reader has to believe: it stands here because the trait takes it as
-- a ghost member.)
use Rattle.std.specs.Prelude.{◌≡◌, ◌⊎◌, ℤ, ◌≤ℤ◌, Some, None, Ok, int_le, refl}
use Rattle.std.proofs.Common.{sym, ap, ◌∙◌, inl, inr, arith}
use mathlib.Core.HLevel.{is_prop→PathP}
use Rattle.std.proofs.Math.Dec.{T_prop}
use Rattle.std.specs.Int.Signed.{clash_ℤ}
use Rattle.std.proofs.lemmas.Int.{ints, clamps, by_lt_z}
use Rattle.std.specs.Int.{int_max, int_min}
use Rattle.std.specs.Result.{result_ok}
use Rattle.std.proofs.lemmas.Option.{none-some}
use Rattle.kinds.specs.Laws.{KindLaws, MeetLaws}
use Rattle.ranges.specs.declared.range.Range.{Range}
use Rattle.ranges.specs.declared.range.RangeForm.{RangeForm}
use Rattle.ranges.specs.Ranges.{Ends, ends_decided, made_if, made, widest, Inside, overlap, form_of, range_of}

le_prop : (a b : ℤ) → IsProp (a ≤ℤ b)
le_prop a b p q = λ i. record { le = T_prop (int_le a b) p.le q.le i }

ends_prop : (l h : ℤ) → IsProp (Ends l h)
ends_prop l h p q = λ i. (le_prop _ _ p.0 q.0 i, le_prop _ _ p.1 q.1 i, le_prop _ _ p.2 q.2 i)

-- ranges with the same ends are equal
same_range : (a b : Range) → a.low ≡ b.low → a.high ≡ b.high → a ≡ b
same_range a b p q = λ i. record { low = p i; high = q i; ends = is_prop→PathP (λ k. Ends (p k) (q k)) (λ k. ends_prop (p k) (q k)) a.ends b.ends i }

made_if_ok : (r : Range) (d : Ends r.low r.high ⊎ (Ends r.low r.high → ⊥)) → made_if r.low r.high d ≡ Ok r
made_if_ok r (inl e) = ap Ok (same_range (record { low = r.low; high = r.high; ends = e }) r refl refl)
made_if_ok r (inr out) = absurd (out r.ends)

made_ok : (r : Range) → made r.low r.high ≡ Ok r
made_ok r = made_if_ok r (ends_decided r.low r.high)

-- a range that has these ends is what they make
pub made_at : (l h : ℤ) (r : Range) → r.low ≡ l → r.high ≡ h → Ok r ≡ made l h
made_at l h r p q = sym (made_ok r) ∙ (λ i. made (p i) (q i))

made_if_ends : (l h : ℤ) (d : Ends l h ⊎ (Ends l h → ⊥)) (r : Range) → result_ok (made_if l h d) ≡ Some r → (r.low ≡ l) × (r.high ≡ h)
made_if_ends l h (inl e) r s = (cc, cc)
made_if_ends l h (inr out) r s = absurd (none-some r s)

made_ends : (l h : ℤ) (r : Range) → result_ok (made l h) ≡ Some r → (r.low ≡ l) × (r.high ≡ h)
made_ends l h r s = made_if_ends l h (ends_decided l h) r s

-- where no range is made, the numbers are not the ends of one
made_none : (l h : ℤ) → result_ok (made l h) ≡ None → Ends l h → ⊥
made_none l h n e = let r : Range = record { low = l; high = h; ends = e } in none-some r (sym n ∙ ap result_ok (made_ok r))

inside_decided : (a b : Range) → Inside a b ⊎ (Inside a b → ⊥)
inside_decided a b =
    by_lt_z a.low b.low (λ out. inr (λ e. clash_ℤ out e.0)) (λ p.
    by_lt_z b.high a.high (λ out. inr (λ e. clash_ℤ out e.1)) (λ q. inl (p, q)))

range_own : (f : RangeForm) (r : Range) → range_of f ≡ Some r → form_of r ≡ f
range_own f r s = let e = made_ends f.low f.high r s in λ i. record { low = e.0 i; high = e.1 i }

pub range_laws : KindLaws Inside widest form_of range_of
range_laws = record {
  reflexive = λ a. (omega (arith, ints), omega (arith, ints));
  transitive = λ a b c p q. (omega (arith, ints), omega (arith, ints));
  antisymmetric = λ a b p q. same_range a b (omega (arith, ints)) (omega (arith, ints));
  decided = inside_decided;
  greatest = λ a. (a.ends.0, a.ends.2);
  reads = λ r. ap result_ok (made_ok r);
  own = range_own;
}

-- the ends of the common part
abbrev lower : Range → Range → ℤ
lower a b = int_max a.low b.low

abbrev upper : Range → Range → ℤ
upper a b = int_min a.high b.high

overlap_left : (a b m : Range) → overlap a b ≡ Some m → Inside m a
overlap_left a b m s =
    let e = made_ends (lower a b) (upper a b) m s in
    (omega (arith, ints, clamps), omega (arith, ints, clamps))

overlap_right : (a b m : Range) → overlap a b ≡ Some m → Inside m b
overlap_right a b m s =
    let e = made_ends (lower a b) (upper a b) m s in
    (omega (arith, ints, clamps), omega (arith, ints, clamps))

overlap_most : (a b m c : Range) → overlap a b ≡ Some m → Inside c a → Inside c b → Inside c m
overlap_most a b m c s p q =
    let e = made_ends (lower a b) (upper a b) m s in
    (omega (arith, ints, clamps), omega (arith, ints, clamps))

-- a range inside both makes the common ends those of a range
common_ends : (a b c : Range) → Inside c a → Inside c b → Ends (lower a b) (upper a b)
common_ends a b c p q =
    let x = a.ends in
    let y = b.ends in
    let z = c.ends in
    (omega (arith, ints, clamps), omega (arith, ints, clamps), omega (arith, ints, clamps))

pub range_meets : MeetLaws Inside overlap
range_meets = record {
  left = overlap_left;
  right = overlap_right;
  most = overlap_most;
  none = λ a b c n p q. made_none (lower a b) (upper a b) n (common_ends a b c p q);
}
