-- What the fields of a reader hold.
use Rattle.std.proofs.Common.{Option, is_some, unwrap_or, Ok, Err, Result, IfOk, Bool, position, not, Some, None, ◌≡◌, ℕ, zero, suc, ◌+◌, ◌-◌, ◌≤◌, min, true, false, cond, eqb, ltb, List, [], ◌∷◌, length, take, drop, sym, refl, ap, ◌∙◌, inl, inr, ⊎_elim, arith}
use Rattle.std.specs.List.{prefix_len}
use Rattle.std.specs.Result.{result_eq}
use Rattle.std.specs.Option.{option_map_or}
use borrow.Rule.Slice.PartMut.{put_mid}
use Rattle.std.proofs.lemmas.List.{take_all}
use Rattle.std.proofs.lemmas.List.Edits.{length-paste}
use Rattle.std.proofs.lemmas.Slice.{put_mid-paste, drop-put_mid}
use Rattle.std.proofs.lemmas.Bool.{cases_Bool, cond_both, lt-ltb, ne_eqb, le-ltb}
use Rattle.lines.specs.declared.reader.Lines.{Lines}
use Rattle.lines.specs.declared.reader.LongLine.{LongLine}
use Rattle.lines.specs.Lines.{Given, front, has_newline}
use Rattle.lines.specs.Reading.{held, limit, line_so_far, pending, extended, some, SameBuffer}
use Rattle.lines.proofs.Cuts.{Found, Missing, front_cases}

-- what a search has found
front_taken : (xs : List ℕ) → take (length (front xs)) xs ≡ front xs
front_taken [] = refl
front_taken (b ∷ bs) =
    cond_both
    (eqb b 10)
    []
    (b ∷ front bs)
    (λ ys. take (length ys) (b ∷ bs) ≡ ys)
    (λ e. refl)
    (λ e. ap (λ (ys : List ℕ). b ∷ ys) (front_taken bs))

front_ends : (xs : List ℕ) → ltb (length (front xs)) (length xs) ≡ has_newline xs
front_ends xs =
    ⊎_elim
    (λ (f : Found xs). let w = f.within in lt-ltb (length (front xs)) (length xs) (omega arith) ∙ sym f.is)
    (λ (m : Missing xs). le-ltb (length (front xs)) (length xs) (omega (arith, ap length m.same)) ∙ sym m.is)
    (front_cases xs)

front_place : (xs : List ℕ) → prefix_len (λ b. not (eqb b 10)) xs ≡ length (front xs)
front_place [] = refl
front_place (b ∷ bs) =
    ⊎_elim
    (λ (t : eqb b 10 ≡ true). simp t)
    (λ (f : eqb b 10 ≡ false). let ih = front_place bs in simp f (omega arith))
    (cases_Bool (eqb b 10))

newline_place : (xs : List ℕ) → position (λ b. eqb b 10) xs ≡ cond (has_newline xs) (Some (length (front xs))) None
newline_place xs = let p = front_place xs in let e = front_ends xs in simp (p, e)

-- what the place of the first newline says
module _ (xs : List ℕ) (o : Option ℕ) (place : o ≡ position (λ b. eqb b 10) xs) where
  placed : o ≡ cond (has_newline xs) (Some (length (front xs))) None
  placed = place ∙ newline_place xs

  pub newline_ended : is_some o ≡ has_newline xs
  newline_ended = ap is_some placed ∙ elim (front_cases xs) [
    | inl f ↦ let e = f.is in simp e
    | inr m ↦ let e = m.is in simp e
  ]

  pub newline_used : option_map_or (λ n. n + 1) o (length xs) ≡ cond (has_newline xs) (length (front xs) + 1) (length xs)
  newline_used = ap (λ p. option_map_or (λ n. n + 1) p (length xs)) placed ∙ elim (front_cases xs) [
    | inl f ↦ let e = f.is in simp e
    | inr m ↦ let e = m.is in simp e
  ]

  pub newline_front : take (unwrap_or o (length xs)) xs ≡ front xs
  newline_front = ap (λ p. take (unwrap_or p (length xs)) xs) placed ∙ elim (front_cases xs) [
    | inl f ↦ let e = f.is in simp e (front_taken xs)
    | inr m ↦ let e = m.is in simp e (take_all (length xs) xs (omega arith) ∙ sym m.same)
  ]

-- a line that is not empty has at least one byte
pub some_held : (len : Result ℕ LongLine) (xs : List ℕ) (g : LongLine → LongLine → Bool) → IfOk len (λ n. (n ≤ length xs) × (n ≤ 60000)) → not (result_eq eqb g len (Ok 0)) ≡ some (held len xs)
some_held (Ok zero) xs g h = refl
some_held (Ok (suc n)) [] g h = absurd (omega arith)
some_held (Ok (suc n)) (x ∷ xs) g h = let e = ne_eqb (suc n) 0 (omega arith) in simp e
some_held (Err e) xs g h = refl

-- bytes written into a table after its first a
module _ (a : ℕ) (xs ys bytes : List ℕ) (is : ys ≡ bytes) (room : a + length bytes ≤ length xs) where
  pub drop_written : drop (a + length bytes) (put_mid a (a + length bytes - a) xs ys) ≡ drop (a + length bytes) xs
  drop_written =
      let n = ap length is in
      drop-put_mid a (a + length bytes - a) xs ys (a + length bytes) (omega arith) (omega arith) (omega arith)

  pub length_written : length (put_mid a (a + length bytes - a) xs ys) ≡ length xs
  length_written =
      ap length (put_mid-paste a (a + length bytes - a) xs ys bytes (length bytes) is (omega arith) refl)
      ∙ length-paste xs a bytes (length bytes) room (omega arith)

-- a line that was begun, and then extended by what stands before the newline
pub line_fed :
    (s begun after : Lines) (piece part : List ℕ)
    → SameBuffer begun s
    → line_so_far begun ≡ pending s
    → line_so_far after ≡ extended (limit begun) (line_so_far begun) part
    → part ≡ front piece
    → line_so_far after ≡ extended (limit s) (pending s) (front piece)
line_fed s begun after piece part kept begins extends is =
    extends
    ∙ ap (λ (n : ℕ). extended (min 60000 n) (line_so_far begun) part) kept.room
    ∙ ap (λ (g : Given). extended (limit s) g part) begins
    ∙ ap (extended (limit s) (pending s)) is
