-- What blanking leaves of tables that were written to.
use Rattle.std.proofs.Common.{◌≡◌, ℕ, ◌+◌, ◌-◌, ◌≤◌, min, List, ◌++◌, length, take, drop, replicate, sym, ap, ◌∙◌, arith}
use Rattle.std.proofs.lemmas.List.{append_assoc, drop-drop, take_at, length-take-le}
use Rattle.placing.specs.Reading.{ReadInto, worked}

module _ {A : Type 0} where
  -- what is kept from one number on is kept from a later one on
  pub drop_later : (n m : ℕ) (xs ys : List A) → n ≤ m → drop n xs ≡ drop n ys → drop m xs ≡ drop m ys
  drop_later n m xs ys le e =
      let at : n + (m - n) ≡ m = omega arith in
      ap (λ k. drop k xs) (sym at) ∙ sym (drop-drop (m - n) n xs) ∙ ap (drop (m - n)) e ∙ drop-drop (m - n) n ys ∙ ap (λ k. drop k ys) at

  -- with other words for the number and the blank
  pub cleared_at : (most n c : ℕ) (b blank : A) (mid new : List A) → n ≡ c → b ≡ blank → new ≡ take n mid ++ replicate (min most (length mid) - n) b ++ drop most mid
      → new ≡ take c mid ++ replicate (min most (length mid) - c) blank ++ drop most mid
  cleared_at most n c b blank mid new p q e = e ∙ (λ i. take (p i) mid ++ replicate (min most (length mid) - p i) (q i) ++ drop most mid)

  module _ (blank : A) (most c : ℕ) (old mid new : List A) (long : length mid ≡ length old) (few : c ≤ min most (length mid))
      (cleared : new ≡ take c mid ++ replicate (min most (length mid) - c) blank ++ drop most mid) where
    pub same_front : take c new ≡ take c mid
    same_front =
        ap (take c) (cleared ∙ append_assoc (take c mid) (replicate (min most (length mid) - c) blank) (drop most mid))
        ∙ take_at (take c mid) (replicate (min most (length mid) - c) blank ++ drop most mid) c (length-take-le c mid (omega arith))

    pub read_into : drop c mid ≡ drop c old → ReadInto blank most c old new
    read_into kept =
        cleared
        ∙ ap (λ l. l ++ replicate (min most (length mid) - c) blank ++ drop most mid) (sym same_front)
        ∙ ap (λ n. take c new ++ replicate (min most n - c) blank ++ drop most mid) long
        ∙ ap (λ l. take c new ++ replicate (min most (length old) - c) blank ++ l) (drop_later c most mid old (omega arith) kept)

  pub worked_blank : (blank : A) (most : ℕ) (old mid new : List A) → length mid ≡ length old → drop most mid ≡ drop most old
      → new ≡ take 0 mid ++ replicate (min most (length mid) - 0) blank ++ drop most mid → new ≡ worked blank most old
  worked_blank blank most old mid new long kept cleared =
      let n : min most (length mid) - 0 ≡ min most (length old) = omega arith in
      cleared ∙ ap (λ k. replicate k blank ++ drop most mid) n ∙ ap (λ l. replicate (min most (length old)) blank ++ l) kept
