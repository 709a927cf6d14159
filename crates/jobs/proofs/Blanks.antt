-- Tables that are blank stay blank, and as they were, where work was done on them and blanked again.
use Rattle.std.proofs.Common.{◌≡◌, ℕ, ◌+◌, ◌-◌, ◌≤◌, max, List, ◌++◌, length, get_or, take, drop, replicate, sym, ap, ◌∙◌, arith, take-append-drop, length-take, get_or-drop, get_or-take}
use native.Mathlib.Decide.{dec_lt}
use lib.ListN.{length-replicate, get_or-replicate}
use Rattle.std.proofs.lemmas.List.{ext_get_or, get_or_append_left, get_or-append_right}
use Rattle.merging.specs.Core.{Replaced, Worked}
use Rattle.jobs.specs.Contents.{Blank}

module _ {R : Type 0} (blank : R) where
  -- a table whose records are blank holds, as far as that, nothing else
  blank_front : (xs : List R) (n p : ℕ) → n ≤ p → p ≤ length xs → Blank blank xs 0 p → take n xs ≡ replicate n blank
  blank_front xs n p h room clean =
      let front : length (take n xs) ≡ n = simp length-take (omega arith) in
      ext_get_or blank (take n xs) (replicate n blank) (front ∙ sym (length-replicate n blank))
      (λ i l. get_or-take n xs i blank (omega arith) ∙ clean i (omega arith) (omega arith) ∙ sym (get_or-replicate n i blank blank (omega arith)))

  pub worked_same : (old new : List R) (n p : ℕ) → n ≤ p → p ≤ length old → Blank blank old 0 p → Worked blank n old new → new ≡ old
  worked_same old new n p h room clean e =
      e ∙ ap (λ l. l ++ drop n old) (sym (blank_front old n p h room clean)) ∙ take-append-drop n old

  pub worked_blank : (old new : List R) (n p : ℕ) → n ≤ p → p ≤ length old → Blank blank old 0 p → Worked blank n old new → Blank blank new 0 p
  worked_blank old new n p h room clean e k l u = ap (λ xs. get_or xs k blank) (worked_same old new n p h room clean e) ∙ clean k l u

  pub replaced_blank : (old new : List R) (n c p : ℕ) → Blank blank old n p → Replaced blank n c old new → Blank blank new c p
  replaced_blank old new n c p clean e k l u =
      let i : ℕ = k - c in
      let at : c + i ≡ k = omega arith in
      let long = length-replicate (n - c) blank in
      ap (λ j. get_or new j blank) (sym at) ∙ sym (get_or-drop c new i blank) ∙ ap (λ xs. get_or xs i blank) e
      ∙ elim (dec_lt k n) as (λ _. get_or (replicate (n - c) blank ++ drop (max c n) old) i blank ≡ blank) [
        | yes lt ↦ get_or_append_left (replicate (n - c) blank) (drop (max c n) old) blank i (omega arith) ∙ get_or-replicate (n - c) i blank blank (omega arith)
        | no ge ↦
            let far : max c n + (i - (n - c)) ≡ k = omega arith in
            get_or-append_right (replicate (n - c) blank) (drop (max c n) old) (n - c) i blank long (omega arith)
            ∙ get_or-drop (max c n) old (i - (n - c)) blank ∙ ap (λ j. get_or old j blank) far ∙ clean k (omega arith) u
      ]
