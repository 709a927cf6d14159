-- What is left of a line gives what the line gives.
use Rattle.std.proofs.Common.{◌≡◌, ℕ, zero, suc, ◌+◌, ◌<◌, ◌≤◌, List, length, ℤ, Some, None, Option, sym, refl, ap, ◌∙◌, subst, arith}
use Rattle.std.proofs.lemmas.Bool.{cond-true, cond-false, lt-ltb, le-ltb}
use Rattle.tokens.specs.Tokens.{Tok, Next, finish, token, refusal, next_token}
use Rattle.tokens.proofs.Ahead.{next_ahead}
use Rattle.tokens.specs.Tokens.{Ahead}
use Rattle.reading.specs.declared.fault.ReadFault.{ReadFault}
use Rattle.reading.specs.Faults.{number_of, byte_of}
use Rattle.reading.specs.Answers.{refused}
use Rattle.reading.specs.Drafts.{Draft, nothing}
use Rattle.reading.specs.Steps.{Step, go, fault, step, end_in, on_next, on_step, on_some, read_from, read_place}

module _ {K : Type 0} (words : List ℕ → Option K) (ranges : ℤ → ℤ → Option K) where
  pub record Left (pl sl : ℕ) (line : List ℕ) (from : ℕ) (d : Draft K) : Type 0 where
    pub turns : ℕ
    pub enough : length line < from + turns
    pub inside : from ≤ length line
    pub rest : read_from words ranges turns pl sl line from d ≡ read_place words ranges pl sl line

  pub left_start : (pl sl : ℕ) (line : List ℕ) (from : ℕ) (d : Draft K) → from ≡ 0 → d ≡ nothing → length line ≤ 60000 → Left pl sl line from d
  unfolding read_place
  left_start pl sl line from d z e le = record {
    turns = suc (length line);
    enough = omega arith;
    inside = omega arith;
    rest = (λ i. read_from words ranges (suc (length line)) pl sl line (z i) (e i)) ∙ sym (cond-false _ _ _ (le-ltb 60000 (length line) le));
  }

  pub too_long : (pl sl : ℕ) (line : List ℕ) → 60000 < length line → fault 10 0 ≡ read_place words ranges pl sl line
  unfolding read_place
  too_long pl sl line lt = sym (cond-true _ (fault 10 0) _ (lt-ltb 60000 (length line) lt))

  fault_stays : (o : Option ℕ) (n : ℕ) (k : Draft K → Step K) → on_step (on_some o (fault n) (fault 0 0)) k ≡ on_some o (fault n) (fault 0 0)
  fault_stays (Some b) n k = refl
  fault_stays None n k = refl

  module _ {pl sl : ℕ} {line : List ℕ} {from : ℕ} {d : Draft K} (l : Left pl sl line from d) where
    turn : ℕ → Next → Step K
    turn t n = on_next n (end_in d.mode d (length line)) (λ x i j. on_step (step words ranges pl sl line d x i j) (λ d₂. read_from words ranges t pl sl line j d₂)) fault

    abbrev Turn : Type 0
    Turn = (t : ℕ) × (length line < from + suc t) × (turn t (next_token line from) ≡ read_place words ranges pl sl line)

    unrolled : Turn
    unfolding turn
    unrolled = by l.turns l.enough l.rest
      where
        by : (t : ℕ) → length line < from + t → read_from words ranges t pl sl line from d ≡ read_place words ranges pl sl line → Turn
        by zero h e = absurd (omega (arith, l.inside))
        by (suc t) h e = (t, h, e)

    pub left_end : finish ≡ next_token line from → end_in d.mode d (length line) ≡ read_place words ranges pl sl line
    unfolding turn
    left_end e = ap (turn unrolled.0) e ∙ unrolled.2

    pub left_fault : (n b : ℕ) → refusal n b ≡ next_token line from → fault n b ≡ read_place words ranges pl sl line
    unfolding turn
    left_fault n b e = ap (turn unrolled.0) e ∙ unrolled.2

    stepped : (x : Tok) (i j : ℕ) (s : Step K) → token x i j ≡ next_token line from → s ≡ step words ranges pl sl line d x i j → on_step s (λ d₂. read_from words ranges unrolled.0 pl sl line j d₂) ≡ read_place words ranges pl sl line
    unfolding turn
    stepped x i j s e k = ap (λ s. on_step s (λ d₂. read_from words ranges unrolled.0 pl sl line j d₂)) k ∙ ap (turn unrolled.0) e ∙ unrolled.2

    pub left_step_fault : (x : Tok) (i j : ℕ) (f : ReadFault) → token x i j ≡ next_token line from → refused f ≡ step words ranges pl sl line d x i j → refused f ≡ read_place words ranges pl sl line
    left_step_fault x i j f e k = sym (fault_stays (byte_of f) (number_of f) _) ∙ stepped x i j (refused f) e k

    pub left_ahead : (x : Tok) (i j : ℕ) → token x i j ≡ next_token line from → (from < j) × (j ≤ length line)
    left_ahead x i j e = let a : Ahead from (length line) (token x i j) = subst (Ahead from (length line)) (sym e) (next_ahead line from) in omega arith

    pub left_more : (x : Tok) (i j to : ℕ) (d₂ : Draft K) → token x i j ≡ next_token line from → to ≡ j → go d₂ ≡ step words ranges pl sl line d x i j → Left pl sl line to d₂
    left_more x i j to d₂ e t k =
        let a = left_ahead x i j e in
        record { turns = unrolled.0; enough = omega (arith, unrolled.1); inside = omega arith; rest = ap (λ n. read_from words ranges unrolled.0 pl sl line n d₂) t ∙ stepped x i j (go d₂) e k }

  pub same_room : (pl pl₂ sl sl₂ : ℕ) (line : List ℕ) → pl ≡ pl₂ → sl ≡ sl₂ → read_place words ranges pl sl line ≡ read_place words ranges pl₂ sl₂ line
  same_room pl pl₂ sl sl₂ line p q = λ i. read_place words ranges (p i) (q i) line

  pub left_room : {line : List ℕ} {from : ℕ} {d : Draft K} (pl pl₂ sl sl₂ : ℕ) → pl ≡ pl₂ → sl ≡ sl₂ → Left pl sl line from d → Left pl₂ sl₂ line from d
  left_room {line} {from} {d} pl pl₂ sl sl₂ p q l = subst (λ n. Left n sl₂ line from d) p (subst (λ n. Left pl n line from d) q l)
