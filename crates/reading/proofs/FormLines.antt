-- What is left of a line gives the form that the line gives.
use Rattle.std.proofs.Common.{◌≡◌, ℕ, zero, suc, ◌+◌, ◌<◌, ◌≤◌, List, length, ℤ, Some, None, Option, sym, refl, ap, ◌∙◌, subst, arith}
use Rattle.std.proofs.lemmas.Bool.{cond-true, cond-false, lt-ltb, le-ltb}
use Rattle.tokens.specs.Tokens.{Tok, Next, finish, token, refusal, next_token, Ahead}
use Rattle.tokens.proofs.Ahead.{next_ahead}
use Rattle.reading.specs.declared.fault.ReadFault.{ReadFault}
use Rattle.reading.specs.Faults.{number_of, byte_of}
use Rattle.reading.specs.Steps.{on_next, on_some}
use Rattle.reading.specs.Forms.{Formed, FormStep, goes, refused, unread, on_form_step, form_end, form_step, form_from, read_form}
use Rattle.reading.specs.Forming.{faulted}

module _ {K : Type 0} (words : List ℕ → Option K) (ranges : ℤ → ℤ → Option K) where
  pub record Left (pl sl : ℕ) (line : List ℕ) (from : ℕ) (f : Formed K) : Type 0 where
    pub turns : ℕ
    pub enough : length line < from + turns
    pub inside : from ≤ length line
    pub rest : form_from words ranges turns pl sl line from f ≡ read_form words ranges pl sl line

  pub left_start : (pl sl : ℕ) (line : List ℕ) (from : ℕ) (f : Formed K) → from ≡ 0 → f ≡ unread → length line ≤ 60000 → Left pl sl line from f
  unfolding read_form
  left_start pl sl line from f z e le = record {
    turns = suc (length line);
    enough = omega arith;
    inside = omega arith;
    rest = (λ i. form_from words ranges (suc (length line)) pl sl line (z i) (e i)) ∙ sym (cond-false _ _ _ (le-ltb 60000 (length line) le));
  }

  pub too_long : (pl sl : ℕ) (line : List ℕ) → 60000 < length line → refused 10 0 ≡ read_form words ranges pl sl line
  unfolding read_form
  too_long pl sl line lt = sym (cond-true _ (refused 10 0) _ (lt-ltb 60000 (length line) lt))

  fault_stays : (o : Option ℕ) (n : ℕ) (k : Formed K → FormStep K) → on_form_step (on_some o (refused n) (refused 0 0)) k ≡ on_some o (refused n) (refused 0 0)
  fault_stays (Some b) n k = refl
  fault_stays None n k = refl

  module _ {pl sl : ℕ} {line : List ℕ} {from : ℕ} {f : Formed K} (l : Left pl sl line from f) where
    turn : ℕ → Next → FormStep K
    turn t n = on_next n (form_end f.stage f (length line)) (λ x i j. on_form_step (form_step words ranges pl sl line f x i j) (λ f₂. form_from words ranges t pl sl line j f₂)) refused

    abbrev Turn : Type 0
    Turn = (t : ℕ) × (length line < from + suc t) × (turn t (next_token line from) ≡ read_form words ranges pl sl line)

    unrolled : Turn
    unfolding turn
    unrolled = by l.turns l.enough l.rest
      where
        by : (t : ℕ) → length line < from + t → form_from words ranges t pl sl line from f ≡ read_form words ranges pl sl line → Turn
        by zero h e = absurd (omega (arith, l.inside))
        by (suc t) h e = (t, h, e)

    pub left_end : finish ≡ next_token line from → form_end f.stage f (length line) ≡ read_form words ranges pl sl line
    unfolding turn
    left_end e = ap (turn unrolled.0) e ∙ unrolled.2

    pub left_fault : (n b : ℕ) → refusal n b ≡ next_token line from → refused n b ≡ read_form words ranges pl sl line
    unfolding turn
    left_fault n b e = ap (turn unrolled.0) e ∙ unrolled.2

    stepped : (x : Tok) (i j : ℕ) (s : FormStep K) → token x i j ≡ next_token line from → s ≡ form_step words ranges pl sl line f x i j →
        on_form_step s (λ f₂. form_from words ranges unrolled.0 pl sl line j f₂) ≡ read_form words ranges pl sl line
    unfolding turn
    stepped x i j s e k = ap (λ s. on_form_step s (λ f₂. form_from words ranges unrolled.0 pl sl line j f₂)) k ∙ ap (turn unrolled.0) e ∙ unrolled.2

    pub left_step_fault : (x : Tok) (i j : ℕ) (t : ReadFault) → token x i j ≡ next_token line from → faulted t ≡ form_step words ranges pl sl line f x i j → faulted t ≡ read_form words ranges pl sl line
    left_step_fault x i j t e k = sym (fault_stays (byte_of t) (number_of t) _) ∙ stepped x i j (faulted t) e k

    pub left_ahead : (x : Tok) (i j : ℕ) → token x i j ≡ next_token line from → (from < j) × (j ≤ length line)
    left_ahead x i j e = let a : Ahead from (length line) (token x i j) = subst (Ahead from (length line)) (sym e) (next_ahead line from) in omega arith

    pub left_more : (x : Tok) (i j to : ℕ) (f₂ : Formed K) → token x i j ≡ next_token line from → to ≡ j → goes f₂ ≡ form_step words ranges pl sl line f x i j → Left pl sl line to f₂
    left_more x i j to f₂ e t k =
        let a = left_ahead x i j e in
        record { turns = unrolled.0; enough = omega (arith, unrolled.1); inside = omega arith; rest = ap (λ n. form_from words ranges unrolled.0 pl sl line n f₂) t ∙ stepped x i j (goes f₂) e k }

  pub same_room : (pl pl₂ sl sl₂ : ℕ) (line : List ℕ) → pl ≡ pl₂ → sl ≡ sl₂ → read_form words ranges pl sl line ≡ read_form words ranges pl₂ sl₂ line
  same_room pl pl₂ sl sl₂ line p q = λ i. read_form words ranges (p i) (q i) line

  pub left_room : {line : List ℕ} {from : ℕ} {f : Formed K} (pl pl₂ sl sl₂ : ℕ) → pl ≡ pl₂ → sl ≡ sl₂ → Left pl sl line from f → Left pl₂ sl₂ line from f
  left_room {line} {from} {f} pl pl₂ sl sl₂ p q l = subst (λ n. Left n sl₂ line from f) p (subst (λ n. Left pl n line from f) q l)
