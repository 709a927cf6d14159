-- The answer to a line of one form is the least of the rules that it breaks.
use Rattle.std.proofs.Common.{◌≡◌, ℕ, zero, suc, ◌+◌, ◌<◌, ◌≤◌, true, false, ltb, ◌⊎◌, List, length, ℤ, Option, sym, refl, ap, ◌∙◌, subst, inl, inr, arith}
use Rattle.std.proofs.lemmas.Bool.{cond-true, cond-false, cases_Bool, lt-ltb, ltb-true, ltb-false}
use Rattle.tokens.specs.Tokens.{Tok, Next, finish, token, refusal, next_token}
use Rattle.tokens.proofs.Ahead.{Ahead, next_ahead}
use Rattle.reading.specs.Steps.{on_next}
use Rattle.reading.specs.Forms.{Formed, FormStep, goes, refused, unread, on_form_step, form_end, form_step, form_from, read_form}
use Rattle.grammar.specs.Rules.{Broken}
use Rattle.grammar.specs.Least.{NotAfter}
use Rattle.grammar.proofs.Order.{from_le, after_trans}
use Rattle.form_grammar.specs.FormRules.{form_role, form_rules, form_end_rules, first, Taken}
use Rattle.form_grammar.specs.FormLeast.{Clean, start, more, Breaks, long, bytes, by, ends, Least, RefusesLeast, AcceptsOthers}
use Rattle.form_grammar.proofs.ByRules.{by_rules, end_by_rules}
use Rattle.form_grammar.proofs.Order.{Firsts, first_cases, FirstLeast, first_least}
use Rattle.form_grammar.proofs.Bytes.{Ordered, After, step_ordered, token_rising, end_rising}

module _ {K : Type 0} where
  not_both : (f : Formed K) (n b : ℕ) → goes f ≡ refused n b → ⊥
  not_both f n b e = let z : ◌≡◌ {A = ℕ} 0 1 = cc in omega arith

  same_number : (n b m c : ℕ) → ◌≡◌ {A = FormStep K} (refused n b) (refused m c) → n ≡ m
  same_number n b m c e = cc

  same_byte : (n b m c : ℕ) → ◌≡◌ {A = FormStep K} (refused n b) (refused m c) → b ≡ c
  same_byte n b m c e = cc

  module _ (words : List ℕ → Option K) (ranges : ℤ → ℤ → Option K) (pl sl : ℕ) (line : List ℕ) where
    abbrev whole : FormStep K
    whole = form_from words ranges (suc (length line)) pl sl line 0 unread

    abbrev turn : ℕ → Formed K → Next → FormStep K
    turn t f n = on_next n (form_end f.stage f (length line)) (λ x i j. on_form_step (form_step words ranges pl sl line f x i j) (λ f₂. form_from words ranges t pl sl line j f₂)) refused

    -- what is left of the line gives what the line gives
    record Left (from : ℕ) (f : Formed K) : Type 0 where
      turns : ℕ
      enough : length line < from + turns
      inside : from ≤ length line
      rest : form_from words ranges turns pl sl line from f ≡ whole

    abbrev Turn : ℕ → Formed K → Type 0
    Turn from f = (t : ℕ) × (length line < from + suc t) × (turn t f (next_token line from) ≡ whole)

    unrolled : (from : ℕ) (f : Formed K) → Left from f → Turn from f
    unrolled from f l = on l.turns l.enough l.rest
      where
        on : (t : ℕ) → length line < from + t → form_from words ranges t pl sl line from f ≡ whole → Turn from f
        on zero h e = absurd (omega (arith, l.inside))
        on (suc t) h e = (t, h, e)

    ahead : (from : ℕ) (n : Next) → next_token line from ≡ n → Ahead from (length line) n
    ahead from n e = subst (Ahead from (length line)) e (next_ahead line from)

    left : {from : ℕ} {f : Formed K} → Clean words ranges pl sl line from f → Left from f
    left start = record { turns = suc (length line); enough = omega arith; inside = omega arith; rest = refl }
    left (more {from} {f} {x} {i} {j} {f₂} c at k s) =
        let u = unrolled from f (left c) in
        let a : (from ≤ i) × (i < j) × (j ≤ length line) = ahead from (token x i j) at in
        record {
          turns = u.0;
          enough = omega (arith, u.1);
          inside = omega arith;
          rest = ap (λ y. on_form_step y (λ f₂. form_from words ranges u.0 pl sl line j f₂)) (sym s) ∙ ap (turn u.0 f) (sym at) ∙ u.2;
        }

    ordered : {from : ℕ} {f : Formed K} → Clean words ranges pl sl line from f → Ordered from f
    ordered start = (omega arith, tt)
    ordered (more {from} {f} {x} {i} {j} {f₂} c at k s) =
        let a : (from ≤ i) × (i < j) × (j ≤ length line) = ahead from (token x i j) at in
        subst (After j) s (step_ordered words ranges pl sl line f x from i j a.0 a.1 (ordered c))

    -- a line that breaks a rule is is_refused, with one that does not come after it
    abbrev Refused : FormStep K → ℕ → ℕ → Type 0
    Refused y m c = (n : ℕ) × (b : ℕ) × (y ≡ refused n b) × NotAfter b n c m × NotAfter 0 10 b n

    short : length line ≤ 60000 → read_form words ranges pl sl line ≡ whole
    unfolding read_form
    short le = cond-false (ltb 60000 (length line)) _ _ (below (cases_Bool (ltb 60000 (length line))))
      where
        below : (ltb 60000 (length line) ≡ true) ⊎ (ltb 60000 (length line) ≡ false) → ltb 60000 (length line) ≡ false
        below (inl e) = absurd (omega (arith, ltb-true 60000 (length line) e))
        below (inr e) = e

    too_long : 60000 < length line → read_form words ranges pl sl line ≡ refused 10 0
    unfolding read_form
    too_long lt = cond-true (ltb 60000 (length line)) _ _ (lt-ltb 60000 (length line) lt)

    ten : (b n : ℕ) → NotAfter 0 20 b n → NotAfter 0 10 b n
    ten b n h = after_trans 0 10 0 20 b n (from_le 0 10 0 20 (omega arith) (omega arith)) h

    token_refused : (from : ℕ) (f : Formed K) (x : Tok) (i j m c : ℕ) → Clean words ranges pl sl line from f → next_token line from ≡ token x i j → Broken (form_rules words ranges pl sl line f i j (form_role f x)) m c → Refused whole m c
    token_refused from f x i j m c k at h =
        let u = unrolled from f (left k) in
        let r = by_rules words ranges pl sl line f x i j in
        let a : (from ≤ i) × (i < j) × (j ≤ length line) = ahead from (token x i j) at in
        let l : FirstLeast (form_rules words ranges pl sl line f i j (form_role f x)) r.0 m c =
        first_least (form_rules words ranges pl sl line f i j (form_role f x)) r.0 m c (token_rising words ranges pl sl line f x from i j a.0 (ordered k)) h in (
          l.0,
          l.1,
          sym u.2 ∙ ap (turn u.0 f) at ∙ ap (λ y. on_form_step y (λ f₂. form_from words ranges u.0 pl sl line j f₂)) (r.1.1 ∙ l.2),
          l.3,
          ten l.1 l.0 l.4,
        )

    end_refused : (from : ℕ) (f : Formed K) (m c : ℕ) → Clean words ranges pl sl line from f → next_token line from ≡ finish → Broken (form_end_rules f.stage f (length line)) m c → Refused whole m c
    end_refused from f m c k at h =
        let u = unrolled from f (left k) in
        let r = end_by_rules f (length line) in
        let l : FirstLeast (form_end_rules f.stage f (length line)) r.0 m c =
        first_least (form_end_rules f.stage f (length line)) r.0 m c (end_rising f from (length line) (ordered k)) h in
        (l.0, l.1, sym u.2 ∙ ap (turn u.0 f) at ∙ r.1.1 ∙ l.2, l.3, ten l.1 l.0 l.4)

    bytes_refused : (from : ℕ) (f : Formed K) (m c : ℕ) → Clean words ranges pl sl line from f → next_token line from ≡ refusal m c → Refused whole m c
    bytes_refused from f m c k at =
        let u = unrolled from f (left k) in
        let a : (11 ≤ m) × (m ≤ 13) × (from ≤ c) × (c < length line) = ahead from (refusal m c) at in
        (m, c, sym u.2 ∙ ap (turn u.0 f) at, inr (refl, omega arith), from_le 0 10 c m (omega arith) (omega arith))

    -- of a line that is not too long, and of any line
    shorter : (m c : ℕ) → Refused whole m c → Refused (read_form words ranges pl sl line) m c
    shorter m c r = on (cases_Bool (ltb 60000 (length line)))
      where
        on : (ltb 60000 (length line) ≡ true) ⊎ (ltb 60000 (length line) ≡ false) → Refused (read_form words ranges pl sl line) m c
        on (inl e) = (10, 0, too_long (ltb-true 60000 (length line) e), after_trans 0 10 r.1 r.0 c m r.4 r.3, inr (refl, omega arith))
        on (inr e) = (r.0, r.1, short (omega (arith, ltb-false 60000 (length line) e)) ∙ r.2, r.3, r.4)

    is_refused : (m c : ℕ) → Breaks words ranges pl sl line m c → Refused (read_form words ranges pl sl line) m c
    is_refused m c (long lt) = (10, 0, too_long lt, inr (refl, omega arith), inr (refl, omega arith))
    is_refused m c (bytes {from} {f} k at) = shorter m c (bytes_refused from f m c k at)
    is_refused m c (by {from} {f} {x} {i} {j} k at h) = shorter m c (token_refused from f x i j m c k at h)
    is_refused m c (ends {from} {f} k at h) = shorter m c (end_refused from f m c k at h)

    -- a line that is is_refused breaks the rule
    abbrev Broke : FormStep K → Type 0
    Broke (goes f) = Unit {0}
    Broke (refused n b) = Breaks words ranges pl sl line n b

    taken_broke : (s : FormStep K) → Taken s → Broke s
    taken_broke (goes f) t = tt
    taken_broke (refused n b) t = absurd t

    end_broke : (from : ℕ) (f : Formed K) → Clean words ranges pl sl line from f → next_token line from ≡ finish → Broke (form_end f.stage f (length line))
    end_broke from f k at =
        let r = end_by_rules f (length line) in
        subst Broke (sym r.1.1) (on r.0 r.1.0 (first_cases (form_end_rules f.stage f (length line)) r.0))
      where
        on : (s : FormStep K) → Taken s → Firsts (form_end_rules f.stage f (length line)) s → Broke (first (form_end_rules f.stage f (length line)) s)
        on s t (inl h) = subst Broke (sym h.1) (taken_broke s t)
        on s t (inr h) = subst Broke (sym h.3) (ends k at h.2)

    broke : (turns from : ℕ) (f : Formed K) → length line < from + turns → from ≤ length line → Clean words ranges pl sl line from f → Broke (form_from words ranges turns pl sl line from f)
    broke zero from f p q k = absurd (omega arith)
    broke (suc turns) from f p q k = on (λ j f₂ p₂ q₂ k₂. broke turns j f₂ p₂ q₂ k₂) (next_token line from) refl (next_ahead line from)
      where
        taken : ((j : ℕ) (f₂ : Formed K) → length line < j + turns → j ≤ length line → Clean words ranges pl sl line j f₂ → Broke (form_from words ranges turns pl sl line j f₂)) → (x : Tok) (i j : ℕ) → next_token line from ≡ token x i j → (from ≤ i) × (i < j) × (j ≤ length line) → (s : FormStep K) → Taken s → form_step words ranges pl sl line f x i j ≡ first (form_rules words ranges pl sl line f i j (form_role f x)) s → Firsts (form_rules words ranges pl sl line f i j (form_role f x)) s → Broke (on_form_step (form_step words ranges pl sl line f x i j) (λ f₂. form_from words ranges turns pl sl line j f₂))
        taken ih x i j at a (goes f₂) t e (inl h) = subst (λ y. Broke (on_form_step y (λ f₂. form_from words ranges turns pl sl line j f₂))) (sym (e ∙ h.1)) (ih j f₂ (omega arith) (omega arith) (more k at h.0 (e ∙ h.1)))
        taken ih x i j at a (refused n b) t e (inl h) = absurd t
        taken ih x i j at a s t e (inr h) = subst (λ y. Broke (on_form_step y (λ f₂. form_from words ranges turns pl sl line j f₂))) (sym (e ∙ h.3)) (by k at h.2)

        on : ((j : ℕ) (f₂ : Formed K) → length line < j + turns → j ≤ length line → Clean words ranges pl sl line j f₂ → Broke (form_from words ranges turns pl sl line j f₂)) → (n : Next) → next_token line from ≡ n → Ahead from (length line) n → Broke (turn turns f n)
        on ih finish at a = end_broke from f k at
        on ih (token x i j) at a =
            let r = by_rules words ranges pl sl line f x i j in
            taken ih x i j at a r.0 r.1.0 r.1.1 (first_cases (form_rules words ranges pl sl line f i j (form_role f x)) r.0)
        on ih (refusal n b) at a = bytes k at

    line_broke : Broke (read_form words ranges pl sl line)
    line_broke = on (cases_Bool (ltb 60000 (length line)))
      where
        on : (ltb 60000 (length line) ≡ true) ⊎ (ltb 60000 (length line) ≡ false) → Broke (read_form words ranges pl sl line)
        on (inl e) = let lt = ltb-true 60000 (length line) e in subst Broke (sym (too_long lt)) (long lt)
        on (inr e) = subst Broke (sym (short (ltb-false 60000 (length line) e))) (broke (suc (length line)) 0 unread (omega arith) (omega arith) start)

    -- the laws

    pub is_least : (n b : ℕ) → read_form words ranges pl sl line ≡ refused n b → Least words ranges pl sl line n b
    is_least n b e = record {
      breaks = subst Broke e line_broke;
      least = λ m c h.
          let r = is_refused m c h in
          let same : refused r.0 r.1 ≡ refused n b = sym r.2 ∙ e in
          subst (λ k. NotAfter b k c m) (same_number r.0 r.1 n b same) (subst (λ k. NotAfter k r.0 c m) (same_byte r.0 r.1 n b same) r.3);
    }

    is_accepted : (f : Formed K) → read_form words ranges pl sl line ≡ goes f → (n b : ℕ) → Breaks words ranges pl sl line n b → ⊥
    is_accepted f e n b h = let r = is_refused n b h in not_both f r.0 r.1 (sym e ∙ r.2)

    equal : (b n c m : ℕ) → NotAfter b n c m → NotAfter c m b n → (b ≡ c) × (n ≡ m)
    equal b n c m (inl p) (inl q) = absurd (omega arith)
    equal b n c m (inl p) (inr q) = absurd (omega arith)
    equal b n c m (inr p) (inl q) = absurd (omega arith)
    equal b n c m (inr p) (inr q) = (p.0, omega arith)

    answered : (n b : ℕ) → Least words ranges pl sl line n b → read_form words ranges pl sl line ≡ refused n b
    answered n b l =
        let r = is_refused n b l.breaks in
        let k = is_least r.0 r.1 r.2 in
        let e = equal r.1 r.0 b n r.3 (l.least r.0 r.1 k.breaks) in
        r.2 ∙ (λ i. refused (e.1 i) (e.0 i))

    is_kept : ((n b : ℕ) → Breaks words ranges pl sl line n b → ⊥) → (f : Formed K) × (read_form words ranges pl sl line ≡ goes f)
    is_kept h = on (read_form words ranges pl sl line) refl line_broke
      where
        on : (y : FormStep K) → read_form words ranges pl sl line ≡ y → Broke y → (f : Formed K) × (read_form words ranges pl sl line ≡ goes f)
        on (goes f) e k = (f, e)
        on (refused n b) e k = absurd (h n b k)

pub refuses_least : {K : Type 0} → RefusesLeast K
refuses_least = record { least = is_least; answers = answered }

pub accepts_others : {K : Type 0} → AcceptsOthers K
accepts_others = record { accepted = is_accepted; accepts = is_kept }
