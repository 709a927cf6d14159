-- The answer to a line is the least of the rules that it breaks.
use Rattle.std.proofs.Common.{◌≡◌, ℕ, zero, suc, ◌+◌, ◌<◌, ◌≤◌, true, false, ltb, ◌⊎◌, List, length, ℤ, Option, sym, refl, ap, ◌∙◌, subst, inl, inr, arith}
use Rattle.std.proofs.lemmas.Bool.{cond-true, cond-false, cases_Bool, lt-ltb, ltb-true, ltb-false}
use Rattle.tokens.specs.Tokens.{Tok, Next, finish, token, refusal, next_token}
use Rattle.tokens.proofs.Ahead.{Ahead, next_ahead}
use Rattle.reading.specs.Drafts.{Draft, nothing}
use Rattle.reading.specs.Steps.{Step, go, fault, on_next, on_step, end_in, step, read_from, read_place}
use Rattle.grammar.specs.Rules.{role_of, Broken, rules, end_rules, first, Taken}
use Rattle.grammar.specs.Least.{NotAfter, Clean, start, more, Breaks, long, bytes, by, ends, Least, RefusesLeast, AcceptsOthers}
use Rattle.grammar.proofs.Order.{from_le, after_trans, Firsts, first_cases, FirstLeast, first_least}
use Rattle.grammar.proofs.ByRules.{by_rules, end_by_rules}
use Rattle.grammar.proofs.Bytes.{Ordered, After, step_ordered, token_rising, end_rising}

module _ {K : Type 0} where
  not_both : (d : Draft K) (n b : ℕ) → go d ≡ fault n b → ⊥
  not_both d n b e = let z : ◌≡◌ {A = ℕ} 0 1 = cc in omega arith

  same_number : (n b m c : ℕ) → ◌≡◌ {A = Step K} (fault n b) (fault m c) → n ≡ m
  same_number n b m c e = cc

  same_byte : (n b m c : ℕ) → ◌≡◌ {A = Step K} (fault n b) (fault m c) → b ≡ c
  same_byte n b m c e = cc

  module _ (words : List ℕ → Option K) (ranges : ℤ → ℤ → Option K) (pl sl : ℕ) (line : List ℕ) where
    abbrev whole : Step K
    whole = read_from words ranges (suc (length line)) pl sl line 0 nothing

    abbrev turn : ℕ → Draft K → Next → Step K
    turn t d n = on_next n (end_in d.mode d (length line)) (λ x i j. on_step (step words ranges pl sl line d x i j) (λ d₂. read_from words ranges t pl sl line j d₂)) fault

    -- what is left of the line gives what the line gives
    record Left (from : ℕ) (d : Draft K) : Type 0 where
      turns : ℕ
      enough : length line < from + turns
      inside : from ≤ length line
      rest : read_from words ranges turns pl sl line from d ≡ whole

    abbrev Turn : ℕ → Draft K → Type 0
    Turn from d = (t : ℕ) × (length line < from + suc t) × (turn t d (next_token line from) ≡ whole)

    unrolled : (from : ℕ) (d : Draft K) → Left from d → Turn from d
    unrolled from d l = on l.turns l.enough l.rest
      where
        on : (t : ℕ) → length line < from + t → read_from words ranges t pl sl line from d ≡ whole → Turn from d
        on zero h e = absurd (omega (arith, l.inside))
        on (suc t) h e = (t, h, e)

    ahead : (from : ℕ) (n : Next) → next_token line from ≡ n → Ahead from (length line) n
    ahead from n e = subst (Ahead from (length line)) e (next_ahead line from)

    left : {from : ℕ} {d : Draft K} → Clean words ranges pl sl line from d → Left from d
    left start = record { turns = suc (length line); enough = omega arith; inside = omega arith; rest = refl }
    left (more {from} {d} {x} {i} {j} {d₂} c f k s) =
        let u = unrolled from d (left c) in
        let a : (from ≤ i) × (i < j) × (j ≤ length line) = ahead from (token x i j) f in
        record {
          turns = u.0;
          enough = omega (arith, u.1);
          inside = omega arith;
          rest = ap (λ y. on_step y (λ d₂. read_from words ranges u.0 pl sl line j d₂)) (sym s) ∙ ap (turn u.0 d) (sym f) ∙ u.2;
        }

    ordered : {from : ℕ} {d : Draft K} → Clean words ranges pl sl line from d → Ordered from d
    ordered start = (omega arith, tt)
    ordered (more {from} {d} {x} {i} {j} {d₂} c f k s) =
        let a : (from ≤ i) × (i < j) × (j ≤ length line) = ahead from (token x i j) f in
        subst (After j) s (step_ordered words ranges pl sl line d x from i j a.0 a.1 (ordered c))

    -- a line that breaks a rule is refused, with one that does not come after it
    abbrev Refused : Step K → ℕ → ℕ → Type 0
    Refused y m c = (n : ℕ) × (b : ℕ) × (y ≡ fault n b) × NotAfter b n c m × NotAfter 0 10 b n

    short : length line ≤ 60000 → read_place words ranges pl sl line ≡ whole
    unfolding read_place
    short le = cond-false (ltb 60000 (length line)) _ _ (below (cases_Bool (ltb 60000 (length line))))
      where
        below : (ltb 60000 (length line) ≡ true) ⊎ (ltb 60000 (length line) ≡ false) → ltb 60000 (length line) ≡ false
        below (inl e) = absurd (omega (arith, ltb-true 60000 (length line) e))
        below (inr e) = e

    too_long : 60000 < length line → read_place words ranges pl sl line ≡ fault 10 0
    unfolding read_place
    too_long lt = cond-true (ltb 60000 (length line)) _ _ (lt-ltb 60000 (length line) lt)

    ten : (b n : ℕ) → NotAfter 0 20 b n → NotAfter 0 10 b n
    ten b n h = after_trans 0 10 0 20 b n (from_le 0 10 0 20 (omega arith) (omega arith)) h

    token_refused : (from : ℕ) (d : Draft K) (x : Tok) (i j m c : ℕ) → Clean words ranges pl sl line from d → next_token line from ≡ token x i j → Broken (rules words ranges pl sl line d i j (role_of d.mode x)) m c → Refused whole m c
    token_refused from d x i j m c k f h =
        let u = unrolled from d (left k) in
        let r = by_rules words ranges pl sl line d x i j in
        let a : (from ≤ i) × (i < j) × (j ≤ length line) = ahead from (token x i j) f in
        let l : FirstLeast (rules words ranges pl sl line d i j (role_of d.mode x)) r.0 m c =
        first_least (rules words ranges pl sl line d i j (role_of d.mode x)) r.0 0 20 m c (inr (refl, omega arith)) (token_rising words ranges pl sl line d x from i j a.0 (ordered k)) h in (
          l.0,
          l.1,
          sym u.2 ∙ ap (turn u.0 d) f ∙ ap (λ y. on_step y (λ d₂. read_from words ranges u.0 pl sl line j d₂)) (r.1.1 ∙ l.2),
          l.3,
          ten l.1 l.0 l.4,
        )

    end_refused : (from : ℕ) (d : Draft K) (m c : ℕ) → Clean words ranges pl sl line from d → next_token line from ≡ finish → Broken (end_rules d.mode d (length line)) m c → Refused whole m c
    end_refused from d m c k f h =
        let u = unrolled from d (left k) in
        let l : FirstLeast (end_rules d.mode d (length line)) (go d) m c =
        first_least (end_rules d.mode d (length line)) (go d) 0 20 m c (inr (refl, omega arith)) (end_rising d from (length line) (ordered k)) h in
        (l.0, l.1, sym u.2 ∙ ap (turn u.0 d) f ∙ end_by_rules d (length line) ∙ l.2, l.3, ten l.1 l.0 l.4)

    bytes_refused : (from : ℕ) (d : Draft K) (m c : ℕ) → Clean words ranges pl sl line from d → next_token line from ≡ refusal m c → Refused whole m c
    bytes_refused from d m c k f =
        let u = unrolled from d (left k) in
        let a : (11 ≤ m) × (m ≤ 13) × (from ≤ c) × (c < length line) = ahead from (refusal m c) f in
        (m, c, sym u.2 ∙ ap (turn u.0 d) f, inr (refl, omega arith), from_le 0 10 c m (omega arith) (omega arith))

    -- of a line that is not too long, and of any line
    shorter : (m c : ℕ) → Refused whole m c → Refused (read_place words ranges pl sl line) m c
    shorter m c r = on (cases_Bool (ltb 60000 (length line)))
      where
        on : (ltb 60000 (length line) ≡ true) ⊎ (ltb 60000 (length line) ≡ false) → Refused (read_place words ranges pl sl line) m c
        on (inl e) = (10, 0, too_long (ltb-true 60000 (length line) e), after_trans 0 10 r.1 r.0 c m r.4 r.3, inr (refl, omega arith))
        on (inr e) = (r.0, r.1, short (omega (arith, ltb-false 60000 (length line) e)) ∙ r.2, r.3, r.4)

    refused : (m c : ℕ) → Breaks words ranges pl sl line m c → Refused (read_place words ranges pl sl line) m c
    refused m c (long lt) = (10, 0, too_long lt, inr (refl, omega arith), inr (refl, omega arith))
    refused m c (bytes {from} {d} k f) = shorter m c (bytes_refused from d m c k f)
    refused m c (by {from} {d} {x} {i} {j} k f h) = shorter m c (token_refused from d x i j m c k f h)
    refused m c (ends {from} {d} k f h) = shorter m c (end_refused from d m c k f h)

    -- a line that is refused breaks the rule
    abbrev Broke : Step K → Type 0
    Broke (go d) = Unit {0}
    Broke (fault n b) = Breaks words ranges pl sl line n b

    end_broke : (from : ℕ) (d : Draft K) → Clean words ranges pl sl line from d → next_token line from ≡ finish → Broke (end_in d.mode d (length line))
    end_broke from d k f = subst Broke (sym (end_by_rules d (length line))) (on (first_cases (end_rules d.mode d (length line)) (go d)))
      where
        on : Firsts (end_rules d.mode d (length line)) (go d) → Broke (first (end_rules d.mode d (length line)) (go d))
        on (inl h) = subst Broke (sym h.1) tt
        on (inr h) = subst Broke (sym h.3) (ends k f h.2)

    broke : (turns from : ℕ) (d : Draft K) → length line < from + turns → from ≤ length line → Clean words ranges pl sl line from d → Broke (read_from words ranges turns pl sl line from d)
    broke zero from d p q k = absurd (omega arith)
    broke (suc turns) from d p q k = on (λ j d₂ p₂ q₂ k₂. broke turns j d₂ p₂ q₂ k₂) (next_token line from) refl (next_ahead line from)
      where
        taken : ((j : ℕ) (d₂ : Draft K) → length line < j + turns → j ≤ length line → Clean words ranges pl sl line j d₂ → Broke (read_from words ranges turns pl sl line j d₂)) → (x : Tok) (i j : ℕ) → next_token line from ≡ token x i j → (from ≤ i) × (i < j) × (j ≤ length line) → (s : Step K) → Taken s → step words ranges pl sl line d x i j ≡ first (rules words ranges pl sl line d i j (role_of d.mode x)) s → Firsts (rules words ranges pl sl line d i j (role_of d.mode x)) s → Broke (on_step (step words ranges pl sl line d x i j) (λ d₂. read_from words ranges turns pl sl line j d₂))
        taken ih x i j f a (go d₂) t e (inl h) = subst (λ y. Broke (on_step y (λ d₂. read_from words ranges turns pl sl line j d₂))) (sym (e ∙ h.1)) (ih j d₂ (omega arith) (omega arith) (more k f h.0 (e ∙ h.1)))
        taken ih x i j f a (fault n b) t e (inl h) = absurd t
        taken ih x i j f a s t e (inr h) = subst (λ y. Broke (on_step y (λ d₂. read_from words ranges turns pl sl line j d₂))) (sym (e ∙ h.3)) (by k f h.2)

        on : ((j : ℕ) (d₂ : Draft K) → length line < j + turns → j ≤ length line → Clean words ranges pl sl line j d₂ → Broke (read_from words ranges turns pl sl line j d₂)) → (n : Next) → next_token line from ≡ n → Ahead from (length line) n → Broke (turn turns d n)
        on ih finish f a = end_broke from d k f
        on ih (token x i j) f a =
            let r = by_rules words ranges pl sl line d x i j in
            taken ih x i j f a r.0 r.1.0 r.1.1 (first_cases (rules words ranges pl sl line d i j (role_of d.mode x)) r.0)
        on ih (refusal n b) f a = bytes k f

    line_broke : Broke (read_place words ranges pl sl line)
    line_broke = on (cases_Bool (ltb 60000 (length line)))
      where
        on : (ltb 60000 (length line) ≡ true) ⊎ (ltb 60000 (length line) ≡ false) → Broke (read_place words ranges pl sl line)
        on (inl e) = let lt = ltb-true 60000 (length line) e in subst Broke (sym (too_long lt)) (long lt)
        on (inr e) = subst Broke (sym (short (ltb-false 60000 (length line) e))) (broke (suc (length line)) 0 nothing (omega arith) (omega arith) start)

    -- the laws

    pub is_least : (n b : ℕ) → read_place words ranges pl sl line ≡ fault n b → Least words ranges pl sl line n b
    is_least n b e = record {
      breaks = subst Broke e line_broke;
      least = λ m c h.
          let r = refused m c h in
          let same : fault r.0 r.1 ≡ fault n b = sym r.2 ∙ e in
          subst (λ k. NotAfter b k c m) (same_number r.0 r.1 n b same) (subst (λ k. NotAfter k r.0 c m) (same_byte r.0 r.1 n b same) r.3);
    }

    is_accepted : (d : Draft K) → read_place words ranges pl sl line ≡ go d → (n b : ℕ) → Breaks words ranges pl sl line n b → ⊥
    is_accepted d e n b h = let r = refused n b h in not_both d r.0 r.1 (sym e ∙ r.2)

    equal : (b n c m : ℕ) → NotAfter b n c m → NotAfter c m b n → (b ≡ c) × (n ≡ m)
    equal b n c m (inl p) (inl q) = absurd (omega arith)
    equal b n c m (inl p) (inr q) = absurd (omega arith)
    equal b n c m (inr p) (inl q) = absurd (omega arith)
    equal b n c m (inr p) (inr q) = (p.0, omega arith)

    answered : (n b : ℕ) → Least words ranges pl sl line n b → read_place words ranges pl sl line ≡ fault n b
    answered n b l =
        let r = refused n b l.breaks in
        let k = is_least r.0 r.1 r.2 in
        let e = equal r.1 r.0 b n r.3 (l.least r.0 r.1 k.breaks) in
        r.2 ∙ (λ i. fault (e.1 i) (e.0 i))

    is_kept : ((n b : ℕ) → Breaks words ranges pl sl line n b → ⊥) → (d : Draft K) × (read_place words ranges pl sl line ≡ go d)
    is_kept h = on (read_place words ranges pl sl line) refl line_broke
      where
        on : (y : Step K) → read_place words ranges pl sl line ≡ y → Broke y → (d : Draft K) × (read_place words ranges pl sl line ≡ go d)
        on (go d) e k = (d, e)
        on (fault n b) e k = absurd (h n b k)

pub refuses_least : {K : Type 0} → RefusesLeast K
refuses_least = record { refused = is_least; refuses = answered }

pub accepts_others : {K : Type 0} → AcceptsOthers K
accepts_others = record { accepted = is_accepted; accepts = is_kept }
