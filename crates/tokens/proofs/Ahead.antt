-- What stands next stands on the line, from where it was looked for on.
use Rattle.std.proofs.Common.{◌≡◌, ℕ, ◌+◌, ◌<◌, ◌≤◌, true, false, eqb, leb, List, [], ◌∷◌, length, get_or, take, drop, ℤ, Some, None, Option, sym, subst, ⊎_elim, arith, length-drop}
use Rattle.std.specs.Int.{is_in_range}
use Rattle.std.proofs.lemmas.List.{drop_more, drop_all}
use Rattle.std.proofs.lemmas.List.Sums.{prefix_len-le-length}
use Rattle.std.proofs.lemmas.Bool.{cond_both, cond-true, cases_lt, eqb-true, or_left}
use Rattle.tokens.specs.declared.token.class.Class.{Class}
use Rattle.tokens.specs.declared.token.class.Class.TheVariants.{Digit, WordByte}
use Rattle.tokens.specs.Tokens.{Next, finish, token, refusal, member, run, number_of, number_token, is_mark, token_at, first_token, after_spaces, next_token}
pub use Rattle.tokens.specs.Tokens.{Ahead}

number_ahead : (o : Option ℤ) (i j hi : ℕ) → i < j → j ≤ hi → Ahead i hi (number_token o i j)
number_ahead (Some n) i j hi p q = omega arith
number_ahead None i j hi p q = omega arith

run_first : (c : Class) (b : ℕ) (bs : List ℕ) → member c b ≡ true → run c (b ∷ bs) ≡ 1 + run c bs
run_first c b bs e = cond-true (member c b) (1 + run c bs) 0 e

second : (bs : List ℕ) → get_or bs 0 0 ≡ 46 → 0 < length bs
second [] e = absurd (omega arith)
second (b ∷ bs) e = omega arith

pub token_ahead : (b : ℕ) (bs : List ℕ) (i : ℕ) → Ahead i (i + 1 + length bs) (token_at b bs i)
token_ahead b bs i =
    cond_both (is_mark b) _ _ P (λ _. omega arith) λ _.
    cond_both (eqb b 46) _ _ P (λ _. cond_both (eqb (get_or bs 0 0) 46) _ _ P (λ e. omega (arith, second bs (eqb-true _ 46 e))) (λ _. omega arith)) λ _.
    cond_both (eqb b 45) _ _ P (λ _. number_ahead (number_of true (take (run Digit bs) bs)) i (i + 1 + run Digit bs) (i + 1 + length bs) (omega arith) (omega (arith, prefix_len-le-length (member Digit) bs))) λ _.
    cond_both (is_in_range 48 57 b) _ _ P (λ e. number_ahead (number_of false (take (run Digit (b ∷ bs)) (b ∷ bs))) i (i + run Digit (b ∷ bs)) (i + 1 + length bs) (omega (arith, run_first Digit b bs e)) (omega (arith, prefix_len-le-length (member Digit) (b ∷ bs)))) λ _.
    cond_both (is_in_range 97 122 b) _ _ P (λ e. cond_both (leb (run WordByte (b ∷ bs)) 24) _ _ P (λ _. omega (arith, run_first WordByte b bs (or_left (is_in_range 97 122 b) _ e), prefix_len-le-length (member WordByte) (b ∷ bs))) (λ _. omega arith)) λ _. omega arith
  where
    P : Next → Type 0
    P = Ahead i (i + 1 + length bs)

pub weaker : (lo hi lo₂ hi₂ : ℕ) (n : Next) → lo₂ ≤ lo → hi ≤ hi₂ → Ahead lo hi n → Ahead lo₂ hi₂ n
weaker lo hi lo₂ hi₂ finish p q a = tt
weaker lo hi lo₂ hi₂ (token x i j) p q a = omega arith
weaker lo hi lo₂ hi₂ (refusal n b) p q a = omega arith

pub next_ahead : (line : List ℕ) (from : ℕ) → Ahead from (length line) (next_token line from)
next_ahead line from = go (after_spaces line from) (omega arith)
  where
    go : (s : ℕ) → from ≤ s → Ahead from (length line) (first_token (drop s line) s)
    go s le =
        ⊎_elim
        (λ lt. subst (λ l. Ahead from (length line) (first_token l s)) (sym (drop_more line s 0 lt))
        (weaker s (s + 1 + length (drop (s + 1) line)) from (length line) _ le (omega (arith, length-drop (s + 1) line)) (token_ahead (get_or line s 0) (drop (s + 1) line) s)))
        (λ ge. subst (λ l. Ahead from (length line) (first_token l s)) (sym (drop_all s line ge)) tt)
        (cases_lt s (length line))

pub at_ahead : (line : List ℕ) (s : ℕ) (n : Next) → s < length line → n ≡ token_at (get_or line s 0) (drop (s + 1) line) s → Ahead s (length line) n
at_ahead line s n lt e =
    subst (Ahead s (length line)) (sym e)
    (weaker s (s + 1 + length (drop (s + 1) line)) s (length line) _ (omega arith) (omega (arith, length-drop (s + 1) line)) (token_ahead (get_or line s 0) (drop (s + 1) line) s))
