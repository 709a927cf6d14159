-- A token that is a word has the form of one, and one of at most twelve bytes is a name.
use Rattle.std.proofs.Common.{◌≡◌, ℕ, zero, suc, ◌+◌, ◌<◌, ◌≤◌, true, false, eqb, leb, List, [], ◌∷◌, length, get_or, take, drop, ℤ, Some, None, Option, Result, sym, ap, ◌∙◌, subst, inl, inr, ⊎_elim, arith}
use Rattle.std.specs.Int.{is_in_range}
use Rattle.std.specs.Option.{option_transpose}
use Rattle.std.proofs.lemmas.List.{get_or-take, length-take-le}
use Rattle.std.proofs.lemmas.List.Sums.{prefix_len-le-length}
use Rattle.std.proofs.lemmas.Bool.{cond_both, cond-true, and_parts, or_cases, or_left, eqb-true, leb-true}
use Rattle.names.specs.Names.{Letter, NameByte, Name}
use Rattle.tokens.specs.declared.token.class.Class.{Class}
use Rattle.tokens.specs.declared.token.class.Class.TheVariants.{Digit, WordByte}
use Rattle.tokens.specs.declared.fault.TextFault.{TextFault}
use Rattle.tokens.specs.declared.token.Lexeme.{Lexeme}
use Rattle.tokens.specs.declared.token.Lexemes.{Lexemes}
use Rattle.tokens.specs.Answers.{answer, Gives}
use Rattle.tokens.specs.Tokens.{Tok, Next, finish, token, refusal, member, run, number_of, number_token, is_mark, token_at, first_token, after_spaces, next_token}
use Rattle.vocabulary.specs.Texts.{Word}
use Rattle.reading.specs.Held.{Worded}

abbrev Next-worded : Next → Type 0
Next-worded finish = Unit {0}
Next-worded (token x i j) = Worded x
Next-worded (refusal n b) = Unit {0}

-- the bytes of a run are of its class
run_all : (c : Class) (bs : List ℕ) (i : ℕ) → i < run c bs → member c (get_or bs i 0) ≡ true
run_all c [] i lt = absurd (omega arith)
run_all c (b ∷ bs) i lt =
    cond_both (member c b) (1 + run c bs) 0 (λ n. i < n → member c (get_or (b ∷ bs) i 0) ≡ true) (λ e more. at i e more (run_all c bs)) (λ _ none. absurd (omega arith)) lt
  where
    at : (i : ℕ) → member c b ≡ true → i < 1 + run c bs → ((k : ℕ) → k < run c bs → member c (get_or bs k 0) ≡ true) → member c (get_or (b ∷ bs) i 0) ≡ true
    at zero e more rest = e
    at (suc i) e more rest = rest i (omega arith)

letter : (b : ℕ) → is_in_range 97 122 b ≡ true → Letter b
letter b e = let p = and_parts (leb 97 b) (leb b 122) e in record { low = leb-true 97 b p.0; high = leb-true b 122 p.1 }

name_byte : (b : ℕ) → member WordByte b ≡ true → NameByte b
name_byte b e =
    ⊎_elim (λ l. inl (letter b l))
    (λ o. ⊎_elim (λ d. let p = and_parts (leb 48 b) (leb b 57) d in inr (inl (record { low = leb-true 48 b p.0; high = leb-true b 57 p.1 }))) (λ u. inr (inr (eqb-true b 95 u))) (or_cases (is_in_range 48 57 b) _ o))
    (or_cases (is_in_range 97 122 b) _ e)

-- the bytes of a run that begins with a letter are a word
run_word : (b : ℕ) (bs : List ℕ) → is_in_range 97 122 b ≡ true → run WordByte (b ∷ bs) ≤ 24 → Word (take (run WordByte (b ∷ bs)) (b ∷ bs))
run_word b bs l few =
    let n = run WordByte (b ∷ bs) in
    let some : 0 < n = omega (arith, cond-true (member WordByte b) (1 + run WordByte bs) 0 (or_left (is_in_range 97 122 b) _ l)) in
    let len : length (take n (b ∷ bs)) ≡ n = length-take-le n (b ∷ bs) (prefix_len-le-length (member WordByte) (b ∷ bs)) in
    record {
      some = omega arith;
      few = omega arith;
      first = subst Letter (sym (get_or-take n (b ∷ bs) 0 0 some)) (letter b l);
      others = λ i lt. subst NameByte (sym (get_or-take n (b ∷ bs) i 0 (omega arith))) (name_byte _ (run_all WordByte (b ∷ bs) i (omega arith)));
    }

number_worded : (o : Option ℤ) (i j : ℕ) → Next-worded (number_token o i j)
number_worded (Some n) i j = tt
number_worded None i j = tt

token_worded : (b : ℕ) (bs : List ℕ) (i : ℕ) → Next-worded (token_at b bs i)
token_worded b bs i =
    cond_both (is_mark b) _ _ Next-worded (λ _. tt) λ _.
    cond_both (eqb b 46) _ _ Next-worded (λ _. cond_both (eqb (get_or bs 0 0) 46) _ _ Next-worded (λ _. tt) (λ _. tt)) λ _.
    cond_both (eqb b 45) _ _ Next-worded (λ _. number_worded (number_of true (take (run Digit bs) bs)) i _) λ _.
    cond_both (is_in_range 48 57 b) _ _ Next-worded (λ _. number_worded (number_of false (take (run Digit (b ∷ bs)) (b ∷ bs))) i _) λ _.
    cond_both (is_in_range 97 122 b) _ _ Next-worded (λ l. cond_both (leb (run WordByte (b ∷ bs)) 24) _ _ Next-worded (λ few. run_word b bs l (leb-true _ 24 few)) (λ _. tt)) λ _. tt

first_worded : (bs : List ℕ) (i : ℕ) → Next-worded (first_token bs i)
first_worded [] i = tt
first_worded (b ∷ bs) i = token_worded b bs i

pub next_worded : (line : List ℕ) (from : ℕ) (x : Tok) (i j : ℕ) → token x i j ≡ next_token line from → Worded x
next_worded line from x i j e = subst Next-worded (sym e) (first_worded (drop (after_spaces line from) line) (after_spaces line from))

pub short_name : (w : List ℕ) → Word w → length w ≤ 12 → Name w
short_name w h few = record { some = h.some; few = few; first = h.first; others = h.others }

-- what a call of the line's tokens says of the line
pub told : (s t : Lexemes) (line : List ℕ) (r : Option (Result Lexeme TextFault)) → Gives s r t → s.line.now ≡ line → answer (option_transpose r) ≡ next_token line s.from
told s t line r g e = g.answer ∙ ap (λ l. next_token l s.from) e
