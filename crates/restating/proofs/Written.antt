-- What is written is read: where the bytes of a text stand in a line, its tokens stand next, one after another.
use Rattle.std.proofs.Common.{◌≡◌, ℕ, suc, ◌+◌, ◌<◌, true, List, [], ◌∷◌, ◌++◌, length, get_or, drop, ℤ, refl, ap, ◌∙◌, inl, inr, arith}
use Rattle.std.specs.Fmt.{signed_decimal}
use Rattle.std.proofs.lemmas.List.{append_assoc, length-append}
use Rattle.std.proofs.lemmas.Int.{ints}
use Rattle.std.proofs.lemmas.Bool.{and_from}
use Rattle.std.proofs.lemmas.Bool.Decides.{nat_tests}
use Rattle.names.specs.Names.{NameByte}
use Rattle.tokens.specs.declared.token.class.Class.TheVariants.{WordByte}
use Rattle.tokens.specs.Tokens as line
use Rattle.tokens.specs.Tokens.{Tok, mark, number, token, member, run, next_token}
use Rattle.tokens.proofs.Back.{all_in}
use Rattle.tokens.proofs.Next.{drop_past, next_mark, next_dots, next_word, next_number}
use Rattle.vocabulary.specs.Texts.{Text, word, range, bytes, Word, Ends, Writable}

-- the tokens of a text
abbrev pub tokens : Text → List Tok
tokens (word w) = line.word w ∷ []
tokens (range low high) = mark 91 ∷ number low ∷ mark 46 ∷ number high ∷ mark 93 ∷ []

-- from place i on these tokens stand next, one right after another, and the last ends at place j
abbrev pub Stand : List ℕ → ℕ → List Tok → ℕ → Type 0
Stand bs i [] j = i ≡ j
Stand bs i (x ∷ xs) j = (m : ℕ) × ((next_token bs i ≡ token x i m) × Stand bs m xs j)

name_byte : (b : ℕ) → NameByte b → member WordByte b ≡ true
name_byte b (inl letter) = grind (arith, nat_tests)
name_byte b (inr (inl digit)) = grind (arith, nat_tests)
name_byte b (inr (inr underscore)) = grind (arith, nat_tests)

name_bytes : (w : List ℕ) → ((i : ℕ) → i < length w → NameByte (get_or w i 0)) → all_in WordByte w ≡ true
name_bytes [] h = refl
name_bytes (b ∷ bs) h =
    and_from (member WordByte b) (all_in WordByte bs) (name_byte b (h 0 (omega arith))) (name_bytes bs (λ i lt. h (suc i) (omega arith)))

word_stands : (bs : List ℕ) (i : ℕ) (w rest : List ℕ) → Word w → run WordByte rest ≡ 0 → drop i bs ≡ w ++ rest → next_token bs i ≡ token (line.word w) i (i + length w)
word_stands bs i w rest h e at = next_word bs i w rest (h.first.low, h.first.high) (name_bytes w h.others) h.few e at

range_stands : (bs : List ℕ) (i : ℕ) (low high : ℤ) (rest : List ℕ) → Ends low high → drop i bs ≡ bytes (range low high) ++ rest → Stand bs i (tokens (range low high)) (i + length (bytes (range low high)))
range_stands bs i low high rest h e =
    let l = signed_decimal low in
    let u = signed_decimal high in
    let at : drop i bs ≡ 91 ∷ (l ++ (46 ∷ 46 ∷ (u ++ (93 ∷ rest)))) =
    e ∙ ap (λ x. 91 ∷ x) (append_assoc l (46 ∷ 46 ∷ (u ++ (93 ∷ []))) rest ∙ ap (λ x. l ++ (46 ∷ 46 ∷ x)) (append_assoc u (93 ∷ []) rest)) in
    let at_low : drop (i + 1) bs ≡ l ++ (46 ∷ 46 ∷ (u ++ (93 ∷ rest))) = drop_past bs i (91 ∷ []) _ at in
    let at_dots : drop (i + 1 + length l) bs ≡ 46 ∷ 46 ∷ (u ++ (93 ∷ rest)) = drop_past bs (i + 1) l _ at_low in
    let at_high : drop (i + 1 + length l + 2) bs ≡ u ++ (93 ∷ rest) = drop_past bs (i + 1 + length l) (46 ∷ 46 ∷ []) _ at_dots in
    let at_end : drop (i + 1 + length l + 2 + length u) bs ≡ 93 ∷ rest = drop_past bs (i + 1 + length l + 2) u (93 ∷ rest) at_high in (
      i + 1,
      (
        next_mark bs i 91 _ refl at,
        (
          i + 1 + length l,
          (
            next_number bs (i + 1) low _ h.least (omega (arith, ints)) refl at_low,
            (
              i + 1 + length l + 2,
              (
                next_dots bs (i + 1 + length l) _ at_dots,
                (
                  i + 1 + length l + 2 + length u,
                  (
                    next_number bs (i + 1 + length l + 2) high _ (omega (arith, ints)) h.most refl at_high,
                    (i + 1 + length l + 2 + length u + 1, (next_mark bs (i + 1 + length l + 2 + length u) 93 rest refl at_end, simp length-append (omega arith))),
                  ),
                ),
              ),
            ),
          ),
        ),
      ),
    )

-- the tokens of a text that can stand in a line stand where its bytes do, if no byte of a word follows
pub stands : (t : Text) (bs : List ℕ) (i : ℕ) (rest : List ℕ) → Writable t → run WordByte rest ≡ 0 → drop i bs ≡ bytes t ++ rest → Stand bs i (tokens t) (i + length (bytes t))
stands (word w) bs i rest h none e = (i + length w, (word_stands bs i w rest h none e, refl))
stands (range low high) bs i rest h none e = range_stands bs i low high rest h e
