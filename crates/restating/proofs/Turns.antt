-- Reading a line token by token: what is left of the line after a draft, and one token more.
use Rattle.std.proofs.Common.{◌≡◌, ℕ, zero, suc, ◌+◌, ◌<◌, ◌≤◌, true, List, [], ◌∷◌, ◌++◌, length, get_or, drop, ℤ, pos, negsuc, ◌≤ℤ◌, Option, sym, refl, ap, ◌∙◌, subst, arith, length-drop}
use Rattle.std.specs.Int.{IsInRange}
use Rattle.std.specs.Fmt.{signed_decimal}
use Rattle.std.specs.List.{AllByRecursion}
use Rattle.std.proofs.lemmas.List.{drop-drop, drop_at}
use Rattle.tokens.specs.Tokens.{Tok, mark, word, number, Next, finish, token, is_mark, next_token}
use Rattle.tokens.proofs.Ahead.{Ahead, next_ahead}
use Rattle.tokens.proofs.Next.{drop_past, next_end, next_space, next_mark, next_dots}
use Rattle.tokens.proofs.Stops.{Stops, WordLike, at_word, at_number}
use Rattle.reading.specs.Drafts.{Draft, nothing}
use Rattle.reading.specs.Steps.{Step, go, fault, on_next, on_step, end_in, step, read_from}

module _ {K : Type 0} (words : List ℕ → Option K) (ranges : ℤ → ℤ → Option K) (pl sl : ℕ) (line : List ℕ) where
  -- the line comes to the draft d, and the bytes `rest` are left of it
  pub record Reading (rest : List ℕ) (d : Draft K) : Type 0 where
    pub from : ℕ
    pub here : drop from line ≡ rest
    pub turns : ℕ
    pub enough : length line < from + turns
    pub inside : from ≤ length line
    pub goes : read_from words ranges turns pl sl line from d ≡ read_from words ranges (suc (length line)) pl sl line 0 nothing

  pub starts : Reading line nothing
  starts = record { from = 0; here = refl; turns = suc (length line); enough = omega arith; inside = omega arith; goes = refl }

  turn : ℕ → Draft K → Next → Step K
  turn t d n = on_next n (end_in d.mode d (length line)) (λ x i j. on_step (step words ranges pl sl line d x i j) (λ d₂. read_from words ranges t pl sl line j d₂)) fault

  module _ {rest : List ℕ} {d : Draft K} (r : Reading rest d) where
    abbrev Turn : Type 0
    Turn = (t : ℕ) × (length line < r.from + suc t) × (turn t d (next_token line r.from) ≡ read_from words ranges (suc (length line)) pl sl line 0 nothing)

    unrolled : Turn
    unfolding turn
    unrolled = by r.turns r.enough r.goes
      where
        by : (t : ℕ) → length line < r.from + t → read_from words ranges t pl sl line r.from d ≡ read_from words ranges (suc (length line)) pl sl line 0 nothing → Turn
        by zero h e = absurd (omega (arith, r.inside))
        by (suc t) h e = (t, h, e)

    pub ended : next_token line r.from ≡ finish → read_from words ranges (suc (length line)) pl sl line 0 nothing ≡ end_in d.mode d (length line)
    unfolding turn
    ended e = sym unrolled.2 ∙ ap (turn unrolled.0 d) e

    -- one token more
    more : (x : Tok) (i n : ℕ) (later : List ℕ) (d₂ : Draft K) → next_token line r.from ≡ token x i (r.from + n) → drop n rest ≡ later
        → step words ranges pl sl line d x i (r.from + n) ≡ go d₂ → Reading later d₂
    unfolding turn
    more x i n later d₂ e l k =
        let a : Ahead r.from (length line) (token x i (r.from + n)) = subst (Ahead r.from (length line)) e (next_ahead line r.from) in
        record {
          from = r.from + n;
          here = sym (drop-drop n r.from line) ∙ ap (drop n) r.here ∙ l;
          turns = unrolled.0;
          enough = omega (arith, unrolled.1);
          inside = omega arith;
          goes = ap (λ s. on_step s (λ d₂. read_from words ranges unrolled.0 pl sl line (r.from + n) d₂)) (sym k) ∙ ap (turn unrolled.0 d) (sym e) ∙ unrolled.2;
        }

  pub at_last : {d : Draft K} → Reading [] d → read_from words ranges (suc (length line)) pl sl line 0 nothing ≡ end_in d.mode d (length line)
  at_last r = ended r (next_end line r.from r.here)

  pub skip : {rest : List ℕ} {d : Draft K} → Reading (32 ∷ rest) d → Reading rest d
  unfolding turn
  skip {rest} {d} r =
      let l = ap length r.here in
      let n = length-drop r.from line in
      record {
        from = r.from + 1;
        here = drop_past line r.from (32 ∷ []) rest r.here;
        turns = suc (unrolled r).0;
        enough = omega (arith, (unrolled r).1);
        inside = omega arith;
        goes = ap (turn (unrolled r).0 d) (sym (next_space line r.from rest r.here)) ∙ (unrolled r).2;
      }

  -- what one token gives may depend on the place where it stands
  abbrev pub Reads : List ℕ → (ℕ → Draft K) → Type 0
  Reads rest f = (i : ℕ) × Reading rest (f i)

  module _ {d : Draft K} (f : ℕ → Draft K) (rest : List ℕ) where
    pub reads_mark : (b : ℕ) → is_mark b ≡ true → Reading (b ∷ rest) d → ((i j : ℕ) → step words ranges pl sl line d (mark b) i j ≡ go (f i)) → Reads rest f
    reads_mark b m r k = (r.from, more r (mark b) r.from 1 rest (f r.from) (next_mark line r.from b rest m r.here) refl (k r.from (r.from + 1)))

    pub reads_dots : Reading (46 ∷ 46 ∷ rest) d → ((i j : ℕ) → step words ranges pl sl line d (mark 46) i j ≡ go (f i)) → Reads rest f
    reads_dots r k = (r.from, more r (mark 46) r.from 2 rest (f r.from) (next_dots line r.from rest r.here) refl (k r.from (r.from + 2)))

    pub reads_word : (w : List ℕ) → IsInRange 97 122 (get_or w 0 0) → AllByRecursion WordLike w → length w ≤ 24 → Stops rest → Reading (w ++ rest) d
        → ((i j : ℕ) → step words ranges pl sl line d (word w) i j ≡ go (f i)) → Reads rest f
    reads_word w first all few stops r k = (
      r.from,
      more r (word w) r.from (length w) rest (f r.from) (at_word line r.from rest stops w first all few r.here) (drop_at w rest (length w) refl) (k r.from (r.from + length w)),
    )

    pub reads_number : (z : ℤ) → negsuc 2147483647 ≤ℤ z → z ≤ℤ pos 2147483647 → Stops rest → Reading (signed_decimal z ++ rest) d
        → ((i j : ℕ) → step words ranges pl sl line d (number z) i j ≡ go (f i)) → Reads rest f
    reads_number z low high stops r k = (
      r.from,
      more r (number z) r.from (length (signed_decimal z)) rest (f r.from) (at_number line r.from rest stops z low high r.here) (drop_at (signed_decimal z) rest (length (signed_decimal z)) refl)
          (k r.from (r.from + length (signed_decimal z))),
    )
