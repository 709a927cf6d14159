-- What calls and runs give.
use Rattle.std.proofs.Common.{◌≡◌, ℕ, min, Bool, true, false, leb, List, [], ◌∷◌, ◌++◌, map, length, take, drop, sym, refl, ap, ◌∙◌, ⊎_elim, arith}
use Rattle.std.specs.List.{flat_map}
use Rattle.std.proofs.lemmas.List.{append_assoc, append-nil, map-append, map_push, take-append-drop, length-append, take_all}
use Rattle.std.proofs.lemmas.Bool.{cases_Bool, le-leb, lt-leb, leb-false}
use Rattle.lines.specs.declared.reader.Lines.{Lines}
use Rattle.lines.specs.declared.reader.Fed.{Fed}
use Rattle.lines.specs.Lines.{Given, whole, given_for, lines, front, closed, last}
use Rattle.lines.specs.Reading.{limit, line_so_far, pending, extended, some, Feeds, given_if, SoFar, Lasting, Complete, Run, at_end, used_up, fed, GivesLines}
use Rattle.lines.proofs.Cuts.{Found, Missing, front_cases, front_plain, cut_lines, cut_none, cut_more, cut_closed}

-- a line is the same whether its bytes come at once or in two parts
extended_given : (most : ℕ) (bytes more : List ℕ) → extended most (given_for most bytes) more ≡ given_for most (bytes ++ more)
extended_given most bytes more =
    ⊎_elim
    (λ (t : leb (length bytes) most ≡ true). simp t)
    (λ (f : leb (length bytes) most ≡ false).
    let long : leb (length (bytes ++ more)) most ≡ false =
    lt-leb (length (bytes ++ more)) most (omega (arith, leb-false (length bytes) most f, length-append bytes more)) in
    simp (f, long))
    (cases_Bool (leb (length bytes) most))

given_none : (most : ℕ) → whole [] ≡ given_for most []
given_none most = let t : leb 0 most ≡ true = le-leb 0 most (omega arith) in simp t

-- at the start
pub so_far_none : (s : Lines) → pending s ≡ whole [] → SoFar [] [] s
so_far_none s holds =
    record { ended = []; rest = []; cut = cut_none; given = refl; holds = holds ∙ given_none (limit s) }

module _ (s : Lines) (piece : List ℕ) (r : Fed) (t : Lines) (f : Feeds s piece r t) where
  same_limit : limit t ≡ limit s
  same_limit = ap (λ (n : ℕ). min 60000 n) f.kept.room

  -- the line that the call leaves
  line_is : (rest : List ℕ) → pending s ≡ given_for (limit s) rest → line_so_far t ≡ given_for (limit t) (rest ++ front piece)
  line_is rest holds =
      f.line
      ∙ ap (λ (g : Given). extended (limit s) g (front piece)) holds
      ∙ extended_given (limit s) rest (front piece)
      ∙ ap (λ (n : ℕ). given_for n (rest ++ front piece)) (sym same_limit)

  so_far_found : Found piece → Lasting s piece r t
  so_far_found found past gave far =
      let e = found.is in
      let used : take r.used piece ≡ closed (front piece) =
      ap (λ (n : ℕ). take n piece) (simp e at f.used) ∙ found.taken in
      let line = far.rest ++ front piece in
      let one : given_if r.ended (line_so_far t) ≡ given_for (limit t) line ∷ [] = simp (f.ended, e, line_is far.rest far.holds) in
      let before : gave ≡ map (given_for (limit t)) far.ended = simp same_limit far.given in
      let over : t.ended ≡ true = f.over ∙ e in
      record {
        ended = far.ended ++ line ∷ [];
        rest = [];
        cut = rw used (cut_closed past far.ended far.rest (front piece) far.cut (front_plain piece));
        given = simp (one, before, map_push);
        holds = simp over (given_none (limit t));
      }

  so_far_missing : Missing piece → Lasting s piece r t
  so_far_missing missing past gave far =
      let e = missing.is in
      let used : take r.used piece ≡ front piece =
      ap (λ (n : ℕ). take n piece) (simp e at f.used) ∙ take_all (length piece) piece (omega arith) ∙ sym missing.same in
      let none : given_if r.ended (line_so_far t) ≡ [] = simp (f.ended, e) in
      let before : gave ≡ map (given_for (limit t)) far.ended = simp same_limit far.given in
      let over : t.ended ≡ false = f.over ∙ e in
      record {
        ended = far.ended;
        rest = far.rest ++ front piece;
        cut = rw used (cut_more past far.ended far.rest (front piece) far.cut (front_plain piece));
        given = simp (none, append-nil) before;
        holds = simp over (line_is far.rest far.holds);
      }

  pub so_far_fed : Lasting s piece r t
  so_far_fed past gave far =
      ⊎_elim
      (λ found. so_far_found found past gave far)
      (λ missing. so_far_missing missing past gave far)
      (front_cases piece)

-- what the end of the input gives
last_given : (most : ℕ) (rest : List ℕ) → given_if (some (given_for most rest)) (given_for most rest) ≡ map (given_for most) (last rest)
last_given most [] = let t : leb 0 most ≡ true = le-leb 0 most (omega arith) in simp t
last_given most (b ∷ bs) =
    ⊎_elim
    (λ (t : leb (length (b ∷ bs)) most ≡ true). simp t)
    (λ (f : leb (length (b ∷ bs)) most ≡ false). simp f)
    (cases_Bool (leb (length (b ∷ bs)) most))

-- what is pending is the line read so far, where it has at least one byte
pending_given : (s : Lines) → given_if (some (pending s)) (line_so_far s) ≡ given_if (some (pending s)) (pending s)
pending_given s =
    ⊎_elim
    (λ (over : s.ended ≡ true). simp over)
    (λ (over : s.ended ≡ false). simp over)
    (cases_Bool s.ended)

so_far_end : (s : Lines) → Complete s (some (pending s))
so_far_end s past gave far =
    let lasts : given_if (some (pending s)) (line_so_far s) ≡ map (given_for (limit s)) (last far.rest) =
    pending_given s ∙ ap (λ (g : Given). given_if (some g) g) far.holds ∙ last_given (limit s) far.rest in
    let all = cut_lines past far.ended far.rest far.cut in
    simp (lasts, all, map-append, far.given)

-- the same, where an answer says whether a line is pending
pub so_far_pending : (s : Lines) (r : Bool) → r ≡ some (pending s) → Complete s r
so_far_pending s r is past gave far =
    ap (λ (b : Bool). gave ++ given_if b (line_so_far s)) is ∙ so_far_end s past gave far

-- all that was fed, where a piece is fed in two parts
two_parts : (past : List ℕ) (n : ℕ) (piece after : List ℕ) → (past ++ take n piece) ++ (drop n piece ++ after) ≡ past ++ (piece ++ after)
two_parts past n piece after =
    append_assoc past (take n piece) (drop n piece ++ after)
    ∙ ap (λ (xs : List ℕ). past ++ xs) (sym (append_assoc (take n piece) (drop n piece) after))
    ∙ ap (λ (xs : List ℕ). past ++ (xs ++ after)) (take-append-drop n piece)

-- a call, and then a run
call_gives :
    (s t : Lines) (r : Fed) (piece after past : List ℕ) (gave before further : List Given)
    → limit t ≡ limit s
    → gave ≡ given_if r.ended (line_so_far t) ++ further
    → (before ++ given_if r.ended (line_so_far t)) ++ further ≡ map (given_for (limit t)) (lines ((past ++ take r.used piece) ++ (drop r.used piece ++ after)))
    → before ++ gave ≡ map (given_for (limit s)) (lines (past ++ (piece ++ after)))
call_gives s t r piece after past gave before further room is then =
    ap (λ (gs : List Given). before ++ gs) is
    ∙ sym (append_assoc before (given_if r.ended (line_so_far t)) further)
    ∙ then
    ∙ ap (λ (n : ℕ). map (given_for n) (lines ((past ++ take r.used piece) ++ (drop r.used piece ++ after)))) room
    ∙ ap (λ (xs : List ℕ). map (given_for (limit s)) (lines xs)) (two_parts past r.used piece after)

-- a run from a reader that has given `before`
run_gives :
    {s : Lines} {pieces : List (List ℕ)} {gave : List Given}
    → Run s pieces gave
    → (past : List ℕ) (before : List Given)
    → SoFar past before s
    → before ++ gave ≡ map (given_for (limit s)) (lines (past ++ flat_map (λ piece. piece) pieces))
run_gives {s} (at_end is) past before far = simp (is, append-nil) (so_far_end s past before far)
run_gives (used_up run) past before far = run_gives run past before far
run_gives {s} (fed r t further f run is) past before far =
    call_gives s t r _ _ past _ before further
    (same_limit s _ r t f)
    is
    (run_gives run (past ++ take r.used _) (before ++ given_if r.ended (line_so_far t)) (so_far_fed s _ r t f past before far))

pub gives_lines : (s : Lines) → SoFar [] [] s → GivesLines s
gives_lines s far pieces gave run = run_gives run [] [] far
