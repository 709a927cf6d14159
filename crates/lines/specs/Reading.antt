-- What a reader of lines holds, what each call does, and what a whole run gives.
use Rattle.std.specs.Prelude.{◌≡◌, ℕ, ◌+◌, min, Bool, true, false, cond, List, [], ◌∷◌, ◌++◌, map, length, take, drop, Ok, Err, Result}
use Rattle.std.specs.Borrow.{Bor}
use Rattle.std.specs.List.{flat_map}
use Rattle.lines.specs.declared.reader.Lines.{Lines}
use Rattle.lines.specs.declared.reader.Fed.{Fed}
use Rattle.lines.specs.declared.reader.LongLine.{LongLine}
use Rattle.lines.specs.Lines.{Given, whole, too_long, given_for, lines, front, has_newline, CutInto}

-- the most bytes that a line may have
abbrev pub limit : Lines → ℕ
limit s = min 60000 (length s.buffer.now)

-- the line that the first bytes of a buffer are, unless it is too long
abbrev pub held : Result ℕ LongLine → List ℕ → Given
held (Ok len) bytes = whole (take len bytes)
held (Err long) bytes = too_long

-- the bytes past that line, and all of them where it is too long
abbrev pub past_line : Result ℕ LongLine → List ℕ → List ℕ
past_line (Ok len) bytes = drop len bytes
past_line (Err long) bytes = bytes

-- the line read so far, which is the one that has ended until the next piece comes
abbrev pub line_so_far : Lines → Given
line_so_far s = held s.len s.buffer.now

-- what is held of the line that has not ended
abbrev pub pending : Lines → Given
pending s = cond s.ended (whole []) (line_so_far s)

-- a line with more bytes
abbrev pub extended : ℕ → Given → List ℕ → Given
extended limit (whole bytes) more = given_for limit (bytes ++ more)
extended limit too_long more = too_long

-- what a line shows
abbrev pub shown : Result (Bor (List ℕ)) LongLine → Given
shown (Ok bytes) = whole bytes.now
shown (Err long) = too_long

-- it has at least one byte
abbrev pub some : Given → Bool
some (whole []) = false
some (whole (b ∷ bs)) = true
some too_long = true

-- the reader t has the buffer that the reader s was lent, and past the line it is as it was
pub record SameBuffer (t s : Lines) : Type 0 where
  pub loan : t.buffer.ghost_name ≡ s.buffer.ghost_name
  pub room : length t.buffer.now ≡ length s.buffer.now
  pub untouched : past_line t.len t.buffer.now ≡ past_line t.len s.buffer.now

-- a piece was fed, and the reader s became t: the piece was read up to and with its first newline, which ends the line, or
-- whole where it has none, and the bytes before the newline were added to the line that had not ended
pub record Feeds (s : Lines) (piece : List ℕ) (r : Fed) (t : Lines) : Type 0 where
  pub ended : r.ended ≡ has_newline piece
  pub used : r.used ≡ cond (has_newline piece) (length (front piece) + 1) (length piece)
  pub line : line_so_far t ≡ extended (limit s) (pending s) (front piece)
  pub over : t.ended ≡ has_newline piece
  pub kept : SameBuffer t s

-- a line that is given, if it is
abbrev pub given_if : Bool → Given → List Given
given_if told line = cond told (line ∷ []) []

-- after the bytes `past` the reader has given `gave`, which are the lines that newlines ended, and it holds what follows them
pub record SoFar (past : List ℕ) (gave : List Given) (s : Lines) : Type 0 where
  pub ended : List (List ℕ)
  pub rest : List ℕ
  pub cut : CutInto past ended rest
  pub given : gave ≡ map (given_for (limit s)) ended
  pub holds : pending s ≡ given_for (limit s) rest

-- a call keeps this up: the bytes that it used are past, and the line that it ended is given
abbrev pub Lasting : Lines → List ℕ → Fed → Lines → Type 0
Lasting s piece r t =
    (past : List ℕ) (gave : List Given)
    → SoFar past gave s
    → SoFar (past ++ take r.used piece) (gave ++ given_if r.ended (line_so_far t)) t

-- if the input ends here, the lines given are all its lines, with the one that has not ended if the answer r says so
abbrev pub Complete : Lines → Bool → Type 0
Complete s r =
    (past : List ℕ) (gave : List Given)
    → SoFar past gave s
    → gave ++ given_if r (line_so_far s) ≡ map (given_for (limit s)) (lines past)

-- a run: the pieces are fed in turn, each until it is used up, and a call that ends a line gives it; at the end of the input
-- the line that has not ended is given, if it has at least one byte
pub data Run : Lines → List (List ℕ) → List Given → Type 0 where
  at_end : {s : Lines} {gave : List Given} → gave ≡ given_if (some (pending s)) (line_so_far s) → Run s [] gave
  used_up : {s : Lines} {pieces : List (List ℕ)} {gave : List Given} → Run s pieces gave → Run s ([] ∷ pieces) gave
  fed :
      {s : Lines} {piece : List ℕ} {pieces : List (List ℕ)} {gave : List Given} (r : Fed) (t : Lines) (further : List Given)
      → Feeds s piece r t
      → Run t (drop r.used piece ∷ pieces) further
      → gave ≡ given_if r.ended (line_so_far t) ++ further
      → Run s (piece ∷ pieces) gave

-- however an input is cut into pieces, a run gives its lines: all of them, in their order, and nothing else
abbrev pub GivesLines : Lines → Type 0
GivesLines s =
    (pieces : List (List ℕ)) (gave : List Given)
    → Run s pieces gave
    → gave ≡ map (given_for (limit s)) (lines (flat_map (λ piece. piece) pieces))
