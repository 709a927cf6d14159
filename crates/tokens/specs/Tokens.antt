-- What the tokens of a line are. A line is a list of bytes, and a place is a number of bytes from its start.
use Rattle.std.specs.Prelude.{ℕ, ◌+◌, ◌-◌, ◌*◌, ◌<◌, ◌≤◌, Bool, true, false, cond, not, ◌&&◌, ◌||◌, List, [], ◌∷◌, length, take, drop, ℤ, pos, neg_ℤ, Some, None, fold, Option, ◌==◌, nat_le, slice_index}
use Rattle.std.specs.Int.{is_in_range}
use Rattle.std.specs.List.{prefix_len}
use Rattle.tokens.specs.declared.token.class.Class.{Class}
use Rattle.tokens.specs.declared.token.class.Class.TheVariants.{Space, Digit, WordByte}

-- a mark is a bracket, a hash sign or two dots, known by its first byte
pub data Tok : Type 0 where
  mark : ℕ → Tok
  word : List ℕ → Tok
  number : ℤ → Tok

-- what stands next on a line: nothing more, a token with its first place and the place after it,
-- or a refusal with its number and its place
pub data Next : Type 0 where
  finish : Next
  token : Tok → ℕ → ℕ → Next
  refusal : ℕ → ℕ → Next

-- the bytes of a run: spaces, the digits of a number, the bytes of a word after its first
abbrev pub member : Class → ℕ → Bool
member Space b = b == 32
member Digit b = is_in_range 48 57 b
member WordByte b = is_in_range 97 122 b || (is_in_range 48 57 b || b == 95)

-- how many of the first bytes are of the class
abbrev pub run : Class → List ℕ → ℕ
run c bs = prefix_len (member c) bs

-- the number that digits write
abbrev pub value : List ℕ → ℕ
value ds = fold (λ n d. n * 10 + (d - 48)) 0 ds

-- at least one digit, and no zero first: `0` alone may be one
abbrev pub well_formed : Bool → List ℕ → Bool
well_formed minus [] = false
well_formed minus (d ∷ ds) = not (d == 48) || (not minus && length ds == 0)

abbrev pub in_range : Bool → ℕ → Bool
in_range minus n = nat_le n (cond minus 2147483648 2147483647)

-- the number that a sign and digits write
abbrev pub number_of : Bool → List ℕ → Option ℤ
number_of minus ds =
    cond (well_formed minus ds && in_range minus (value ds))
    (Some (cond minus (neg_ℤ (pos (value ds))) (pos (value ds))))
    None

abbrev pub number_token : Option ℤ → ℕ → ℕ → Next
number_token (Some n) i j = token (number n) i j
number_token None i j = refusal 13 i

-- a number begins at place i, and the bytes bs from its first digit on stand at place j
abbrev pub number_at : Bool → List ℕ → ℕ → ℕ → Next
number_at minus bs i j = number_token (number_of minus (take (run Digit bs) bs)) i (j + run Digit bs)

-- a word of at most 24 bytes
abbrev pub word_at : List ℕ → ℕ → Next
word_at bs i = cond (nat_le (run WordByte bs) 24) (token (word (take (run WordByte bs) bs)) i (i + run WordByte bs)) (refusal 12 i)

-- round and square brackets, and the hash sign
abbrev pub is_mark : ℕ → Bool
is_mark b = (b == 40 || b == 41) || ((b == 91 || b == 93) || b == 35)

-- the token that begins at place i, where the byte b stands, with the bytes bs after it
abbrev pub token_at : ℕ → List ℕ → ℕ → Next
token_at b bs i =
    cond (is_mark b) (token (mark b) i (i + 1))
    (cond (b == 46) (cond (slice_index bs 0 == 46) (token (mark 46) i (i + 2)) (refusal 11 i))
    (cond (b == 45) (number_at true bs i (i + 1))
    (cond (is_in_range 48 57 b) (number_at false (b ∷ bs) i i)
    (cond (is_in_range 97 122 b) (word_at (b ∷ bs) i)
    (refusal 11 i)))))

abbrev pub first_token : List ℕ → ℕ → Next
first_token [] i = finish
first_token (b ∷ bs) i = token_at b bs i

-- the place after the spaces from a place on
abbrev pub after_spaces : List ℕ → ℕ → ℕ
after_spaces line from = from + run Space (drop from line)

-- what stands next on the line from a place on
abbrev pub next_token : List ℕ → ℕ → Next
next_token line from = first_token (drop (after_spaces line from) line) (after_spaces line from)

-- what stands next from place lo on, on a line of hi bytes: a token stands there or later, has at least one byte and ends
-- on the line, and a refusal is one of 11 to 13 and its byte is on the line
abbrev pub Ahead : ℕ → ℕ → Next → Type 0
Ahead lo hi finish = Unit {0}
Ahead lo hi (token x i j) = (lo ≤ i) × (i < j) × (j ≤ hi)
Ahead lo hi (refusal n b) = (11 ≤ n) × (n ≤ 13) × (lo ≤ b) × (b < hi)
