-- What the answers of the code stand for.
use Rattle.std.specs.Prelude.{◌≡◌, ℕ, ◌-◌, ◌<◌, ◌≤◌, List, length, take, drop, Some, None, Ok, Err, Option, Result}
use Rattle.std.specs.Option.{option_transpose}
use Rattle.tokens.specs.declared.fault.TextFault.{TextFault}
use Rattle.tokens.specs.declared.fault.TextFault.TheVariants.{LongLine}
use Rattle.tokens.specs.declared.token.Token.{Token}
use Rattle.tokens.specs.declared.token.Token.TheVariants.{RoundOpen, RoundClose, SquareOpen, SquareClose, Hash, Dots, Word, Number}
use Rattle.tokens.specs.declared.token.Lexeme.{Lexeme}
use Rattle.tokens.specs.declared.token.Lexemes.{Lexemes}
use Rattle.tokens.specs.Faults.{text_number, text_byte}
use Rattle.tokens.specs.Tokens.{Tok, mark, word, number, Next, finish, token, refusal, next_token}

-- the token that a token of the code stands for
abbrev pub meant : Token → Tok
meant RoundOpen = mark 40
meant RoundClose = mark 41
meant SquareOpen = mark 91
meant SquareClose = mark 93
meant Hash = mark 35
meant Dots = mark 46
meant (Word w) = word w.now
meant (Number n) = number n

-- a fault refuses with its number at its byte
abbrev pub refused : TextFault → Next
refused f = refusal (text_number f) (text_byte f)

-- the answer for the token next on the line
abbrev pub answer : Result (Option Lexeme) TextFault → Next
answer (Ok None) = finish
answer (Ok (Some x)) = token (meant x.token) x.start x.«end»
answer (Err f) = refused f

-- the answer for the token that begins at place i
abbrev pub answer_at : ℕ → Result (Token × ℕ) TextFault → Next
answer_at i (Ok x) = token (meant x.0) i x.1
answer_at i (Err f) = refused f

-- a token's bytes are those of the line from its start up to its end
abbrev pub Shows : List ℕ → Result (Option Lexeme) TextFault → Type 0
Shows line (Ok None) = Unit {0}
Shows line (Ok (Some x)) = x.bytes.now ≡ take (x.«end» - x.start) (drop x.start line)
Shows line (Err f) = Unit {0}

-- a line of more than 60,000 bytes is refused, and no other
abbrev pub Checked : List ℕ → Result Unit TextFault → Type 0
Checked line (Ok u) = length line ≤ 60000
Checked line (Err f) = (60000 < length line) × (f ≡ LongLine)

-- where the tokens of a line go on: after a token at its end, and after a fault at the line's
abbrev pub goes_on : List ℕ → ℕ → Option (Result Lexeme TextFault) → ℕ
goes_on line i None = i
goes_on line i (Some (Ok x)) = x.«end»
goes_on line i (Some (Err f)) = length line

-- the tokens s of a line give what stands next there, and go on as t
pub record Gives (s : Lexemes) (r : Option (Result Lexeme TextFault)) (t : Lexemes) : Type 0 where
  pub answer : answer (option_transpose r) ≡ next_token s.line.now s.from
  pub bytes : Shows s.line.now (option_transpose r)
  pub line : t.line.now ≡ s.line.now
  pub from : t.from ≡ goes_on s.line.now s.from r
