-- The rules that a line breaks, and the answer: the least of them by byte, and at one byte by number.
use Rattle.std.specs.Prelude.{◌≡◌, ℕ, ◌<◌, ◌≤◌, true, ◌⊎◌, List, [], length, ℤ, Option}
use Rattle.tokens.specs.Tokens.{Tok, mark, finish, token, refusal, next_token}
use Rattle.reading.specs.declared.draft.Tag.{Tag}
use Rattle.reading.specs.Drafts.{Draft, nothing}
use Rattle.reading.specs.Steps.{go, fault, no_kind_ahead, step, read_place}
use Rattle.grammar.specs.Rules.{range_first, role_of, Broken, Kept, once, rules, end_rules}

-- number n at byte b does not come after number m at byte c
abbrev pub NotAfter : ℕ → ℕ → ℕ → ℕ → Type 0
NotAfter b n c m = (b < c) ⊎ ((b ≡ c) × (n ≤ m))

module _ {K : Type 0} (words : List ℕ → Option K) (ranges : ℤ → ℤ → Option K) (pl sl : ℕ) (line : List ℕ) where
  -- the tokens of the line up to a byte keep their rules, and reading them comes to a draft
  pub data Clean : ℕ → Draft K → Type 0 where
    start : Clean 0 nothing
    more : {from : ℕ} {d : Draft K} {x : Tok} {i j : ℕ} {d₂ : Draft K} → Clean from d → next_token line from ≡ token x i j → Kept (rules words ranges pl sl line d i j (role_of d.mode x)) → step words ranges pl sl line d x i j ≡ go d₂ → Clean j d₂

  -- the line breaks the rule of number n at byte b
  pub data Breaks : ℕ → ℕ → Type 0 where
    -- it is longer than 60,000 bytes
    long : 60000 < length line → Breaks 10 0
    -- after tokens that keep their rules come bytes that are no token
    bytes : {from : ℕ} {d : Draft K} {n b : ℕ} → Clean from d → next_token line from ≡ refusal n b → Breaks n b
    -- or a token that breaks one of its rules
    by : {from : ℕ} {d : Draft K} {x : Tok} {i j n b : ℕ} → Clean from d → next_token line from ≡ token x i j → Broken (rules words ranges pl sl line d i j (role_of d.mode x)) n b → Breaks n b
    -- or the end of the line, which breaks one of its rules
    ends : {from : ℕ} {d : Draft K} {n b : ℕ} → Clean from d → next_token line from ≡ finish → Broken (end_rules d.mode d (length line)) n b → Breaks n b

  -- of all the rules that the line breaks, that of number n at byte b is the first
  pub record Least (n b : ℕ) : Type 0 where
    pub breaks : Breaks n b
    pub least : (m c : ℕ) → Breaks m c → NotAfter b n c m

-- a line is refused with a number and a byte exactly if those are the first rule that it breaks
pub record RefusesLeast (K : Type 0) : Type 0 where
  pub refused : (words : List ℕ → Option K) (ranges : ℤ → ℤ → Option K) (pl sl : ℕ) (line : List ℕ) (n b : ℕ) → read_place words ranges pl sl line ≡ fault n b → Least words ranges pl sl line n b
  pub refuses : (words : List ℕ → Option K) (ranges : ℤ → ℤ → Option K) (pl sl : ℕ) (line : List ℕ) (n b : ℕ) → Least words ranges pl sl line n b → read_place words ranges pl sl line ≡ fault n b

-- a line is accepted exactly if it breaks no rule
pub record AcceptsOthers (K : Type 0) : Type 0 where
  pub accepted : (words : List ℕ → Option K) (ranges : ℤ → ℤ → Option K) (pl sl : ℕ) (line : List ℕ) (d : Draft K) → read_place words ranges pl sl line ≡ go d → (n b : ℕ) → Breaks words ranges pl sl line n b → ⊥
  pub accepts : (words : List ℕ → Option K) (ranges : ℤ → ℤ → Option K) (pl sl : ℕ) (line : List ℕ) → ((n b : ℕ) → Breaks words ranges pl sl line n b → ⊥) → (d : Draft K) × (read_place words ranges pl sl line ≡ go d)

-- 21 of a range: where a KIND begins with a square bracket at i, whose tag if any is new, and the range is whole and no kind, the line
-- breaks 21 at i, whether or not there is room for a place
abbrev pub RangeIsNoKind : Type 0 → Type 0
RangeIsNoKind K = (words : List ℕ → Option K) (ranges : ℤ → ℤ → Option K) (pl sl : ℕ) (line : List ℕ) (from : ℕ) (d : Draft K) (g : Option Tag) (i j : ℕ) → Clean words ranges pl sl line from d → next_token line from ≡ token (mark 91) i j → role_of d.mode (mark 91) ≡ range_first g → Kept (once g d []) → no_kind_ahead words ranges line j ≡ true → Breaks words ranges pl sl line 21 i
