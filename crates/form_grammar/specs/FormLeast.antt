-- The rules that a line of one form breaks, and the answer: the least of them by byte, and at one byte by number.
use Rattle.std.specs.Prelude.{◌≡◌, ℕ, ◌<◌, true, List, length, ℤ, Option}
use Rattle.tokens.specs.Tokens.{Tok, finish, token, refusal, next_token}
use Rattle.reading.specs.declared.form.Stage.{Stage}
use Rattle.reading.specs.declared.form.Stage.TheVariants as stage
use Rattle.reading.specs.Forms.{Formed, goes, refused, unread, form_step, read_form}
use Rattle.grammar.specs.Rules.{Broken, Kept, place_room}
use Rattle.grammar.specs.Least.{NotAfter}
use Rattle.form_grammar.specs.FormRules.{form_role, form_rules, form_end_rules}

module _ {K : Type 0} (words : List ℕ → Option K) (ranges : ℤ → ℤ → Option K) (pl sl : ℕ) (line : List ℕ) where
  -- the tokens of the line up to a byte keep their rules, and reading them comes to f
  pub data Clean : ℕ → Formed K → Type 0 where
    start : Clean 0 unread
    more : {from : ℕ} {f : Formed K} {x : Tok} {i j : ℕ} {f₂ : Formed K} → Clean from f → next_token line from ≡ token x i j → Kept (form_rules words ranges pl sl line f i j (form_role f x)) → form_step words ranges pl sl line f x i j ≡ goes f₂ → Clean j f₂

  -- the line breaks the rule of number n at byte b
  pub data Breaks : ℕ → ℕ → Type 0 where
    -- it is longer than 60,000 bytes
    long : 60000 < length line → Breaks 10 0
    -- after tokens that keep their rules come bytes that are no token
    bytes : {from : ℕ} {f : Formed K} {n b : ℕ} → Clean from f → next_token line from ≡ refusal n b → Breaks n b
    -- or a token that breaks one of its rules
    by : {from : ℕ} {f : Formed K} {x : Tok} {i j n b : ℕ} → Clean from f → next_token line from ≡ token x i j → Broken (form_rules words ranges pl sl line f i j (form_role f x)) n b → Breaks n b
    -- or the end of the line, which breaks one of its rules
    ends : {from : ℕ} {f : Formed K} {n b : ℕ} → Clean from f → next_token line from ≡ finish → Broken (form_end_rules f.stage f (length line)) n b → Breaks n b

  -- of all the rules that the line breaks, that of number n at byte b is the first
  pub record Least (n b : ℕ) : Type 0 where
    pub breaks : Breaks n b
    pub least : (m c : ℕ) → Breaks m c → NotAfter b n c m

-- a line is refused with a number and a byte exactly if those are the first rule that it breaks
pub record RefusesLeast (K : Type 0) : Type 0 where
  pub least : (words : List ℕ → Option K) (ranges : ℤ → ℤ → Option K) (pl sl : ℕ) (line : List ℕ) (n b : ℕ) → read_form words ranges pl sl line ≡ refused n b → Least words ranges pl sl line n b
  pub answers : (words : List ℕ → Option K) (ranges : ℤ → ℤ → Option K) (pl sl : ℕ) (line : List ℕ) (n b : ℕ) → Least words ranges pl sl line n b → read_form words ranges pl sl line ≡ refused n b

-- a line is accepted exactly if it breaks no rule
pub record AcceptsOthers (K : Type 0) : Type 0 where
  pub accepted : (words : List ℕ → Option K) (ranges : ℤ → ℤ → Option K) (pl sl : ℕ) (line : List ℕ) (f : Formed K) → read_form words ranges pl sl line ≡ goes f → (n b : ℕ) → Breaks words ranges pl sl line n b → ⊥
  pub accepts : (words : List ℕ → Option K) (ranges : ℤ → ℤ → Option K) (pl sl : ℕ) (line : List ℕ) → ((n b : ℕ) → Breaks words ranges pl sl line n b → ⊥) → (f : Formed K) × (read_form words ranges pl sl line ≡ goes f)

-- the kind of a narrow is being read
abbrev pub InKind : Stage → Type 0
InKind stage.Begin = ⊥
InKind stage.Opened = ⊥
InKind (stage.Path v) = ⊥
InKind (stage.InPath v) = ⊥
InKind stage.SecondPath = ⊥
InKind stage.InSecondPath = ⊥
InKind stage.Place = ⊥
InKind stage.Kind = Unit {0}
InKind stage.Range = Unit {0}
InKind (stage.Close v) = ⊥
InKind (stage.Closed v) = ⊥

-- there is always room for it, so that no token of it breaks 28
abbrev pub KindHasRoom : Type 0 → Type 0
KindHasRoom K = (words : List ℕ → Option K) (ranges : ℤ → ℤ → Option K) (pl sl : ℕ) (line : List ℕ) (from : ℕ) (f : Formed K) → Clean words ranges pl sl line from f → InKind f.stage → place_room 1 f.draft ≡ true
