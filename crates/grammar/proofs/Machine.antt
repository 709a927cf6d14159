-- Reading tokens from left to right, with the places that are open kept on a stack.
use Rattle.std.proofs.Common.{ℕ, cond, eqb, List, [], ◌∷◌, ℤ, Some, None, Option}
use Rattle.std.specs.Option.{option_or}
use Rattle.tokens.specs.Tokens.{Tok, mark, word, number}
use Rattle.grammar.specs.Terms.{Kind, named, range, Term, ref, node, Slots, none, slot}

-- the slots of a place so far, the newest last
pub data Back : Type 0 where
  start : Back
  more : Back → List ℕ → Term → Back

abbrev pub slots_of : Back → Slots → Slots
slots_of start after = after
slots_of (more b w t) after = slots_of b (slot w t after)

-- the places that are open, the innermost first, each with the name of the slot that is being read
pub data Stack : Type 0 where
  empty : Stack
  frame : Option ℤ → Kind → Back → List ℕ → Stack → Stack

-- what was read last of the innermost place
pub data Mode : Type 0 where
  place : Mode
  opened : Mode
  hashed : Mode
  tagged : ℤ → Mode
  low : Option ℤ → Mode
  dotted : Option ℤ → ℤ → Mode
  high : Option ℤ → ℤ → Mode
  ranged : Option ℤ → ℤ → ℤ → Mode
  inside : Option ℤ → Kind → Back → Mode

pub data State : Type 0 where
  going : Stack → Mode → State
  done : Term → State

-- the answer at one token, and none at any other
abbrev pub on : ℕ → Tok → State → Option State
on c (mark b) s = cond (eqb b c) (Some s) None
on c (word w) s = None
on c (number n) s = None

abbrev pub on_word : Tok → (List ℕ → State) → Option State
on_word (mark b) f = None
on_word (word w) f = Some (f w)
on_word (number n) f = None

abbrev pub on_number : Tok → (ℤ → State) → Option State
on_number (mark b) f = None
on_number (word w) f = None
on_number (number n) f = Some (f n)

-- a place has been read
abbrev pub closed : Stack → Term → State
closed empty t = done t
closed (frame g k ss w S) t = going S (inside g k (more ss w t))

abbrev pub kind_first : Stack → Option ℤ → Tok → Option State
kind_first S g x = option_or (on_word x (λ w. going S (inside g (named w) start))) (on 91 x (going S (low g)))

-- what the token leads to; none is a refusal
abbrev pub step_in : Stack → Mode → Tok → Option State
step_in S place x = on 40 x (going S opened)
step_in S opened x = option_or (on 35 x (going S hashed)) (kind_first S None x)
step_in S hashed x = on_number x (λ n. going S (tagged n))
step_in S (tagged n) x = option_or (on 41 x (closed S (ref n))) (kind_first S (Some n) x)
step_in S (low g) x = on_number x (λ a. going S (dotted g a))
step_in S (dotted g a) x = on 46 x (going S (high g a))
step_in S (high g a) x = on_number x (λ b. going S (ranged g a b))
step_in S (ranged g a b) x = on 93 x (going S (inside g (range a b) start))
step_in S (inside g k ss) x = option_or (on_word x (λ w. going (frame g k ss w S) place)) (on 41 x (closed S (node g k (slots_of ss none))))

abbrev pub step : State → Tok → Option State
step (going S m) x = step_in S m x
step (done t) x = None

-- a place, or what is left from the first token on that is not allowed: at an early end nothing
pub data Read : Type 0 where
  accepted : Term → Read
  refused : List Tok → Read

abbrev pub ended : State → Read
ended (going S m) = refused []
ended (done t) = accepted t

abbrev pub onward : Option State → (State → Read) → Read → Read
onward None f r = r
onward (Some s) f r = f s

abbrev pub run : State → List Tok → Read
run s [] = ended s
run s (x ∷ xs) = onward (step s x) (λ s'. run s' xs) (refused (x ∷ xs))

abbrev pub read : List Tok → Read
read xs = run (going empty place) xs
