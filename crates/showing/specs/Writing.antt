-- Writing bytes into an output: what lies past its end is counted, and not written.
use Rattle.std.specs.Prelude.{◌≡◌, ℕ, ◌-◌, ◌^◌, min, List, [], ◌∷◌, ◌++◌, length, Some, None, Option}
use Rattle.std.proofs.lemmas.List.Edits.{sets}
use Rattle.showing.specs.declared.writing.Output.{Output}
use Rattle.showing.specs.Shown.{hashed}

-- The bytes, which were `first`, have the text from their start on, so far as they reach, and its length is counted. (The count stays
-- at the greatest number of its type, which no text comes to that is shown.)
pub record Holds (first text : List ℕ) (o : Output) : Type 0 where
  pub count : o.len ≡ min (length text) (2 ^ 64 - 1)
  pub bytes : o.bytes.now ≡ sets first 0 text

-- the text is the old one and then the piece, in the same bytes
pub record Adds (piece : List ℕ) (before after : Output) : Type 0 where
  pub same : after.bytes.ghost_name ≡ before.bytes.ghost_name
  pub more : (first text : List ℕ) → Holds first text before → Holds first (text ++ piece) after

-- the tag of a place that has one, before its kind
abbrev pub marked : Option ℕ → List ℕ
marked (Some n) = hashed n (32 ∷ [])
marked None = []
