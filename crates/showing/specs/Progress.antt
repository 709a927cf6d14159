-- How the state of a walk stands for what writing has come to.
use Rattle.std.specs.Prelude.{◌≡◌, ℕ, ◌+◌, ◌-◌, ◌*◌, ◌^◌, ◌<◌, min, Bool, true, false, cond, List, [], ◌∷◌, ◌++◌, map, reverse, length, take, drop, Some, None, sum_by, count_by, Option, slice_index_or, slice_set}
use Rattle.std.proofs.lemmas.List.Edits.{sets}
use Rattle.kinds.specs.Laws.{KindLaws}
use Rattle.records.specs.declared.SlotRecord.{SlotRecord}
use Rattle.records.specs.Sheets.{Sheet, kind_of}
use Rattle.vocabulary.specs.Texts.{Text, bytes}
use Rattle.showing.specs.declared.walk.Block.{Block}
use Rattle.showing.specs.declared.walk.Progress.{Progress}
use Rattle.showing.specs.declared.writing.Output.{Output}
use Rattle.showing.specs.Shown.{tagged, tag_of, has, hashed, slots_of, naming, Walk, Shown}
use Rattle.showing.specs.Writing.{Adds}

-- the slots of a block, where these are all slots
abbrev pub standing : List SlotRecord → Block → List SlotRecord
standing ss b = take b.count (drop b.first ss)

-- the slots of each open place that are still to be written, the innermost place first, where the sheet has these slots
abbrev pub unwritten : List SlotRecord → Progress → List (List SlotRecord)
unwritten ss w = reverse (map (λ b. standing ss b) w.left.items)

-- there is room for one more open place, and for one more tag
abbrev pub Room : Progress → Type 0
Room w = (length w.left.items < 1000) × (w.next < 60000)

-- ---- the moves

-- nothing is written, and the first tag is 1
pub record Fresh (w : Progress) : Type 0 where
  pub none : w.left.items ≡ []
  pub long : length w.tags ≡ 1000
  pub tags : (p : ℕ) → p < 1000 → slice_index_or w.tags p None ≡ None
  pub next : w.next ≡ 1

-- the place p is opened, with these slots
pub record Entered (ss : List SlotRecord) (w : Progress) (p : ℕ) (slots : List SlotRecord) (tag : Bool) (v : Progress) : Type 0 where
  pub left : unwritten ss v ≡ slots ∷ unwritten ss w
  pub tags : v.tags ≡ slice_set w.tags p (Some w.next)
  pub next : v.next ≡ cond tag (w.next + 1) w.next

-- the innermost place, of which no slot is left, ends
pub record Ended (ss : List SlotRecord) (w v : Progress) : Type 0 where
  pub left : unwritten ss w ≡ [] ∷ unwritten ss v
  pub tags : v.tags ≡ w.tags
  pub next : v.next ≡ w.next

-- the next slot of the innermost place is x, and is taken
pub record Taken (ss : List SlotRecord) (w : Progress) (x : SlotRecord) (v : Progress) : Type 0 where
  pub here : List SlotRecord
  pub others : List (List SlotRecord)
  pub before : unwritten ss w ≡ (x ∷ here) ∷ others
  pub after : unwritten ss v ≡ here ∷ others
  pub tags : v.tags ≡ w.tags
  pub next : v.next ≡ w.next

-- one or the other
abbrev pub Took : List SlotRecord → Progress → Option SlotRecord → Progress → Type 0
Took ss w None v = Ended ss w v
Took ss w (Some x) v = Taken ss w x v

-- ---- what they stand for

module _ {K : Type 0} (s : Sheet K) where
  -- the tag of the next place that has one
  abbrev pub next_tag : List ℕ → ℕ
  next_tag [] = 1
  next_tag (q ∷ written) = cond (tagged s q) (1 + next_tag written) (next_tag written)

  -- the tags are right, where these places are written
  pub record Right (w : Progress) (written : List ℕ) : Type 0 where
    pub long : length w.tags ≡ 1000
    pub tags : (p : ℕ) → p < 1000 → slice_index_or w.tags p None ≡ cond (has written p) (Some (tag_of s written p)) None
    pub next : w.next ≡ next_tag written

-- no tag is set
abbrev pub unset : Option ℕ → Bool
unset None = true
unset (Some n) = false

-- what falls from turn to turn, where the sheet has these slots
abbrev pub measure : List SlotRecord → Progress → ℕ
measure ss w = count_by unset w.tags * (length ss + 2) + sum_by (λ xs. length xs + 1) (unwritten ss w)

module _ {K F : Type 0} {below : K → K → Type 0} {top : K} {form : K → F} {kind : F → Option K} (laws : KindLaws below top form kind) (texts : K → Text) (s : Sheet K) where
  -- the text of a place up to its first slot, where the next tag is n
  abbrev pub opened : ℕ → ℕ → List ℕ
  opened n p = 40 ∷ (cond (tagged s p) (hashed n (32 ∷ [])) [] ++ bytes (texts (kind_of laws s p)))

  -- a slot comes to the place p, by the tag under which it was written, or, where it was not, it is opened: the piece is written
  abbrev pub Reached : Option ℕ → Progress → ℕ → List ℕ → Progress → Type 0
  Reached (Some tag) w p piece v = (piece ≡ 40 ∷ hashed tag (41 ∷ [])) × (v ≡ w)
  Reached None w p piece v = (piece ≡ opened w.next p) × Entered s.slots w p (slots_of s p) (tagged s p) v

  -- the slot x is written, and the place that it leads to
  pub record Visited (x : SlotRecord) (before after : Progress) (old new : Output) : Type 0 where
    pub piece : List ℕ
    pub adds : Adds (naming laws texts s x ++ piece) old new
    pub reached : Reached (slice_index_or before.tags x.target None) before x.target piece after

  -- writing has come to the text
  pub record Going (w : Progress) (text : List ℕ) : Type 0 where
    pub written : List ℕ
    pub right : Right s w written
    pub walk : Walk laws texts s (unwritten s.slots w) written text

  -- to some text
  pub record Begun (w : Progress) : Type 0 where
    pub text : List ℕ
    pub going : Going w text

  -- a piece of the text is written, and writing has come that far
  pub record Since (before after : Progress) (old new : Output) : Type 0 where
    pub piece : List ℕ
    pub adds : Adds piece old new
    pub going : (text : List ℕ) → Going before text → Going after (text ++ piece)

  -- a text of the sheet was written from the start of the output on, so far as the output reaches, and its length counted
  pub record Wrote (before after : List ℕ) (end : ℕ) : Type 0 where
    pub text : List ℕ
    pub shown : Shown laws texts s text
    pub count : end ≡ min (length text) (2 ^ 64 - 1)
    pub out : after ≡ sets before 0 text
