-- What holds between the tokens of a line as it is read.
use Rattle.std.specs.Prelude.{ℕ, ◌<◌, ◌≤◌, List, length, take}
use Rattle.tokens.specs.Tokens.{Tok, mark, word, number}
use Rattle.vocabulary.specs.Texts.{Word}
use Rattle.reading.specs.declared.draft.Place.{Place}
use Rattle.reading.specs.declared.draft.Slot.{Slot}
use Rattle.reading.specs.declared.draft.Cursor.{Cursor}
use Rattle.reading.specs.declared.drafting.lookup.Lookup.{Lookup}
use Rattle.reading.specs.Drafts.{parent_at}
use Rattle.reading.specs.Lookups.{Looks}

module _ {K : Type 0} where
  -- the tables hold what has been read, no more of it than fits the limits, and the look-up stands for it
  pub record Holds (top places slots : ℕ) (ps : List (Place K)) (ss : List Slot) (look : Lookup) : Type 0 where
    pub places_fit : places ≤ length ps
    pub slots_fit : slots ≤ length ss
    pub few_places : length ps ≤ 1000
    pub few_slots : length ss ≤ 4000
    pub top_fits : top < 1000
    pub parents : (p : ℕ) → parent_at (take places ps) p < 1000
    pub looks : Looks (take places ps) (take slots ss) look

  abbrev pub Held : Cursor → List (Place K) → List Slot → Lookup → Type 0
  Held c ps ss look = Holds c.top c.places c.slots ps ss look

-- a token that is a word has the form of one
abbrev pub Worded : Tok → Type 0
Worded (mark b) = Unit {0}
Worded (word w) = Word w
Worded (number n) = Unit {0}
