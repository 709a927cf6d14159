-- What a line that is accepted as a form is, and one that is refused for its grammar.
use Rattle.std.specs.Prelude.{◌≡◌, ℕ, ◌≤◌, ◌⊎◌, List, [], ◌∷◌, ◌++◌, map, length, ℤ, Some, None, Option}
use Rattle.names.specs.Names as names
use Rattle.tokens.specs.Tokens.{Tok, finish, token, next_token}
use Rattle.reading.specs.declared.form.Stage.TheVariants as stage
use Rattle.reading.specs.Drafts.{Draft, nothing}
use Rattle.reading.specs.Forms.{Formed, goes, refused, read_form}
use Rattle.grammar.specs.Terms.{Kind}
use Rattle.grammar.specs.Described.{kind_of, listed, described_by}
use Rattle.grammar.specs.Good.{GoodRange, Good}
use Rattle.grammar.specs.Lines.{Upto, Whole}
use Rattle.form_grammar.specs.FormTerms.{FormTerm, add, tie, narrow, mark, keep, back, clear, show, verb_of, first_path, second_path, spell_form}
use Rattle.form_grammar.specs.FormSpelt.{Spelt, Opens}

-- a path has at most 16 names, each of at most 12 bytes
abbrev pub ShortNames : List (List ℕ) → Type 0
ShortNames [] = Unit {0}
ShortNames (w ∷ ws) = (length w ≤ 12) × ShortNames ws

abbrev pub GoodPath : List (List ℕ) → Type 0
GoodPath p = (length p ≤ 16) × ShortNames p

-- a path, as the numbers of its names
abbrev pub numbers : List (List ℕ) → List ℕ
numbers p = map names.number p

module _ {K : Type 0} (words : List ℕ → Option K) (ranges : ℤ → ℤ → Option K) (pl sl : ℕ) where
  -- the place of an add is good, and the kind of a narrow is one
  abbrev pub GoodParts : FormTerm → Type 0
  GoodParts (add p t) = Good words ranges pl sl t
  GoodParts (tie p q) = Unit {0}
  GoodParts (narrow p k) = GoodRange k × ((x : K) × (kind_of words ranges k ≡ Some x))
  GoodParts mark = Unit {0}
  GoodParts keep = Unit {0}
  GoodParts back = Unit {0}
  GoodParts clear = Unit {0}
  GoodParts show = Unit {0}

  -- a form whose parts are good
  pub record GoodForm (t : FormTerm) : Type 0 where
    pub first : GoodPath (first_path t)
    pub second : GoodPath (second_path t)
    pub parts : GoodParts t

  -- the line has at most 60,000 bytes, and its tokens are those of the form, which is good
  pub record Means (line : List ℕ) (t : FormTerm) : Type 0 where
    pub short : length line ≤ 60000
    pub whole : Whole line (spell_form t [])
    pub good : GoodForm t

  -- the draft of a narrow has one place, of its kind
  pub record Kinded (k : Kind) (d : Draft K) : Type 0 where
    pub kind : K
    pub is : kind_of words ranges k ≡ Some kind
    pub places : d.places ≡ record { kind = kind; parent = 0; tag = None } ∷ []
    pub slots : d.slots ≡ []

  -- that of an add lists what its place describes, and that of any other form is empty
  abbrev pub Drafted : FormTerm → Draft K → Type 0
  Drafted (add p t) d = listed d ≡ described_by words ranges t
  Drafted (tie p q) d = d ≡ nothing
  Drafted (narrow p k) d = Kinded k d
  Drafted mark d = d ≡ nothing
  Drafted keep d = d ≡ nothing
  Drafted back d = d ≡ nothing
  Drafted clear d = d ≡ nothing
  Drafted show d = d ≡ nothing

  -- what was read has the parts of the form t
  pub record Parts (t : FormTerm) (f : Formed K) : Type 0 where
    pub verb : f.stage ≡ stage.Closed (verb_of t)
    pub first : f.first ≡ numbers (first_path t)
    pub second : f.second ≡ numbers (second_path t)
    pub draft : Drafted t f.draft

-- the line ends at b, and front is no form; or the token at b cannot stand after front
abbrev pub Barred : List ℕ → List Tok → ℕ → ℕ → Type 0
Barred line front j b =
    ((next_token line j ≡ finish) × (b ≡ length line) × (Spelt front → ⊥))
    ⊎ ((x : Tok) × (k : ℕ) × (next_token line j ≡ token x b k) × (Opens (front ++ (x ∷ [])) → ⊥))

-- the first tokens of the line can be continued to a form, but not by what stands at b
pub record Stuck (line : List ℕ) (b : ℕ) : Type 0 where
  pub front : List Tok
  pub from : ℕ
  pub upto : Upto line 0 front from
  pub opens : Opens front
  pub barred : Barred line front from b

-- a line is accepted exactly if it means a form
pub record Accepts (K : Type 0) : Type 0 where
  pub accepted : (words : List ℕ → Option K) (ranges : ℤ → ℤ → Option K) (pl sl : ℕ) (line : List ℕ) (f : Formed K) → read_form words ranges pl sl line ≡ goes f → (t : FormTerm) × Means words ranges pl sl line t
  pub accepts : (words : List ℕ → Option K) (ranges : ℤ → ℤ → Option K) (pl sl : ℕ) (line : List ℕ) (t : FormTerm) → Means words ranges pl sl line t → (f : Formed K) × (read_form words ranges pl sl line ≡ goes f)
  -- the form is one only, and its parts were read
  pub one : (line : List ℕ) (t u : FormTerm) → Whole line (spell_form t []) → Whole line (spell_form u []) → t ≡ u
  pub parts : (words : List ℕ → Option K) (ranges : ℤ → ℤ → Option K) (pl sl : ℕ) (line : List ℕ) (f : Formed K) (t : FormTerm) → read_form words ranges pl sl line ≡ goes f → Whole line (spell_form t []) → Parts words ranges pl sl t f

-- 20 is answered where the line cannot be continued to a form any more, and where it ends before the form does
abbrev pub Refuses : Type 0 → Type 0
Refuses K = (words : List ℕ → Option K) (ranges : ℤ → ℤ → Option K) (pl sl : ℕ) (line : List ℕ) (b : ℕ) → read_form words ranges pl sl line ≡ refused 20 b → Stuck line b
