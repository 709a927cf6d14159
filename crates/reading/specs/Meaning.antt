-- The sheet that a draft describes.
use Rattle.std.specs.Prelude.{◌≡◌, ℕ, ◌<◌, length, Some}
use Rattle.records.specs.Tables as tables
use Rattle.records.specs.Sheets.{Sheet, size, Slot, Formed}
use Rattle.reading.specs.declared.draft.Tag.{Tag}
use Rattle.reading.specs.declared.draft.Target.{Target}
use Rattle.reading.specs.declared.draft.Target.TheVariants.{To, ByTag}
use Rattle.reading.specs.Drafts.{Draft, tag_at, kind_at, slot_at}

module _ {K : Type 0} (d : Draft K) where
  -- the place x describes the tag n
  pub record Describes (x n : ℕ) : Type 0 where
    pub inside : x < length d.places
    pub tag : Tag
    pub has : tag_at d.places x ≡ Some tag
    pub numbered : tag.number ≡ n

  -- a slot leads to the place y
  abbrev pub LeadsTo : Target → ℕ → Type 0
  LeadsTo (To p) y = p ≡ y
  LeadsTo (ByTag t) y = Describes y t.number

  -- the text has a slot of the name f from the place x to the place y, by the numbers of their kinds in the text
  pub record Arrow (x f y : ℕ) : Type 0 where
    pub slot : ℕ
    pub inside : slot < length d.slots
    pub owner : (slot_at d.slots slot).owner ≡ x
    pub named : (slot_at d.slots slot).name ≡ f
    pub leads : LeadsTo (slot_at d.slots slot).target y

  -- s is the sheet that the draft describes: the same places, kinds and slots, numbered as every sheet is
  pub record IsSheetOf (s : Sheet K) : Type 0 where
    pub formed : Formed s
    -- the number of each place of the text, and back
    pub number : ℕ → ℕ
    pub back : ℕ → ℕ
    pub root : number 0 ≡ 0
    pub start : back 0 ≡ 0
    pub within : (x : ℕ) → x < length d.places → number x < size s
    pub inside : (p : ℕ) → p < size s → back p < length d.places
    pub onto : (p : ℕ) → p < size s → number (back p) ≡ p
    pub kinds : (k : K) (x : ℕ) → x < length d.places → tables.kind_at k s.places (number x) ≡ kind_at k d.places x
    pub edges : (x f y : ℕ) → Arrow x f y → Slot s (number x) f (number y)
    pub only : (p f q : ℕ) → Slot s p f q → Arrow (back p) f (back q)
