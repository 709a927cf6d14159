-- The text of a sheet: depth first from the root, at each place its slots in rising order of their names.
use Rattle.std.specs.Prelude.{◌≡◌, ℕ, ◌+◌, ◌<◌, Bool, true, false, cond, ◌||◌, List, [], ◌∷◌, ◌++◌, length, take, drop, decimal, count_by, Option, ◌==◌, nat_eq, nat_le}
use Rattle.std.specs.List.{range_with_len}
use Rattle.kinds.specs.Laws.{KindLaws}
use Rattle.names.specs.Spellings.{spelt}
use Rattle.records.specs.declared.SlotRecord.{SlotRecord}
use Rattle.records.specs.Tables.{first_at, count_at}
use Rattle.records.specs.Sheets.{Sheet, size, kind_of}
use Rattle.vocabulary.specs.Texts.{Text, bytes}

-- ---- tags

-- how many slots lead to the place p
abbrev pub leading : {K : Type 0} → Sheet K → ℕ → ℕ
leading s p = count_by (λ x. nat_eq x.target p) s.slots

-- a place has a tag if two or more slots lead to it, or if it is the root and one does
abbrev pub tagged : {K : Type 0} → Sheet K → ℕ → Bool
tagged s p = nat_le (cond (p == 0) 1 2) (leading s p)

-- how many places have a tag
abbrev pub tags : {K : Type 0} → Sheet K → ℕ
tags s = count_by (tagged s) (range_with_len 0 (size s))

-- the tag of the place p, where `written` has the places in the order of writing: tags count from 1
abbrev pub tag_of : {K : Type 0} → Sheet K → List ℕ → ℕ → ℕ
tag_of s [] p = 1
tag_of s (q ∷ written) p = cond (q == p) 1 (cond (tagged s q) (1 + tag_of s written p) (tag_of s written p))

-- the place p is among those written
abbrev pub has : List ℕ → ℕ → Bool
has [] p = false
has (q ∷ qs) p = q == p || has qs p

-- the slots of the place p, in rising order of their names
abbrev pub slots_of : {K : Type 0} → Sheet K → ℕ → List SlotRecord
slots_of s p = take (count_at s.places p) (drop (first_at s.places p) s.slots)

-- a hash sign, a tag's number, and what follows
abbrev pub hashed : ℕ → List ℕ → List ℕ
hashed n rest = 35 ∷ (decimal n ++ rest)

-- ---- the text

module _ {K F : Type 0} {below : K → K → Type 0} {top : K} {form : K → F} {kind : F → Option K} (laws : KindLaws below top form kind) (texts : K → Text) (s : Sheet K) where
  -- the text of a place up to its first slot: a bracket, its tag if it has one, and its kind
  abbrev pub opening : List ℕ → ℕ → List ℕ
  opening written p = 40 ∷ (cond (tagged s p) (hashed (tag_of s written p) (32 ∷ [])) [] ++ bytes (texts (kind_of laws s p)))

  -- the text of a place that was written before
  abbrev pub again : List ℕ → ℕ → List ℕ
  again written p = 40 ∷ hashed (tag_of s written p) (41 ∷ [])

  -- the name of a slot, between two spaces
  abbrev pub naming : SlotRecord → List ℕ
  naming x = 32 ∷ (spelt x.name ++ (32 ∷ []))

  -- Writing comes to this: `left` has for each open place, the innermost first, its slots that are still to be written; `written` has
  -- the places written so far, in the order of writing; and `text` is what is written so far.
  pub data Walk : (left : List (List SlotRecord)) (written text : List ℕ) → Type 0 where
    -- it begins with the root
    begins : Walk (slots_of s 0 ∷ []) (0 ∷ []) (opening [] 0)
    -- a place with no slots left ends
    closes : {left : List (List SlotRecord)} {written text : List ℕ} → Walk ([] ∷ left) written text → Walk left written (text ++ (41 ∷ []))
    -- the next slot leads to a place that was written before, which is named by its tag
    refers : {x : SlotRecord} {xs : List SlotRecord} {left : List (List SlotRecord)} {written text : List ℕ}
        → Walk ((x ∷ xs) ∷ left) written text → has written x.target ≡ true
        → Walk (xs ∷ left) written (text ++ (naming x ++ again written x.target))
    -- or it leads to a place that was not, which begins
    enters : {x : SlotRecord} {xs : List SlotRecord} {left : List (List SlotRecord)} {written text : List ℕ}
        → Walk ((x ∷ xs) ∷ left) written text → has written x.target ≡ false
        → Walk (slots_of s x.target ∷ (xs ∷ left)) (written ++ (x.target ∷ [])) (text ++ (naming x ++ opening written x.target))

  -- the text of the sheet: writing has come to the end, and no place is open
  pub record Shown (text : List ℕ) : Type 0 where
    pub written : List ℕ
    pub walk : Walk [] written text

  -- more than 1,000 places are open at once
  pub record TooDeep : Type 0 where
    pub left : List (List SlotRecord)
    pub written : List ℕ
    pub text : List ℕ
    pub walk : Walk left written text
    pub deep : 1000 < length left
