-- The pieces of a text as they are read: a kind, a place up to its first slot, a place written before, the name of a slot, a bracket.
use Rattle.std.proofs.Common.{◌≡◌, ℕ, ◌<◌, ◌≤◌, Bool, true, false, cond, eqb, ltb, List, [], ◌∷◌, ◌++◌, length, get_or, ℤ, pos, negsuc, ◌≤ℤ◌, Some, None, Option, refl, ap, ◌∙◌, subst, inl, inr, append_assoc, arith}
use lib.Signed.{lt_z}
use Rattle.std.specs.Int.{IsInRange, is_in_range}
use Rattle.std.specs.Fmt.{signed_decimal}
use Rattle.std.proofs.ByRecursion.{All-from_get_or}
use Rattle.std.proofs.lemmas.Int.{ints}
use Rattle.std.proofs.lemmas.Bool.{cond-true, cond-false, lt-ltb, le-ltb, ne_eqb, and_from, le-leb}
use Rattle.names.specs.Names as names
use Rattle.names.specs.Names.{Letter, NameByte, Name, IsName}
use Rattle.names.specs.Spellings.{spelt}
use Rattle.names.proofs.Spelt.{there_and_back}
use Rattle.vocabulary.specs.Texts as vocabulary
use Rattle.vocabulary.specs.Texts.{Text, Word, Ends, Writable, bytes}
use Rattle.tokens.specs.Tokens.{mark, word}
use Rattle.tokens.proofs.Stops.{Stops, WordLike}
use Rattle.reading.specs.declared.draft.Tag.{Tag}
use Rattle.reading.specs.declared.draft.Bracket.{Bracket}
use Rattle.reading.specs.declared.draft.Mode.{Mode}
use Rattle.reading.specs.declared.draft.Mode.TheVariants.{Begin, Opened, Hashed, Tagged, Low, Dotted, High, Ranged, Inside}
use Rattle.reading.specs.declared.draft.Target.TheVariants.{To}
use Rattle.reading.specs.Drafts.{Draft, described, named}
use Rattle.reading.specs.Steps.{go, described_at, by_tag, step, kind_first, close}
use Rattle.showing.specs.Shown.{hashed}
use Rattle.restating.proofs.Turns.{Reading, skip, reads_mark, reads_dots, reads_word, reads_number}

-- the draft in another mode, with one place more, with one slot more, and with a reference
module _ {K : Type 0} where
  abbrev pub in_mode : Mode → Draft K → Draft K
  in_mode m d = record { mode = m; top = d.top; places = d.places; slots = d.slots }

  abbrev pub placed : Option Tag → K → Draft K → Draft K
  placed g k d = record { mode = Inside; top = length d.places; places = d.places ++ (record { kind = k; parent = d.top; tag = g } ∷ []); slots = d.slots }

  abbrev pub slotted : ℕ → Draft K → Draft K
  slotted n d = record { mode = Begin; top = d.top; places = d.places; slots = d.slots ++ (record { owner = d.top; name = n; target = To (length d.places) } ∷ []) }

  abbrev pub referred : Tag → Draft K → Draft K
  referred t d = record { mode = Inside; top = d.top; places = d.places; slots = by_tag d.slots t }

-- a tag of the number n where there is one
abbrev pub TagIs : Bool → ℕ → Option Tag → Type 0
TagIs true n g = (t : Tag) × (g ≡ Some t) × (t.number ≡ n)
TagIs false n g = g ≡ None

letter_in : (b : ℕ) → Letter b → IsInRange 97 122 b
letter_in b h = omega arith

word_like : (b : ℕ) → NameByte b → WordLike b
word_like b (inl l) = inl (omega arith)
word_like b (inr (inl d)) = inr (inl (omega arith))
word_like b (inr (inr e)) = inr (inr e)

up : (a b c : ℤ) → a ≤ℤ b → b ≤ℤ c → a ≤ℤ c
up a b c p q = omega (arith, ints)

not_above : (a b : ℤ) → a ≤ℤ b → lt_z b a ≡ false
not_above a b h = grind (arith, ints)

few_tags : (n : ℕ) → 1 ≤ n → n ≤ 99 → is_in_range 1 99 n ≡ true
few_tags n some few = and_from _ _ (le-leb 1 n some) (le-leb n 99 few)

few_low : (n : ℕ) → negsuc 2147483647 ≤ℤ pos n
few_low n = omega (arith, ints)

few_high : (n : ℕ) → n ≤ 99 → pos n ≤ℤ pos 2147483647
few_high n few = omega (arith, ints)

module _ {K : Type 0} (words : List ℕ → Option K) (ranges : ℤ → ℤ → Option K) (pl sl : ℕ) (line : List ℕ) where
  abbrev Left : List ℕ → Draft K → Type 0
  Left rest d = Reading words ranges pl sl line rest d

  -- ---- a kind
  module _ (m : Mode) (g : Option Tag) (d : Draft K) (rest : List ℕ) (stops : Stops rest) (k : K)
      (on_word : (w : List ℕ) (i j : ℕ) → step words ranges pl sl line (in_mode m d) (word w) i j ≡ kind_first words ranges pl line g (in_mode m d) (word w) i j)
      (on_mark_lem : (i j : ℕ) → step words ranges pl sl line (in_mode m d) (mark 91) i j ≡ kind_first words ranges pl line g (in_mode m d) (mark 91) i j)
      (fresh : described_at g d.places ≡ None) (room : length d.places < pl) where
    roomy : {X : Type 0} (x y : X) → cond (ltb (length d.places) pl) x y ≡ x
    roomy x y = cond-true _ x y (lt-ltb _ pl room)

    kind_word : (w : List ℕ) → Word w → words w ≡ Some k → Left (w ++ rest) (in_mode m d) → Left rest (placed g k d)
    kind_word w h e r =
        (reads_word words ranges pl sl line (λ i. placed g k d) rest w (letter_in (get_or w 0 0) h.first) (All-from_get_or WordLike w 0 (λ i l. word_like (get_or w i 0) (h.others i l))) h.few stops r
        (λ i j. on_word w i j ∙ rw (fresh, e) (roomy _ _))).1

    kind_range : (low high : ℤ) → Ends low high → ranges low high ≡ Some k → Left (bytes (vocabulary.range low high) ++ rest) (in_mode m d) → Left rest (placed g k d)
    kind_range low high h e r =
        let whole : bytes (vocabulary.range low high) ++ rest ≡ 91 ∷ (signed_decimal low ++ (46 ∷ 46 ∷ (signed_decimal high ++ (93 ∷ rest)))) = simp append_assoc in
        let a = reads_mark words ranges pl sl line (λ i. in_mode (Low (record { tag = g; byte = i })) d) (signed_decimal low ++ (46 ∷ 46 ∷ (signed_decimal high ++ (93 ∷ rest)))) 91 refl
        (subst (λ l. Left l (in_mode m d)) whole r) (λ i j. on_mark_lem i j ∙ rw fresh (roomy _ _)) in
        ends_read (record { tag = g; byte = a.0 }) refl a.1
      where
        ends_read : (o : Bracket) → o.tag ≡ g → Left (signed_decimal low ++ (46 ∷ 46 ∷ (signed_decimal high ++ (93 ∷ rest)))) (in_mode (Low o) d) → Left rest (placed g k d)
        ends_read o is r =
            let b = reads_number words ranges pl sl line (λ i. in_mode (Dotted o low) d) (46 ∷ 46 ∷ (signed_decimal high ++ (93 ∷ rest))) low
            h.least (up low high (pos 2147483647) h.rise h.most) refl r (λ i j. refl) in
            let c = reads_dots words ranges pl sl line (λ i. in_mode (High o low) d) (signed_decimal high ++ (93 ∷ rest)) b.1 (λ i j. refl) in
            let f = reads_number words ranges pl sl line (λ i. in_mode (Ranged o low high) d) (93 ∷ rest) high
            (up (negsuc 2147483647) low high h.least h.rise) h.most refl c.1 (λ i j. rw (not_above low high h.rise) refl) in
            (reads_mark words ranges pl sl line (λ i. placed g k d) rest 93 refl f.1 (λ i j. rw (e, is) (roomy _ _))).1

    reads_kind : (t : Text) → Writable t → vocabulary.reading words ranges t ≡ Some k → Left (bytes t ++ rest) (in_mode m d) → Left rest (placed g k d)
    reads_kind (vocabulary.word w) h e r = kind_word w h e r
    reads_kind (vocabulary.range low high) h e r = kind_range low high h e r

  -- ---- a bracket, a hash sign and a tag
  module _ (d : Draft K) (later : List ℕ) (n : ℕ) (some : 1 ≤ n) (few : n ≤ 99) (stops : Stops later) where
    abbrev tag_at : ℕ → Tag
    tag_at i = record { number = n; byte = i }

    reads_tag : Left (40 ∷ (35 ∷ (signed_decimal (pos n) ++ later))) (in_mode Begin d) → (i : ℕ) × Left later (in_mode (Tagged (tag_at i)) d)
    reads_tag r =
        let a = reads_mark words ranges pl sl line (λ i. in_mode Opened d) (35 ∷ (signed_decimal (pos n) ++ later)) 40 refl r (λ i j. refl) in
        let b = reads_mark words ranges pl sl line (λ i. in_mode Hashed d) (signed_decimal (pos n) ++ later) 35 refl a.1 (λ i j. refl) in
        reads_number words ranges pl sl line (λ i. in_mode (Tagged (tag_at i)) d) later (pos n) (few_low n) (few_high n few) stops b.1 (λ i j. rw (few_tags n some few) refl)

  -- ---- a place up to its first slot
  module _ (d : Draft K) (rest : List ℕ) (stops : Stops rest) (k : K) (text : Text) (writable : Writable text) (reads : vocabulary.reading words ranges text ≡ Some k)
      (room : length d.places < pl) where
    pub reads_opening : (t : Bool) (n : ℕ) → (t ≡ true → (1 ≤ n) × (n ≤ 99) × (described d.places n ≡ false))
        → Left ((40 ∷ (cond t (hashed n (32 ∷ [])) [] ++ bytes text)) ++ rest) (in_mode Begin d) → (g : Option Tag) × TagIs t n g × Left rest (placed g k d)
    reads_opening false n few r =
        let a = reads_mark words ranges pl sl line (λ i. in_mode Opened d) (bytes text ++ rest) 40 refl r (λ i j. refl) in
        (None, refl, reads_kind Opened None d rest stops k (λ w i j. refl) (λ i j. refl) refl room text writable reads a.1)
    reads_opening true n few r =
        let whole : (40 ∷ (hashed n (32 ∷ []) ++ bytes text)) ++ rest ≡ 40 ∷ (35 ∷ (signed_decimal (pos n) ++ (32 ∷ (bytes text ++ rest)))) = simp append_assoc in
        let a = reads_tag d (32 ∷ (bytes text ++ rest)) n (few refl).0 (few refl).1 refl (subst (λ l. Left l (in_mode Begin d)) whole r) in
        tagged_kind (record { number = n; byte = a.0 }) refl (skip words ranges pl sl line a.1)
      where
        tagged_kind : (t : Tag) → t.number ≡ n → Left (bytes text ++ rest) (in_mode (Tagged t) d) → (g : Option Tag) × TagIs true n g × Left rest (placed g k d)
        tagged_kind t is r =
            let fresh : described_at (Some t) d.places ≡ None = cond-false _ _ _ (ap (described d.places) is ∙ (few refl).2) in
            (Some t, (t, refl, is), reads_kind (Tagged t) (Some t) d rest stops k (λ w i j. refl) (λ i j. refl) fresh room text writable reads r)

  -- ---- a place written before
  pub reads_again : (d : Draft K) (rest : List ℕ) (n : ℕ) → 1 ≤ n → n ≤ 99 → 0 < length d.slots
      → Left ((40 ∷ hashed n (41 ∷ [])) ++ rest) (in_mode Begin d) → (t : Tag) × (t.number ≡ n) × Left rest (referred t d)
  reads_again d rest n some few slots r =
      let whole : (40 ∷ hashed n (41 ∷ [])) ++ rest ≡ 40 ∷ (35 ∷ (signed_decimal (pos n) ++ (41 ∷ rest))) = simp append_assoc in
      let a = reads_tag d (41 ∷ rest) n some few refl (subst (λ l. Left l (in_mode Begin d)) whole r) in
      let z : eqb (length d.slots) 0 ≡ false = ne_eqb _ 0 (λ e. omega arith) in
      let t : Tag = record { number = n; byte = a.0 } in
      (t, refl {a = n}, (reads_mark words ranges pl sl line (λ i. referred t d) rest 41 refl a.1 (λ i j. rw z refl)).1)

  -- ---- the name of a slot
  pub reads_name : (d : Draft K) (rest : List ℕ) (n : ℕ) → IsName n → named d.slots d.top n ≡ false → length d.slots < sl
      → Left ((32 ∷ (spelt n ++ (32 ∷ []))) ++ rest) (in_mode Inside d) → Left rest (slotted n d)
  reads_name d rest n is new room r =
      let whole : (32 ∷ (spelt n ++ (32 ∷ []))) ++ rest ≡ 32 ∷ (spelt n ++ (32 ∷ rest)) = simp append_assoc in
      let first = skip words ranges pl sl line (subst (λ l. Left l (in_mode Inside d)) whole r) in
      skip words ranges pl sl line (by (spelt n) (there_and_back.name n is) (there_and_back.there n is) first)
    where
      by : (w : List ℕ) → Name w → names.number w ≡ n → Left (w ++ (32 ∷ rest)) (in_mode Inside d) → Left (32 ∷ rest) (slotted n d)
      by w h e r =
          let short : ltb 12 (length w) ≡ false = le-ltb 12 (length w) h.few in
          let roomy : ltb (length d.slots) sl ≡ true = lt-ltb _ sl room in
          (reads_word words ranges pl sl line (λ i. slotted n d) (32 ∷ rest) w (letter_in (get_or w 0 0) h.first) (All-from_get_or WordLike w 0 (λ i l. word_like (get_or w i 0) (h.others i l))) (omega (arith, h.few)) refl r
          (λ i j. rw (short, e, new, roomy) refl)).1

  -- ---- a bracket that ends a place
  pub reads_close : (d : Draft K) (rest : List ℕ) (d₂ : Draft K) → close (in_mode Inside d) ≡ go d₂ → Left (41 ∷ rest) (in_mode Inside d) → Left rest d₂
  reads_close d rest d₂ e r = (reads_mark words ranges pl sl line (λ i. d₂) rest 41 refl r (λ i j. e)).1
