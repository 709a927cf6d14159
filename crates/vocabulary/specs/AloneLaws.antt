-- The laws of the vocabularies of the catalogue alone and of ranges alone, shown. (A proof, and nothing that a reader has to
-- believe: it stands here because the trait takes it as a ghost member.) What holds of all sixteen words is one test that antt
-- computes over the catalogue.
use Rattle.std.specs.Prelude.{◌≡◌, ℕ, zero, suc, ◌<◌, Bool, true, false, ◌&&◌, ◌||◌, T, List, [], ◌∷◌, length, Some, None, Option, ◌==◌, nat_le, slice_index}
use Rattle.std.proofs.Common.{inl, inr, ap, arith}
use Rattle.std.proofs.lemmas.Bool.{and_parts, or_cases, leb-true, eqb-true}
use Rattle.kinds.specs.declared.catalogue.Catalogue.{Catalogue}
use Rattle.kinds.specs.Catalogue as catalogue
use Rattle.kinds.specs.CatalogueLaws.{is_true, all_kinds, by_index}
use Rattle.ranges.specs.declared.range.Range.{Range}
use Rattle.ranges.specs.RangeLaws as ranges
use Rattle.names.specs.Names.{Letter, Digit, NameByte}
use Rattle.vocabulary.specs.Texts.{Word, Ends, VocabularyLaws}
use Rattle.vocabulary.specs.Alone.{named, catalogue_words, catalogue_ranges, catalogue_texts, range_words, range_ranges, range_texts}

-- ---- the test for the words of a line

abbrev name_byte : ℕ → Bool
name_byte b = (nat_le 97 b && nat_le b 122) || ((nat_le 48 b && nat_le b 57) || b == 95)

abbrev name_bytes : List ℕ → Bool
name_bytes [] = true
name_bytes (b ∷ bs) = name_byte b && name_bytes bs

abbrev worded : List ℕ → Bool
worded [] = false
worded (b ∷ bs) = (nat_le 97 b && nat_le b 122) && (nat_le (length (b ∷ bs)) 24 && name_bytes (b ∷ bs))

letter : (b : ℕ) → (nat_le 97 b && nat_le b 122) ≡ true → Letter b
letter b e = let p = and_parts (nat_le 97 b) (nat_le b 122) e in record { low = leb-true 97 b p.0; high = leb-true b 122 p.1 }

digit : (b : ℕ) → (nat_le 48 b && nat_le b 57) ≡ true → Digit b
digit b e = let p = and_parts (nat_le 48 b) (nat_le b 57) e in record { low = leb-true 48 b p.0; high = leb-true b 57 p.1 }

byte_of : (b : ℕ) → name_byte b ≡ true → NameByte b
byte_of b e =
    elim (or_cases (nat_le 97 b && nat_le b 122) _ e) [
      | inl h ↦ inl (letter b h)
      | inr h ↦ elim (or_cases (nat_le 48 b && nat_le b 57) _ h) [ inl d ↦ inr (inl (digit b d)) | inr u ↦ inr (inr (eqb-true b 95 u)) ]
    ]

bytes_of : (bs : List ℕ) → name_bytes bs ≡ true → (i : ℕ) → i < length bs → NameByte (slice_index bs i)
bytes_of [] e i h = absurd (omega arith)
bytes_of (b ∷ bs) e zero h = byte_of b (and_parts (name_byte b) (name_bytes bs) e).0
bytes_of (b ∷ bs) e (suc i) h = bytes_of bs (and_parts (name_byte b) (name_bytes bs) e).1 i (omega arith)

pub word_of : (w : List ℕ) → worded w ≡ true → Word w
word_of [] e = let z : ◌≡◌ {A = ℕ} 0 1 = cc in absurd (omega arith)
word_of (b ∷ bs) e =
    let p = and_parts (nat_le 97 b && nat_le b 122) _ e in
    let q = and_parts (nat_le (length (b ∷ bs)) 24) _ p.1 in
    record { some = omega arith; few = leb-true _ 24 q.0; first = letter b p.0; others = bytes_of (b ∷ bs) q.1 }

-- ---- the laws of the catalogue alone

abbrev reads_as : Option Catalogue → Catalogue → Bool
reads_as None k = false
reads_as (Some j) k = catalogue.index j == catalogue.index k

read_of : (o : Option Catalogue) (k : Catalogue) → T (reads_as o k) → o ≡ Some k
read_of None k t = absurd t
read_of (Some j) k t = ap Some (by_index j k t)

pub catalogue_word : (k : Catalogue) → Word (catalogue.word k)
catalogue_word k = word_of (catalogue.word k) (is_true (worded (catalogue.word k)) (all_kinds (λ x. worded (catalogue.word x)) tt k))

catalogue_reads : (k : Catalogue) → catalogue_words (catalogue.word k) ≡ Some k
unfolding catalogue_words named
catalogue_reads k = read_of (catalogue_words (catalogue.word k)) k (all_kinds (λ x. reads_as (catalogue_words (catalogue.word x)) x) tt k)

pub catalogue_laws : VocabularyLaws catalogue_words catalogue_ranges catalogue_texts
catalogue_laws = record { writable = catalogue_word; reads = catalogue_reads }

-- ---- the laws of ranges alone

pub range_ends : (r : Range) → Ends r.low r.high
range_ends r = record { least = r.ends.0; rise = r.ends.1; most = r.ends.2 }

pub range_laws : VocabularyLaws range_words range_ranges range_texts
range_laws = record { writable = range_ends; reads = (ranges.range_laws).reads }
