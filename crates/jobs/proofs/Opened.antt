-- What stands in tables that were just made blank.
use Rattle.std.proofs.Common.{◌≡◌, ℕ, zero, suc, ◌+◌, ◌-◌, ◌<◌, ◌≤◌, min, max, List, [], ◌∷◌, ◌++◌, length, take, drop, replicate, Option, unwrap_or, sym, refl, ap, ◌∙◌, subst, arith, length-take, append-nil}
use lib.ListN.{length-replicate, get_or-replicate}
use Rattle.std.specs.List.{range_with_len}
use Rattle.std.proofs.lemmas.List.{get_or_append_left, drop_all}
use Rattle.std.proofs.lemmas.List.FromFn.{length-range_with_len, get_or-range_with_len}
use Rattle.kinds.specs.Laws.{KindLaws}
use Rattle.records.specs.declared.PlaceRecord.{PlaceRecord}
use Rattle.records.specs.declared.SlotRecord.{SlotRecord}
use Rattle.records.specs.Tables.{WellFormed, first_at, count_at, met}
use Rattle.records.specs.Sheets.{blank_place, blank_sheet, sheet_of}
use Rattle.jobs.specs.declared.job.State.{State}
use Rattle.jobs.specs.Sound.{Sound}
use Rattle.jobs.specs.Contents.{filled, numbered, blanked, Blank, OwnLinks}

-- ---- what stands at each number

pub filled_blank : {X : Type 0} (n : ℕ) (x : X) (xs : List X) (m : ℕ) → Blank x (filled n x xs) m n
filled_blank n x xs m k low high =
    let within : k < length (replicate n x) = omega (arith, length-replicate n x) in
    get_or_append_left (replicate n x) (drop n xs) x k within ∙ get_or-replicate n k x x high

pub numbered_own : (n : ℕ) (xs : List ℕ) → OwnLinks (numbered n xs) n
numbered_own n xs k high =
    let within : k < length (range_with_len 0 n) = omega (arith, length-range_with_len 0 n) in
    let own : 0 + k ≡ k = omega arith in
    get_or_append_left (range_with_len 0 n) (drop n xs) 0 k within ∙ get_or-range_with_len 0 n k 0 high ∙ own

-- ---- what blanking and numbering leave

pub front_filled : {X : Type 0} (n p : ℕ) (own blank : X) (old : List X) {new : List X} → new ≡ take 0 old ++ replicate (n - 0) own ++ drop (max 0 n) old → own ≡ blank → n ≡ p → new ≡ filled p blank old
front_filled n p own blank old e same is =
    let zero : n - 0 ≡ p = omega arith in
    let most : max 0 n ≡ p = omega arith in
    e ∙ (λ i. replicate (zero i) (same i) ++ drop (most i) old)

pub front_numbered : (n p : ℕ) (old : List ℕ) {own : List ℕ} → n ≡ p → p ≤ length old → p ≤ 1000 → own ≡ range_with_len 0 (min 65536 (length (take n old))) ++ drop 65536 (take n old) → own ++ drop n old ≡ numbered p old
front_numbered n p old is room few e =
    let long : length (take n old) ≡ n = length-take n old ∙ omega arith in
    let count : min 65536 (length (take n old)) ≡ p = omega arith in
    let none : drop 65536 (take n old) ≡ [] = drop_all 65536 (take n old) (omega arith) in
    ap (λ l. l ++ drop n old) (e ∙ (λ i. range_with_len 0 (count i) ++ none i) ∙ append-nil (range_with_len 0 p)) ∙ ap (λ k. range_with_len 0 p ++ drop k old) is

-- ---- a table that a job with room was opened on

blanked_some : {X : Type 0} (p n : ℕ) (x : X) (xs : List X) → 0 < p → filled n x xs ≡ blanked p n x xs
blanked_some zero n x xs h = absurd (omega arith)
blanked_some (suc p) n x xs h = refl

pub table_opened : {X : Type 0} (p n : ℕ) (x : X) (xs : List X) {new : List X} → 0 < p → new ≡ filled n x xs → new ≡ blanked p n x xs
table_opened p n x xs h e = e ∙ blanked_some p n x xs h

pub table_blank : {X : Type 0} (m : ℕ) (x : X) (xs : List X) {new : List X} {n from : ℕ} → new ≡ filled m x xs → n ≡ m → Blank x new from n
table_blank m x xs {from = from} e a k low high = let blank = filled_blank m x xs from k low (omega arith) in cc

pub links_own : (m : ℕ) (xs : List ℕ) {new : List ℕ} {n : ℕ} → new ≡ numbered m xs → n ≡ m → OwnLinks new n
links_own m xs e a k high = let own = numbered_own m xs k (omega arith) in cc

-- ---- the blank sheet

pub first_filled : {X : Type 0} (p : ℕ) (x : X) (xs : List X) → 0 < p → take 1 (filled p x xs) ≡ x ∷ []
first_filled zero x xs h = absurd (omega arith)
first_filled (suc p) x xs h = refl

no_slots : {F : Type 0} (f : F) (p : ℕ) → let ps : List (PlaceRecord F) = record { kind = f; before = 0; count = 0 } ∷ [] in first_at ps p + count_at ps p ≡ 0
no_slots f zero = refl
no_slots f (suc p) = refl

root_begun : {F : Type 0} (f : F) (p : ℕ) → p < 1 → p < met [] (first_at {F = F} (record { kind = f; before = 0; count = 0 } ∷ []) p)
root_begun f zero h = omega arith
root_begun f (suc p) h = absurd (omega arith)

-- one place without slots is a sheet
pub one_formed : {F : Type 0} (f : F) → WellFormed (record { kind = f; before = 0; count = 0 } ∷ []) []
one_formed f = record {
  rooted = omega arith;
  first = refl;
  running = λ p h. absurd (omega arith);
  last = λ p h. no_slots f p;
  rising = λ p i h low high. absurd (omega (arith, no_slots f p));
  begun = root_begun f;
  close = λ i h. absurd (omega arith);
  full = refl;
}

-- a job that was just opened is sound
pub sound_opened : {F : Type 0} (p : ℕ) (f : F) (xs : List (PlaceRecord F)) (ls : List ℕ) {s : State} {places : List (PlaceRecord F)} {slots : List SlotRecord} {links : List ℕ} → 0 < p → places ≡ filled p (record { kind = f; before = 0; count = 0 }) xs → links ≡ numbered p ls → s.limits.places ≡ p → s.standing.places ≡ 1 → s.standing.slots ≡ 0 → Sound s places slots links
sound_opened p f xs ls {s} {places} {slots} h a b lim one none =
    let blank : PlaceRecord _ = record { kind = f; before = 0; count = 0 } in
    let first = first_filled p blank xs h in
    let place : take s.standing.places places ≡ blank ∷ [] = cc in
    let rest : take s.standing.slots slots ≡ [] = ap (λ k. take k slots) none in
    let formed = subst (λ ps. WellFormed ps (take s.standing.slots slots)) (sym place) in
    record {
      formed = formed (subst (λ ss. WellFormed (blank ∷ []) ss) (sym rest) (one_formed f));
      own = links_own p ls b lim;
    }

module _ {K F : Type 0} {below : K → K → Type 0} {top : K} {form : K → F} {kind : F → Option K} (laws : KindLaws below top form kind) where
  one_blank : sheet_of laws (blank_place laws ∷ []) [] ≡ blank_sheet laws
  one_blank = ap (λ o. record { places = record { kind = unwrap_or o top; before = 0; count = 0 } ∷ []; slots = [] }) (laws.reads top)

  -- and its standing sheet is the blank one
  pub sheet_opened : (p : ℕ) (xs : List (PlaceRecord F)) (slots : List SlotRecord) {n m : ℕ} {places : List (PlaceRecord F)} → 0 < p → places ≡ filled p (blank_place laws) xs → n ≡ 1 → m ≡ 0 → sheet_of laws (take n places) (take m slots) ≡ blank_sheet laws
  sheet_opened p xs slots {n} {m} {places} h a one none =
      let first = first_filled p (blank_place laws) xs h in
      let place : take n places ≡ blank_place laws ∷ [] = cc in
      let rest : take m slots ≡ [] = ap (λ k. take k slots) none in
      ap (λ ps. sheet_of laws ps (take m slots)) place ∙ ap (λ ss. sheet_of laws (blank_place laws ∷ []) ss) rest ∙ one_blank
