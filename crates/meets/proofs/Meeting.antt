-- The loop that takes each place into the one that stands for its class: what holds at each turn, a turn, and its stop where
-- there is no meet.
use Rattle.std.proofs.Common.{◌≡◌, ℕ, ◌+◌, ◌<◌, ◌≤◌, List, map, length, get_or, Option, unwrap_or, sym, refl, ap, ◌∙◌, subst, ⊎_elim, eq-or-lt_of_le, arith, below_more}
use Rattle.std.proofs.lemmas.List.{length-set}
use Rattle.std.proofs.lemmas.Bool.{cases_eq}
use Rattle.kinds.specs.Laws.{KindLaws}
use Rattle.records.specs.declared.PlaceRecord.{PlaceRecord}
use Rattle.records.specs.Tables.{kind_at}
use Rattle.records.specs.Sheets.{blank_place}
use Rattle.meets.specs.Classes.{class_of, Classes, Kept, kind_held, BelowClass, Met, NoMeet, MetInto, Apart}
use Rattle.meets.proofs.Held.{column_same, column_other, column_kept, held_same, held_other}

module _ {K F : Type 0} {below : K → K → Type 0} {top : K} {form : K → F} {kind : F → Option K} (laws : KindLaws below top form kind) (ends : List ℕ) where
  -- the first n places are taken in, and the kinds of the others are as they were
  pub record Going (n : ℕ) (old now : List (PlaceRecord F)) : Type 0 where
    pub kept : Kept ends old now
    pub met : Met laws ends n old now
    pub later : (x : ℕ) → n ≤ x → kind_held laws now x ≡ kind_held laws old x

  pub start : (ps : List (PlaceRecord F)) → Going 0 ps ps
  start ps = record {
    kept = record { size = refl; before = refl; count = refl; members = λ d x ne. refl };
    met = record { under = λ x l. absurd (omega arith); greatest = λ e k l s h. absurd (omega arith); own = λ e l s. absurd (omega arith) };
    later = λ x l. refl;
  }

  module _ (old now : List (PlaceRecord F)) (n : ℕ) (classes : Classes ends (length old)) (inside : n < length old) (going : Going n old now) where
    abbrev end : ℕ
    end = class_of ends n

    same_n : kind_held laws now n ≡ kind_held laws old n
    same_n = going.later n (omega arith)

    -- a kind that is at or below those of the class so far and of n is at or below what is to be met
    class_below : (k : K) → BelowClass laws ends (n + 1) old end k → below k (kind_held laws now end)
    class_below k h =
        ⊎_elim
        (λ e. subst (λ y. below k (kind_held laws now y)) (sym e) (subst (λ y. below k y) (sym same_n) (h n (omega arith) refl)))
        (λ l. going.met.greatest end k l (classes.settled n inside) (λ x j. h x (omega arith)))
        (eq-or-lt_of_le (classes.earlier n inside))

    place_below : (k : K) → BelowClass laws ends (n + 1) old end k → below k (kind_held laws now n)
    place_below k h = subst (λ y. below k y) (sym same_n) (h n (omega arith) refl)

    pub stop : (new : List (PlaceRecord F)) → Apart laws end n now new → NoMeet laws ends old
    stop new apart = record {
      place = end;
      inside = omega (arith, classes.earlier n inside);
      stands = classes.settled n inside;
      none = λ k h. let g : BelowClass laws ends (n + 1) old end k = λ x j. h x (omega arith) in apart.none k (class_below k g) (place_below k g);
    }

    module _ (new : List (PlaceRecord F)) (into : MetInto laws end n now new) where
      abbrev written : PlaceRecord F
      written = record { kind = form into.meet; before = (get_or now end (blank_place laws)).before; count = (get_or now end (blank_place laws)).count }

      within : end < length now
      within = omega (arith, classes.earlier n inside, going.kept.size)

      -- what the new table holds at the place that was written, and elsewhere
      form_same : (d : F) → kind_at d new end ≡ form into.meet
      form_same d = ap (λ (ps : List (PlaceRecord F)). kind_at d ps end) into.table ∙ column_same (λ r. r.kind) now end written d within

      form_other : (d : F) (x : ℕ) → (x ≡ end → ⊥) → kind_at d new x ≡ kind_at d now x
      form_other d x ne = ap (λ (ps : List (PlaceRecord F)). kind_at d ps x) into.table ∙ column_other (λ r. r.kind) now end written d x ne

      kind_same : kind_held laws new end ≡ into.meet
      kind_same =
          ap (λ ps. kind_held laws ps end) into.table
          ∙ held_same laws now end written within
          ∙ ap (λ (o : Option K). unwrap_or o top) (laws.reads into.meet)

      kind_other : (x : ℕ) → (x ≡ end → ⊥) → kind_held laws new x ≡ kind_held laws now x
      kind_other x ne = ap (λ ps. kind_held laws ps x) into.table ∙ held_other laws now end x written ne

      -- another place that stands for a class is among the first n
      earlier_end : (e : ℕ) → e < n + 1 → class_of ends e ≡ e → (e ≡ end → ⊥) → e < n
      earlier_end e l s ne = ⊎_elim (λ q. absurd (ne (sym s ∙ ap (class_of ends) q))) (λ d. omega arith) (cases_eq e n)

      under_more : (x : ℕ) → x < n + 1 → below (kind_held laws new (class_of ends x)) (kind_held laws old x)
      under_more =
          below_more (λ x. below (kind_held laws new (class_of ends x)) (kind_held laws old x)) n
          (λ x l. ⊎_elim
          (λ q. subst (λ y. below y (kind_held laws old x)) (sym (ap (kind_held laws new) q ∙ kind_same))
          (laws.transitive into.meet (kind_held laws now end) (kind_held laws old x) into.left
          (subst (λ y. below (kind_held laws now y) (kind_held laws old x)) q (going.met.under x l))))
          (λ ne. subst (λ y. below y (kind_held laws old x)) (sym (kind_other (class_of ends x) ne)) (going.met.under x l))
          (cases_eq (class_of ends x) end))
          (subst (λ y. below y (kind_held laws old n)) (sym kind_same) (subst (λ y. below into.meet y) same_n into.right))

      greatest_more : (e : ℕ) (k : K) → e < n + 1 → class_of ends e ≡ e → BelowClass laws ends (n + 1) old e k → below k (kind_held laws new e)
      greatest_more e k l s h =
          ⊎_elim
          (λ q.
          let g : BelowClass laws ends (n + 1) old end k = λ x j c. h x j (c ∙ sym q) in
          subst (λ y. below k y) (sym (ap (kind_held laws new) q ∙ kind_same)) (into.most k (class_below k g) (place_below k g)))
          (λ ne. subst (λ y. below k y) (sym (kind_other e ne)) (going.met.greatest e k (earlier_end e l s ne) s (λ x j. h x (omega arith))))
          (cases_eq e end)

      own_more : (e : ℕ) → e < n + 1 → class_of ends e ≡ e → kind_at (form top) new e ≡ form (kind_held laws new e)
      own_more e l s =
          ⊎_elim
          (λ q. subst (λ y. kind_at (form top) new y ≡ form (kind_held laws new y)) (sym q) (form_same (form top) ∙ ap form (sym kind_same)))
          (λ ne. form_other (form top) e ne ∙ going.met.own e (earlier_end e l s ne) s ∙ ap form (sym (kind_other e ne)))
          (cases_eq e end)

      pub step : Going (n + 1) old new
      step = record {
        kept = record {
          size = ap length into.table ∙ length-set now end written ∙ going.kept.size;
          before = ap (map (λ r. r.before)) into.table ∙ column_kept (λ r. r.before) now end written (blank_place laws) within refl ∙ going.kept.before;
          count = ap (map (λ r. r.count)) into.table ∙ column_kept (λ r. r.count) now end written (blank_place laws) within refl ∙ going.kept.count;
          members = λ d x ne. form_other d x (λ q. ne (ap (class_of ends) q ∙ classes.settled n inside ∙ sym q)) ∙ going.kept.members d x ne;
        };
        met = record { under = under_more; greatest = greatest_more; own = own_more };
        later = λ x l. kind_other x (λ q. omega (arith, classes.earlier n inside)) ∙ going.later x (omega arith);
      }
