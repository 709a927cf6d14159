-- The scan and the index form of the numbering say the same.
use Rattle.std.proofs.Common.{◌≡◌, ℕ, zero, suc, ◌<◌, ◌≤◌, max, cond, eqb, List, [], ◌∷◌, length, sym, refl, ap, ◌∙◌, arith}
use Rattle.std.proofs.lemmas.Bool.{cond_both, eqb-true, eqb-false}
use Rattle.records.specs.declared.SlotRecord.{SlotRecord}
use Rattle.records.specs.Tables.{target_at, met}
use Rattle.unification.specs.Scan.{Scan, Scanned}

-- `met`, over a list, from a counter
runs : List SlotRecord → ℕ → ℕ → ℕ
runs l next zero = next
runs l next (suc i) = max (runs l next i) (suc (target_at l i))

runs_tail : (x : SlotRecord) (l : List SlotRecord) (next i : ℕ) → runs (x ∷ l) next (suc i) ≡ runs l (max next (suc x.target)) i
unfolding runs
runs_tail x l next zero = refl
runs_tail x l next (suc i) = ap (λ n. max n (suc (target_at l i))) (runs_tail x l next i)

bump : (t next : ℕ) → t ≤ next → cond (eqb t next) (suc next) next ≡ max next (suc t)
bump t next h =
    cond_both (eqb t next) (suc next) next (λ n. n ≡ max next (suc t))
    (λ e. omega (arith, eqb-true t next e)) (λ e. omega (arith, eqb-false t next e))

Close : List SlotRecord → ℕ → Type 0
Close l next = (i : ℕ) → i < length l → target_at l i ≤ runs l next i

close_cons : (x : SlotRecord) (l : List SlotRecord) (next : ℕ) → x.target ≤ next → Close l (max next (suc x.target)) → Close (x ∷ l) next
unfolding Close runs
close_cons x l next h c zero k = h
close_cons x l next h c (suc i) k = rw (runs_tail x l next i) (c i (omega arith))

there : (l : List SlotRecord) (next n : ℕ) → Scan l next n → Close l next × (runs l next (length l) ≡ n)
unfolding Close runs
there [] next n h = (λ i k. absurd (omega arith), h)
there (x ∷ l) next n h =
    let ih = there l (max next (suc x.target)) n (rw (bump x.target next h.0) at h.1) in
    (close_cons x l next h.0 ih.0, runs_tail x l next (length l) ∙ ih.1)

back : (l : List SlotRecord) (next n : ℕ) → Close l next → runs l next (length l) ≡ n → Scan l next n
unfolding Close runs
back [] next n close full = full
back (x ∷ l) next n close full =
    let h : x.target ≤ next = close 0 (omega arith) in
    let tail : Close l (max next (suc x.target)) = λ i k. rw (runs_tail x l next i) at (close (suc i) (omega arith)) in
    (h, rw (bump x.target next h) (back l (max next (suc x.target)) n tail (sym (runs_tail x l next (length l)) ∙ full)))

met_runs : (ss : List SlotRecord) (i : ℕ) → met ss i ≡ runs ss 1 i
unfolding runs
met_runs ss zero = refl
met_runs ss (suc i) = ap (λ n. max n (suc (target_at ss i))) (met_runs ss i)

pub scanned : Scanned
unfolding Close
scanned ss n = (
  λ h.
      let t = there ss 1 n h in
      (λ i k. rw (met_runs ss i) (t.0 i k), met_runs ss (length ss) ∙ t.1),
  λ close full. back ss 1 n (λ i k. rw (met_runs ss i) at (close i k)) (sym (met_runs ss (length ss)) ∙ full),
)
