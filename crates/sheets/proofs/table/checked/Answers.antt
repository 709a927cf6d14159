use Rattle.std.proofs.Common.{refl, inl, inr, arith}
use Rattle.std.proofs.lemmas.Bool.Decides.{not_from_Decides}
use Rattle.sheets.proofs.Forming.{refuses_counts, refuses_names, refuses_numbering, passes}
use Rattle.sheets.proofs.table.checked.Goals as goal
use Rattle.sheets.proofs.table.checked.Goals.{then-not-is_counted-via-then-not-is_counted, then-not-is_counted-via-else-not-is_counted+then-not-is_aimed}
use Rattle.sheets.proofs.table.checked.Goals.{then-not-is_named-via-then-not-is_named, then-not-is_named-via-else-not-is_named+then-not-is_rising}

pub returns-then-not-is_counted-clause-answer : goal.returns-then-not-is_counted-clause-answer
returns-then-not-is_counted-clause-answer g c =
    refuses_counts _ _ _ _ (omega arith) (omega arith) (omega arith) (omega arith) (omega arith)
    (elim c.then-not-is_counted.branch [
      | then-not-is_counted-via-then-not-is_counted w ↦ inl (not_from_Decides _ w.if-not-is_counted.ensures refl)
      | then-not-is_counted-via-else-not-is_counted+then-not-is_aimed w ↦ inr (not_from_Decides _ w.if-not-is_aimed.ensures refl)
    ])

pub returns-then-not-is_named-clause-answer : goal.returns-then-not-is_named-clause-answer
returns-then-not-is_named-clause-answer g c =
    refuses_names _ _ _ _ (omega arith) (omega arith) (omega arith) (omega arith) (omega arith)
    (c.if-not-is_counted.ensures.0 refl) (c.if-not-is_aimed.ensures.0 refl)
    (elim c.then-not-is_named.branch [
      | then-not-is_named-via-then-not-is_named w ↦ inl (not_from_Decides _ w.if-not-is_named.ensures refl)
      | then-not-is_named-via-else-not-is_named+then-not-is_rising w ↦ inr (not_from_Decides _ w.if-not-is_rising.ensures refl)
    ])

pub returns-then-other_numbering-clause-answer : goal.returns-then-other_numbering-clause-answer
returns-then-other_numbering-clause-answer g c =
    refuses_numbering _ _ _ _ (omega arith) (omega arith) (omega arith) (omega arith) (omega arith)
    (c.if-not-is_counted.ensures.0 refl) (c.if-not-is_aimed.ensures.0 refl) (c.if-not-is_named.ensures.0 refl) (c.if-not-is_rising.ensures.0 refl)
    (c.if-other_numbering.ensures.0 refl)

pub returns-clause-answer : goal.returns-clause-answer
returns-clause-answer g c =
    passes _ _ _ _ (omega arith) (omega arith) (omega arith) (omega arith) (omega arith)
    (c.if-not-is_counted.ensures.0 refl) (c.if-not-is_aimed.ensures.0 refl) (c.if-not-is_named.ensures.0 refl) (c.if-not-is_rising.ensures.0 refl)
    (not_from_Decides _ c.if-other_numbering.ensures refl)
