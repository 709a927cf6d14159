-- A well formed sheet is made by pushing the slots of a place, then the place, and so on.
use Rattle.std.proofs.Common.{◌≡◌, ℕ, zero, suc, ◌+◌, ◌-◌, ◌<◌, ◌≤◌, List, [], ◌∷◌, ◌++◌, length, sym, refl, arith}
use Rattle.std.proofs.lemmas.List.{length_push}
use Rattle.records.specs.declared.PlaceRecord.{PlaceRecord}
use Rattle.records.specs.declared.SlotRecord.{SlotRecord}
use Rattle.records.specs.Tables.{first_at, name_at, met, WellFormed}
use Rattle.records.proofs.Pushing.{name_old, name_new, target_old, target_new, met_old, first_old, first_new, count_old, count_new}
use Rattle.numbering.specs.Writing.{Building}

module _ {F : Type 0} where
  pub nothing : Building {F = F} [] [] 0
  nothing =
      record {
        begins = omega arith;
        none = λ e. refl;
        first = λ h. absurd (omega arith);
        running = λ p h. absurd (omega arith);
        last = λ p e. absurd (omega arith);
        ends = λ p h. absurd (omega arith);
        rising = λ p i h. absurd (omega arith);
        here = λ i h k. absurd (omega arith);
        begun = λ p h. absurd (omega arith);
        close = λ i h. absurd (omega arith);
      }

  module _ (ps : List (PlaceRecord F)) (ss : List SlotRecord) (b : ℕ) (g : Building ps ss b) where
    pub push_slot : (x : SlotRecord) → (b < length ss → name_at ss (length ss - 1) < x.name) → x.target ≤ met ss (length ss) → Building ps (ss ++ x ∷ []) b
    push_slot x up near =
        let long = length_push ss x in
        record {
          begins = omega (arith, g.begins);
          none = g.none;
          first = g.first;
          running = g.running;
          last = g.last;
          ends = λ p h. omega (arith, g.ends p h);
          rising = λ p i h k l. grind (arith, g.ends p h, g.begins, g.rising p i h k l, name_old ss x i, name_old ss x (suc i));
          here = λ i h k. grind (arith, g.here i h, name_old ss x i, name_old ss x (suc i), name_new ss x (suc i), up);
          begun = λ p h. grind (arith, g.ends p h, g.begins, g.begun p h, met_old ss x (first_at ps p));
          close = λ i h. grind (arith, g.close i, target_old ss x i, target_new ss x i, met_old ss x i, near);
        }

    pub push_place : (x : PlaceRecord F) → x.before ≡ b → x.before + x.count ≡ length ss → length ps < met ss b → Building (ps ++ x ∷ []) ss (length ss)
    push_place x from to soon =
        let long = length_push ps x in
        record {
          begins = omega arith;
          none = λ e. absurd (omega (arith, long));
          first = λ h. grind (arith, first_old ps x 0, first_new ps x 0, g.first, g.none, from);
          running = λ p h. grind (arith, long, first_old ps x (suc p), first_new ps x (suc p), first_old ps x p, count_old ps x p, g.running p, g.last p, from);
          last = λ p e. grind (arith, long, first_new ps x p, count_new ps x p, to);
          ends = λ p h. grind (arith, long, first_old ps x p, count_old ps x p, g.ends p, g.begins, first_new ps x p, count_new ps x p, to);
          rising = λ p i h l m. grind (arith, long, first_old ps x p, count_old ps x p, first_new ps x p, count_new ps x p, g.rising p i, g.here i, from, to);
          here = λ i h k. absurd (omega arith);
          begun = λ p h. grind (arith, long, first_old ps x p, first_new ps x p, g.begun p, from, soon);
          close = g.close;
        }

some_met : (ss : List SlotRecord) (i : ℕ) → 0 < met ss i
some_met ss zero = omega arith
some_met ss (suc i) = omega (arith, some_met ss i)

pub finish : {F : Type 0} (ps : List (PlaceRecord F)) (ss : List SlotRecord) → Building ps ss (length ss) → length ps ≡ met ss (length ss) → WellFormed ps ss
finish ps ss g full =
    let some = some_met ss (length ss) in
    record {
      rooted = omega arith;
      first = g.first (omega arith);
      running = g.running;
      last = g.last;
      rising = g.rising;
      begun = g.begun;
      close = g.close;
      full = sym full;
    }
