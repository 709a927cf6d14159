-- Writing has one way: after as many turns it has come to the same, and at its end there is no further turn.
use Rattle.std.proofs.Common.{◌≡◌, ℕ, suc, ◌<◌, Bool, List, [], ◌∷◌, ◌++◌, Option, refl, ⊎_elim, arith}
use Rattle.kinds.specs.Laws.{KindLaws}
use Rattle.records.specs.declared.SlotRecord.{SlotRecord}
use Rattle.records.specs.Sheets.{Sheet}
use Rattle.vocabulary.specs.Texts.{Text}
use Rattle.std.proofs.lemmas.Bool.{cases_order}
use Rattle.showing.specs.Shown.{slots_of, has, naming, opening, again, Walk}
use Rattle.showing.specs.Shown.Walk.{begins, closes, refers, enters}
use Rattle.showing.specs.Walking.{OneText}

-- what writing has come to, twice the same
record Same (l l' : List (List SlotRecord)) (w w' t t' : List ℕ) : Type 0 where
  left : l ≡ l'
  written : w ≡ w'
  text : t ≡ t'

module _ {K F : Type 0} {below : K → K → Type 0} {top : K} {form : K → F} {kind : F → Option K} (laws : KindLaws below top form kind) (texts : K → Text) (s : Sheet K) where
  abbrev turns : {left : List (List SlotRecord)} {written text : List ℕ} → Walk laws texts s left written text → ℕ
  turns begins = 0
  turns (closes w) = suc (turns w)
  turns (refers w old) = suc (turns w)
  turns (enters w new) = suc (turns w)

  same : {left left' : List (List SlotRecord)} {written written' text text' : List ℕ} (v : Walk laws texts s left written text) (w : Walk laws texts s left' written' text') → turns v ≡ turns w → Same left left' written written' text text'
  same begins begins e = record { left = refl; written = refl; text = refl }
  same begins (closes w) e = absurd (omega arith)
  same begins (refers w old) e = absurd (omega arith)
  same begins (enters w new) e = absurd (omega arith)
  same (closes v) begins e = absurd (omega arith)
  same (refers v old) begins e = absurd (omega arith)
  same (enters v new) begins e = absurd (omega arith)
  same (closes {left} {written} {text} v) (closes {left = left'} w) e =
      let h = same v w (omega arith) in
      let l : left ≡ left' = cc h.left in
      record { left = l; written = h.written; text = λ i. h.text i ++ (41 ∷ []) }
  same (closes v) (refers w old) e =
      let h = same v w (omega arith) in
      let z : ◌≡◌ {A = ℕ} 0 1 = cc h.left in absurd (omega arith)
  same (closes v) (enters w new) e =
      let h = same v w (omega arith) in
      let z : ◌≡◌ {A = ℕ} 0 1 = cc h.left in absurd (omega arith)
  same (refers v old) (closes w) e =
      let h = same v w (omega arith) in
      let z : ◌≡◌ {A = ℕ} 0 1 = cc h.left in absurd (omega arith)
  same (enters v new) (closes w) e =
      let h = same v w (omega arith) in
      let z : ◌≡◌ {A = ℕ} 0 1 = cc h.left in absurd (omega arith)
  same (refers {x} {xs} {left} v old) (refers {x = x'} {xs = xs'} {left = left'} w old') e =
      let h = same v w (omega arith) in
      let p : x ≡ x' = cc h.left in
      let q : xs ≡ xs' = cc h.left in
      let l : left ≡ left' = cc h.left in
      record {
        left = λ i. q i ∷ l i;
        written = h.written;
        text = λ i. h.text i ++ (naming laws texts s (p i) ++ again laws texts s (h.written i) (p i).target);
      }
  same (enters {x} {xs} {left} v new) (enters {x = x'} {xs = xs'} {left = left'} w new') e =
      let h = same v w (omega arith) in
      let p : x ≡ x' = cc h.left in
      let q : xs ≡ xs' = cc h.left in
      let l : left ≡ left' = cc h.left in
      record {
        left = λ i. slots_of s (p i).target ∷ (q i ∷ l i);
        written = λ i. h.written i ++ ((p i).target ∷ []);
        text = λ i. h.text i ++ (naming laws texts s (p i) ++ opening laws texts s (h.written i) (p i).target);
      }
  same (refers {x} {xs} {left} v old) (enters {x = x'} {xs = xs'} {left = left'} w new) e =
      let h = same v w (omega arith) in
      let p : x ≡ x' = cc h.left in
      let t : ◌≡◌ {A = Bool} _ _ = (λ i. has (h.written i) (p i).target) in
      let z : ◌≡◌ {A = ℕ} 0 1 = cc (t, old, new) in absurd (omega arith)
  same (enters {x} {xs} {left} v new) (refers {x = x'} {xs = xs'} {left = left'} w old) e =
      let h = same v w (omega arith) in
      let p : x ≡ x' = cc h.left in
      let t : ◌≡◌ {A = Bool} _ _ = (λ i. has (h.written i) (p i).target) in
      let z : ◌≡◌ {A = ℕ} 0 1 = cc (t, old, new) in absurd (omega arith)

  not_yet : {left ys : List (List SlotRecord)} {y : List SlotRecord} {written written' text text' : List ℕ} → left ≡ [] → (v : Walk laws texts s left written text) (w : Walk laws texts s (y ∷ ys) written' text') → turns v ≡ turns w → ⊥
  not_yet none v w e =
      let h = same v w e in
      let z : ◌≡◌ {A = ℕ} 0 1 = cc h.left in omega arith

  -- past its end there is no turn
  ended : {left left' : List (List SlotRecord)} {written written' text text' : List ℕ} → left ≡ [] → (v : Walk laws texts s left written text) (w : Walk laws texts s left' written' text') → turns v < turns w → ⊥
  ended none v begins h = omega arith
  ended none v (closes w) h = ⊎_elim (λ e. not_yet none v w e) (⊎_elim (λ l. ended none v w l) (λ l. omega arith)) (cases_order (turns v) (turns w))
  ended none v (refers w old) h = ⊎_elim (λ e. not_yet none v w e) (⊎_elim (λ l. ended none v w l) (λ l. omega arith)) (cases_order (turns v) (turns w))
  ended none v (enters w new) h = ⊎_elim (λ e. not_yet none v w e) (⊎_elim (λ l. ended none v w l) (λ l. omega arith)) (cases_order (turns v) (turns w))

  pub one_text : OneText laws texts s
  one_text one other a b =
      ⊎_elim (λ e. (same a.walk b.walk e).text)
      (⊎_elim (λ l. absurd (ended refl a.walk b.walk l)) (λ l. absurd (ended refl b.walk a.walk l)))
      (cases_order (turns a.walk) (turns b.walk))
