-- The tests of the reader say what makes a term good.
use Rattle.std.proofs.Common.{◌≡◌, ℕ, Bool, true, false, cond, ◌&&◌, eqb, leb, ◌⊎◌, List, [], ◌∷◌, map, ℤ, pos, negsuc, Some, None, Option, refl, ap, ◌∙◌, inl, inr, arith}
use Rattle.std.specs.Option.{option_or}
use Rattle.std.specs.Int.{is_in_range}
use Rattle.std.proofs.lemmas.Bool.{both_ways, cond-true, cases_Bool, eqb-true, eq-eqb, ne_eqb, leb-true, le-leb, and_from, and_parts, or_cases, or_parts, or_from, or_left, or_right}
use Rattle.reading.specs.declared.draft.Tag.{Tag}
use Rattle.reading.specs.declared.draft.Place.{Place}
use Rattle.reading.specs.declared.draft.Slot.{Slot}
use Rattle.reading.specs.declared.draft.Target.{Target}
use Rattle.reading.specs.declared.draft.Target.TheVariants.{To, ByTag}
use Rattle.reading.specs.Drafts.{numbered, described, named as named?}
use Rattle.reading.specs.Steps.{tag_number, undescribed_at, undescribed}
use Rattle.grammar.specs.Described.{tag_of, item_of, lead_to, link_of}
use Rattle.grammar.specs.Good.{IsTag, NewName, NewTag, HasTag, GoodLead, GoodLeads}

-- ---- good terms pass the tests

pub tag_good : (g : ℤ) (h : IsTag g) → tag_number g ≡ Some h.number
tag_good g h =
    ap tag_number h.is ∙
    cond-true (is_in_range 1 99 h.number) _ _ (and_from (leb 1 h.number) (leb h.number 99) (le-leb 1 h.number h.least) (le-leb h.number 99 h.most))

module _ {K : Type 0} where
  pub new_tag : (ps : List (Place K)) (n : ℕ) → NewTag (pos n) (map item_of ps) → described ps n ≡ false
  new_tag [] n h = refl
  new_tag (p ∷ ps) n h = or_from (numbered p.tag n) (described ps n) (one p.tag h.0) (new_tag ps n h.1)
    where
      one : (t : Option Tag) → (tag_of t ≡ Some (pos n) → ⊥) → numbered t n ≡ false
      one None f = refl
      one (Some t) f = ne_eqb t.number n (λ e. f (ap (λ k. Some (pos k)) e))

  pub has_tag : (ps : List (Place K)) (n : ℕ) → HasTag (pos n) (map item_of ps) → described ps n ≡ true
  has_tag [] n h = absurd h
  has_tag (p ∷ ps) n (inl e) = or_left (numbered p.tag n) (described ps n) (one p.tag e)
    where
      same : (k : ℕ) → Some (pos k) ≡ Some (pos n) → k ≡ n
      same k e = cc

      one : (t : Option Tag) → tag_of t ≡ Some (pos n) → numbered t n ≡ true
      one None e = let z : ◌≡◌ {A = ℕ} 0 1 = cc in absurd (omega arith)
      one (Some t) e = eq-eqb t.number n (same t.number e)
  has_tag (p ∷ ps) n (inr h) = or_right (numbered p.tag n) (described ps n) (has_tag ps n h)

  pub leads_good : (ss : List Slot) (ps : List (Place K)) → GoodLeads (map link_of ss) (map item_of ps) → undescribed ss ps ≡ None
  leads_good [] ps h = refl
  leads_good (s ∷ ss) ps h = ap (λ o. option_or o (undescribed ss ps)) (one s.target h.0) ∙ leads_good ss ps h.1
    where
      one : (t : Target) → GoodLead (lead_to t) (map item_of ps) → undescribed_at t ps ≡ None
      one (To p) g = refl
      one (ByTag t) g = cond-true (described ps t.number) _ _ (has_tag ps t.number g)

pub new_name : (ss : List Slot) (p n : ℕ) → NewName p n (map link_of ss) → named? ss p n ≡ false
new_name [] p n h = refl
new_name (s ∷ ss) p n h = or_from (eqb s.owner p && eqb s.name n) (named? ss p n) (one (cases_Bool (eqb s.owner p && eqb s.name n))) (new_name ss p n h.1)
  where
    one : ((eqb s.owner p && eqb s.name n) ≡ true) ⊎ ((eqb s.owner p && eqb s.name n) ≡ false) → (eqb s.owner p && eqb s.name n) ≡ false
    one (inl e) = let q = and_parts (eqb s.owner p) (eqb s.name n) e in absurd (h.0 (eqb-true s.owner p q.0) (eqb-true s.name n q.1))
    one (inr e) = e

-- ---- and only good terms do

pub good_tag : (g : ℤ) (k : ℕ) → tag_number g ≡ Some k → (g ≡ pos k) × IsTag g
good_tag (pos m) k e = on (is_in_range 1 99 m) refl e
  where
    same : (m k : ℕ) → Some m ≡ Some k → m ≡ k
    same m k e = cc

    on : (q : Bool) → is_in_range 1 99 m ≡ q → cond q (Some m) None ≡ Some k → (pos m ≡ pos k) × IsTag (pos m)
    on true w e =
        let p = and_parts (leb 1 m) (leb m 99) w in
        (ap pos (same m k e), record { number = m; is = refl; least = leb-true 1 m p.0; most = leb-true m 99 p.1 })
    on false w e = let z : ◌≡◌ {A = ℕ} 0 1 = cc in absurd (omega arith)
good_tag (negsuc m) k e = let z : ◌≡◌ {A = ℕ} 0 1 = cc in absurd (omega arith)

none_both : (a b : Option ℕ) → option_or a b ≡ None → (a ≡ None) × (b ≡ None)
none_both None b e = (refl, e)
none_both (Some x) b e = let z : ◌≡◌ {A = ℕ} 0 1 = cc in absurd (omega arith)

module _ {K : Type 0} where
  pub tag_new : (ps : List (Place K)) (n : ℕ) → described ps n ≡ false → NewTag (pos n) (map item_of ps)
  tag_new [] n h = tt
  tag_new (p ∷ ps) n h = let q = or_parts (numbered p.tag n) (described ps n) h in (one p.tag q.0, tag_new ps n q.1)
    where
      same : (k : ℕ) → Some (pos k) ≡ Some (pos n) → k ≡ n
      same k e = cc

      one : (t : Option Tag) → numbered t n ≡ false → tag_of t ≡ Some (pos n) → ⊥
      one None f e = let z : ◌≡◌ {A = ℕ} 0 1 = cc in omega arith
      one (Some t) f e = both_ways (eqb t.number n) f (eq-eqb t.number n (same t.number e))

  tag_has : (ps : List (Place K)) (n : ℕ) → described ps n ≡ true → HasTag (pos n) (map item_of ps)
  tag_has [] n h = let z : ◌≡◌ {A = ℕ} 0 1 = cc in omega arith
  tag_has (p ∷ ps) n h = on (or_cases (numbered p.tag n) (described ps n) h) (λ e. tag_has ps n e)
    where
      one : (t : Option Tag) → numbered t n ≡ true → tag_of t ≡ Some (pos n)
      one None e = let z : ◌≡◌ {A = ℕ} 0 1 = cc in absurd (omega arith)
      one (Some t) e = ap (λ k. Some (pos k)) (eqb-true t.number n e)

      on : (numbered p.tag n ≡ true) ⊎ (described ps n ≡ true) → (described ps n ≡ true → HasTag (pos n) (map item_of ps)) → HasTag (pos n) (map item_of (p ∷ ps))
      on (inl e) ih = inl (one p.tag e)
      on (inr e) ih = inr (ih e)

  pub good_leads : (ss : List Slot) (ps : List (Place K)) → undescribed ss ps ≡ None → GoodLeads (map link_of ss) (map item_of ps)
  good_leads [] ps h = tt
  good_leads (s ∷ ss) ps h = let q = none_both (undescribed_at s.target ps) (undescribed ss ps) h in (one s.target q.0, good_leads ss ps q.1)
    where
      test : (q : Bool) (b : ℕ) → cond q None (Some b) ≡ None → q ≡ true
      test true b e = refl
      test false b e = let z : ◌≡◌ {A = ℕ} 0 1 = cc in absurd (omega arith)

      one : (t : Target) → undescribed_at t ps ≡ None → GoodLead (lead_to t) (map item_of ps)
      one (To p) e = tt
      one (ByTag t) e = tag_has ps t.number (test (described ps t.number) t.byte e)

pub name_new : (ss : List Slot) (p n : ℕ) → named? ss p n ≡ false → NewName p n (map link_of ss)
name_new [] p n h = tt
name_new (s ∷ ss) p n h =
    let q = or_parts (eqb s.owner p && eqb s.name n) (named? ss p n) h in (
      (λ e f. both_ways (eqb s.owner p && eqb s.name n) q.0 (and_from (eqb s.owner p) (eqb s.name n) (eq-eqb s.owner p e) (eq-eqb s.name n f))),
      name_new ss p n q.1,
    )
