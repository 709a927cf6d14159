-- How a draft is related to the places that are written and the slots that are crossed.
use Rattle.std.proofs.Common.{◌≡◌, ℕ, suc, ◌+◌, ◌<◌, ◌≤◌, Bool, true, false, cond, eqb, List, [], ◌∷◌, ◌++◌, map, length, get_or, None, Option, sym, refl, ap, ◌∙◌, subst, ⊎_elim, arith}
use native.Mathlib.Decide.{dec_lt}
use Rattle.std.proofs.lemmas.List.{length_push, length-map, get_or_append_left, get_or_push, map_push}
use Rattle.std.proofs.lemmas.Bool.{cond-true, cond-false, eq-eqb, ne_eqb, cases_eq, both_ways, cases_Bool}
use Rattle.kinds.specs.Laws.{KindLaws}
use Rattle.records.specs.Tables.{Owns}
use Rattle.records.specs.Sheets.{Sheet, size, width, Formed, kind_of}
use Rattle.records.proofs.Fields.{first_of, count_of, name_of, target_of}
use Rattle.records.proofs.Shape.{owner_one, ends}
use Rattle.reading.specs.declared.draft.Tag.{Tag}
use Rattle.reading.specs.declared.draft.Place.{Place}
use Rattle.reading.specs.declared.draft.Slot.{Slot}
use Rattle.reading.specs.declared.draft.Target.{Target}
use Rattle.reading.specs.declared.draft.Target.TheVariants.{To, ByTag}
use Rattle.reading.specs.Drafts.{tag_at, kind_at, slot_at, no_slot}
use Rattle.showing.specs.Shown.{has, tagged, tag_of}
use Rattle.restating.proofs.Chunks.{TagIs}
use Rattle.restating.proofs.Listed.{at, index, Listed, has_at, has_more, has_last, has_cases, has_not, index_in, listed_push}
use Rattle.restating.proofs.Tags.{tag_last, tag_more}

-- ---- a list with one more at its end

module _ {X : Type 0} (xs : List X) (x : X) where
  pub old : (i : ℕ) (d : X) → i < length xs → get_or (xs ++ (x ∷ [])) i d ≡ get_or xs i d
  old i d h = get_or_append_left xs (x ∷ []) d i h

  pub new : (i : ℕ) (d : X) → i ≡ length xs → get_or (xs ++ (x ∷ [])) i d ≡ x
  new i d e = get_or_push xs x d i (sym e)

  module _ {Y : Type 0} (f : X → Y) where
    pub column_old : (i : ℕ) (d : Y) → i < length xs → get_or (map f (xs ++ (x ∷ []))) i d ≡ get_or (map f xs) i d
    column_old i d h = ap (λ l. get_or l i d) (map_push f xs x) ∙ get_or_append_left (map f xs) (f x ∷ []) d i (omega (arith, length-map xs f))

    pub column_new : (i : ℕ) (d : Y) → i ≡ length xs → get_or (map f (xs ++ (x ∷ []))) i d ≡ f x
    column_new i d e = ap (λ l. get_or l i d) (map_push f xs x) ∙ get_or_push (map f xs) (f x) d i (length-map xs f ∙ sym e)

  -- each place of the longer list is one of the old, or the new one
  pub by_place : (P : ℕ → Type 0) → ((i : ℕ) → i < length xs → P i) → P (length xs) → (i : ℕ) → i < length (xs ++ (x ∷ [])) → P i
  by_place P before at_end i h =
      elim (dec_lt i (length xs)) [
        | yes lt ↦ before i lt
        | no ge ↦ let e : i ≡ length xs = omega (arith, length_push xs x) in subst P (sym e) at_end
      ]

-- ---- the next slot of each place

pub bump : ℕ → (ℕ → ℕ) → ℕ → ℕ
bump p next q = cond (eqb q p) (suc (next p)) (next q)

pub bump_same : (p : ℕ) (next : ℕ → ℕ) (q : ℕ) → q ≡ p → bump p next q ≡ suc (next p)
unfolding bump
bump_same p next q e = cond-true (eqb q p) _ _ (eq-eqb q p e)

pub bump_other : (p : ℕ) (next : ℕ → ℕ) (q : ℕ) → (q ≡ p → ⊥) → bump p next q ≡ next q
unfolding bump
bump_other p next q n = cond-false (eqb q p) _ _ (ne_eqb q p n)

pub bump_more : (p : ℕ) (next : ℕ → ℕ) (q : ℕ) → next q ≤ bump p next q
bump_more p next q = ⊎_elim (λ e. omega (arith, bump_same p next q e, ap next e)) (λ n. omega (arith, bump_other p next q n)) (cases_eq q p)

module _ {K F : Type 0} {below : K → K → Type 0} {top : K} {form : K → F} {kind : F → Option K} (laws : KindLaws below top form kind) (s : Sheet K) (w : Formed s) where
  abbrev pub end_of : ℕ → ℕ
  end_of p = first_of s p + count_of s p

  -- a target of the draft leads to the place q
  abbrev pub Leads : List ℕ → Target → ℕ → Type 0
  Leads written (To y) q = (y < length written) × (at written y ≡ q)
  Leads written (ByTag t) q = (has written q ≡ true) × (tagged s q ≡ true) × (t.number ≡ tag_of s written q)

  -- the slot x of the draft is the slot i of the sheet
  pub record Drawn (written : List ℕ) (next : ℕ → ℕ) (x : Slot) (i : ℕ) : Type 0 where
    pub known : x.owner < length written
    pub owns : Owns s.places (at written x.owner) i
    pub before : i < next (at written x.owner)
    pub name : x.name ≡ name_of s i
    pub leads : Leads written x.target (target_of s i)

  -- The draft has the places `written` in their order, and the slots `crossed` in theirs; `next` has for each place its first slot
  -- that is not crossed.
  pub record Related (written : List ℕ) (places : List (Place K)) (slots : List Slot) (next : ℕ → ℕ) (crossed : List ℕ) : Type 0 where
    pub listed : Listed (size s) written
    pub some : 0 < length written
    pub root : at written 0 ≡ 0
    pub many : length places ≡ length written
    pub kinds : (k : K) (x : ℕ) → x < length written → kind_at k places x ≡ kind_of laws s (at written x)
    pub tags : (x : ℕ) → x < length written → TagIs (tagged s (at written x)) (tag_of s written (at written x)) (tag_at places x)
    pub through : Listed (width s) crossed
    pub as_many : length slots ≡ length crossed
    pub drawn : (j : ℕ) → j < length crossed → Drawn written next (slot_at slots j) (at crossed j)
    pub from : (p : ℕ) → first_of s p ≤ next p
    pub upto : (p : ℕ) → next p ≤ end_of p
    pub untouched : (p : ℕ) → has written p ≡ false → next p ≡ first_of s p
    pub covered : (p i : ℕ) → Owns s.places p i → has written p ≡ true → i < next p → has crossed i ≡ true

  -- ---- one place more

  tag_moved : (b c : Bool) (m n : ℕ) (g h : Option Tag) → b ≡ c → m ≡ n → g ≡ h → TagIs b m g → TagIs c n h
  tag_moved b c m n g h e f k t = subst (λ x. TagIs x n h) e (subst (λ x. TagIs b x h) f (subst (TagIs b m) k t))

  leads_more : (written : List ℕ) (q : ℕ) (t : Target) (p : ℕ) → Leads written t p → Leads (written ++ (q ∷ [])) t p
  leads_more written q (To y) p l = (omega (arith, l.0, length_push written q), old written q y 0 l.0 ∙ l.1)
  leads_more written q (ByTag t) p l = (has_more written q p l.0, l.1, l.2 ∙ sym (tag_more s written q p l.0))

  drawn_more : (written : List ℕ) (next : ℕ → ℕ) (q : ℕ) (x : Slot) (i : ℕ) → Drawn written next x i → Drawn (written ++ (q ∷ [])) next x i
  drawn_more written next q x i r =
      let e = old written q x.owner 0 r.known in
      record {
        known = omega (arith, r.known, length_push written q);
        owns = subst (λ p. Owns s.places p i) (sym e) r.owns;
        before = subst (λ p. i < next p) (sym e) r.before;
        name = r.name;
        leads = leads_more written q x.target (target_of s i) r.leads;
      }

  module _ {written : List ℕ} {places : List (Place K)} {slots : List Slot} {next : ℕ → ℕ} {crossed : List ℕ} (r : Related written places slots next crossed) where
    pub related_place : (q parent : ℕ) (g : Option Tag) → q < size s → has written q ≡ false → TagIs (tagged s q) (tag_of s written q) g
        → Related (written ++ (q ∷ [])) (places ++ (record { kind = kind_of laws s q; parent = parent; tag = g } ∷ [])) slots next crossed
    related_place q parent g h fresh is =
        let x : Place K = record { kind = kind_of laws s q; parent = parent; tag = g } in
        record {
          listed = listed_push r.listed q h fresh;
          some = omega (arith, length_push written q);
          root = old written q 0 0 r.some ∙ r.root;
          many = length_push places x ∙ ap (λ n. n + 1) r.many ∙ sym (length_push written q);
          kinds = λ k. by_place written q (λ y. kind_at k (places ++ (x ∷ [])) y ≡ kind_of laws s (at (written ++ (q ∷ [])) y))
              (λ y l. column_old places x (λ z. z.kind) y k (omega (arith, r.many)) ∙ r.kinds k y l ∙ ap (kind_of laws s) (sym (old written q y 0 l)))
              (column_new places x (λ z. z.kind) (length written) k (sym r.many) ∙ ap (kind_of laws s) (sym (new written q (length written) 0 refl)));
          tags = by_place written q (λ y. TagIs (tagged s (at (written ++ (q ∷ [])) y)) (tag_of s (written ++ (q ∷ [])) (at (written ++ (q ∷ [])) y)) (tag_at (places ++ (x ∷ [])) y))
              (λ y l.
              let e = old written q y 0 l in
              tag_moved _ _ _ _ _ _ (ap (tagged s) (sym e)) (sym (tag_more s written q (at written y) (has_at written y l)) ∙ ap (tag_of s (written ++ (q ∷ []))) (sym e))
              (sym (column_old places x (λ z. z.tag) y None (omega (arith, r.many)))) (r.tags y l))
              (let e = new written q (length written) 0 refl in
              tag_moved _ _ _ _ _ _ (ap (tagged s) (sym e)) (sym (tag_last s written q) ∙ ap (tag_of s (written ++ (q ∷ []))) (sym e))
              (sym (column_new places x (λ z. z.tag) (length written) None (sym r.many))) is);
          through = r.through;
          as_many = r.as_many;
          drawn = λ j l. drawn_more written next q (slot_at slots j) (at crossed j) (r.drawn j l);
          from = r.from;
          upto = r.upto;
          untouched = λ p n. r.untouched p (has_not written q p n);
          covered = λ p i o l n.
              ⊎_elim
              (λ k. r.covered p i o k n)
              (λ e. absurd (omega (arith, r.untouched p (ap (has written) (sym e) ∙ fresh), o.from)))
              (has_cases written q p l);
        }

    -- ---- one slot more

    -- the next slot of a place is not crossed
    pub uncrossed : (p i : ℕ) → Owns s.places p i → i ≡ next p → has crossed i ≡ false
    uncrossed p i o e =
        ⊎_elim
        (λ yes.
        let f = index_in crossed i yes in
        let d = r.drawn (index crossed i) f.0 in
        let same = owner_one s w i (at written (slot_at slots (index crossed i)).owner) p (subst (Owns s.places (at written (slot_at slots (index crossed i)).owner)) f.1 d.owns) o in
        absurd (omega (arith, d.before, f.1, ap next same)))
        (λ no. no)
        (cases_Bool (has crossed i))

    drawn_next : (p : ℕ) (x y : Slot) (i j : ℕ) → x ≡ y → i ≡ j → Drawn written next x i → Drawn written (bump p next) y j
    drawn_next p x y i j e f d =
        subst (λ z. Drawn written (bump p next) z j) e (subst (Drawn written (bump p next) x) f
        (record { known = d.known; owns = d.owns; before = omega (arith, d.before, bump_more p next (at written x.owner)); name = d.name; leads = d.leads }))

    pub related_slot : (k i : ℕ) (t : Target) → k < length written → Owns s.places (at written k) i → i ≡ next (at written k) → Leads written t (target_of s i)
        → Related written places (slots ++ (record { owner = k; name = name_of s i; target = t } ∷ [])) (bump (at written k) next) (crossed ++ (i ∷ []))
    related_slot k i t h o e l =
        let p : ℕ = at written k in
        let x : Slot = record { owner = k; name = name_of s i; target = t } in
        let b = bump_same p next p refl in
        record {
          listed = r.listed;
          some = r.some;
          root = r.root;
          many = r.many;
          kinds = r.kinds;
          tags = r.tags;
          through = listed_push r.through i (omega (arith, ends s w p o.place, o.upto)) (uncrossed p i o e);
          as_many = length_push slots x ∙ ap (λ n. n + 1) r.as_many ∙ sym (length_push crossed i);
          drawn = by_place crossed i (λ j. Drawn written (bump p next) (slot_at (slots ++ (x ∷ [])) j) (at (crossed ++ (i ∷ [])) j))
              (λ j m. drawn_next p (slot_at slots j) _ (at crossed j) _ (sym (old slots x j no_slot (omega (arith, r.as_many)))) (sym (old crossed i j 0 m)) (r.drawn j m))
              (subst (λ z. Drawn written (bump p next) z (at (crossed ++ (i ∷ [])) (length crossed))) (sym (new slots x (length crossed) no_slot (sym r.as_many)))
              (subst (Drawn written (bump p next) x) (sym (new crossed i (length crossed) 0 refl))
              (record { known = h; owns = o; before = omega arith; name = refl; leads = l })));
          from = λ q. omega (arith, r.from q, bump_more p next q);
          upto = λ q.
              ⊎_elim
              (λ same. omega (arith, bump_same p next q same, ap end_of same, o.upto))
              (λ other. omega (arith, r.upto q, bump_other p next q other))
              (cases_eq q p);
          untouched = λ q n. bump_other p next q (λ same. both_ways (has written q) n (ap (has written) same ∙ has_at written k h)) ∙ r.untouched q n;
          covered = λ q j own known lt.
              ⊎_elim
              (λ same.
              ⊎_elim
              (λ this. ap (has (crossed ++ (i ∷ []))) this ∙ has_last crossed i)
              (λ earlier. has_more crossed i j (r.covered q j own known (omega (arith, bump_same p next q same, ap next same))))
              (cases_eq j i))
              (λ other. has_more crossed i j (r.covered q j own known (omega (arith, bump_other p next q other))))
              (cases_eq q p);
        }
