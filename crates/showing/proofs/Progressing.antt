-- Each move of the state is a turn of the writing.
use Rattle.std.proofs.Common.{◌≡◌, ℕ, zero, suc, ◌+◌, ◌-◌, ◌*◌, ◌<◌, ◌≤◌, Bool, true, false, cond, eqb, List, [], ◌∷◌, ◌++◌, map, reverse, length, get_or, take, drop, drop-cons, set, sum_by, count_by, Some, None, Option, sym, refl, ap, ◌∙◌, subst, ⊎_elim, arith}
use Rattle.std.proofs.lemmas.List.{length-set, length-map, length-reverse, length-take, length-drop, map-append, reverse-append, nil_from_length, get_or-set_same, get_or-set_other}
use Rattle.std.proofs.lemmas.List.Sums.{sum_by-set, sum_by-cons}
use Rattle.std.specs.List.{All, slice_get}
use Rattle.std.proofs.lemmas.Option.{slice_get_within}
use Rattle.std.proofs.lemmas.List.Elements.{All-from_get_or}
use Rattle.std.proofs.lemmas.Bool.{cases_eq, cases_Bool, false≢true, or_cases, or_parts, eq-eqb}
use Rattle.kinds.specs.Laws.{KindLaws}
use Rattle.names.specs.Names.{IsName}
use Rattle.records.specs.declared.SlotRecord.{SlotRecord}
use Rattle.records.specs.Tables.{blank_slot, name_at, count_at, first_at}
use Rattle.records.specs.Sheets.{Sheet, size, width, Formed}
use Rattle.records.proofs.Shape.{target_in}
use Rattle.vocabulary.specs.Texts.{Text}
use Rattle.showing.specs.declared.walk.Block.{Block}
use Rattle.showing.specs.declared.walk.Progress.{Progress}
use Rattle.showing.specs.Shown.{tagged, tag_of, hashed, slots_of, has, naming, Walk, Shown}
use Rattle.showing.specs.Shown.Walk.{begins, closes, refers, enters}
use Rattle.showing.specs.Progress.{standing, unwritten, Room, Fresh, Entered, Ended, Taken, next_tag, Right, unset, measure, opened, Reached, Going}
use Rattle.showing.proofs.Depth.{all_first, all_left, has_other, has_new, shallow, written_few}

-- ---- the stack

pub push_left : (ss : List SlotRecord) (stack : List Block) (b : Block) → reverse (map (λ k. standing ss k) (stack ++ b ∷ [])) ≡ standing ss b ∷ reverse (map (λ k. standing ss k) stack)
push_left ss stack b = ap (λ (l : List (List SlotRecord)). reverse l) (map-append (λ k. standing ss k) stack (b ∷ [])) ∙ reverse-append (map (λ k. standing ss k) stack) (standing ss b ∷ [])

-- the first slot of a block, and those after it
pub after_first : (ss : List SlotRecord) (n c : ℕ) (x : SlotRecord) → slice_get (take c (drop n ss)) 0 ≡ Some x → take c (drop n ss) ≡ x ∷ take (c - 1) (drop (n + 1) ss)
after_first ss n c x e =
    let some : 0 < length (take c (drop n ss)) = slice_get_within (take c (drop n ss)) 0 x e in
    let low : n < length ss = omega (arith, some, length-take c (drop n ss), length-drop n ss) in
    let more : 0 < c = omega (arith, some, length-take c (drop n ss)) in
    let y : SlotRecord = get_or ss n blank_slot in
    let next : suc n ≡ n + 1 = omega arith in
    let cut : drop n ss ≡ y ∷ drop (n + 1) ss = drop-cons ss n blank_slot low ∙ ap (λ (k : ℕ). y ∷ drop k ss) next in
    let is : take c (drop n ss) ≡ y ∷ take (c - 1) (drop (n + 1) ss) = ap (λ (l : List SlotRecord). take c l) cut ∙ one c y (drop (n + 1) ss) more in
    let same : Some y ≡ Some x = sym (ap (λ (l : List SlotRecord). slice_get l 0) is) ∙ e in
    let first : y ≡ x = cc same in
    is ∙ ap (λ (z : SlotRecord). z ∷ take (c - 1) (drop (n + 1) ss)) first
  where
    one : (c : ℕ) (y : SlotRecord) (ys : List SlotRecord) → 0 < c → take c (y ∷ ys) ≡ y ∷ take (c - 1) ys
    one zero y ys h = absurd (omega arith)
    one (suc c) y ys h = let e : suc c - 1 ≡ c = omega arith in ap (λ (k : ℕ). y ∷ take k ys) (sym e)

pub unwritten_length : (ss : List SlotRecord) (w : Progress) → length (unwritten ss w) ≡ length w.left.items
unwritten_length ss w = length-reverse (map (λ b. standing ss b) w.left.items) ∙ length-map w.left.items (λ b. standing ss b)

-- ---- tags

some_of : (b : Bool) (m n : ℕ) → cond b (Some m) None ≡ Some n → (b ≡ true) × (m ≡ n)
some_of true m n e = let z : m ≡ n = cc in (refl, z)
some_of false m n e = let z : ◌≡◌ {A = ℕ} 0 1 = cc in absurd (omega arith)

none_of : (b : Bool) (m : ℕ) → cond b (Some m) None ≡ None → b ≡ false
none_of true m e = let z : ◌≡◌ {A = ℕ} 0 1 = cc in absurd (omega arith)
none_of false m e = refl

module _ {K : Type 0} (s : Sheet K) where
  -- a place that was not written gets the next tag
  pub tag_next : (qs : List ℕ) (p : ℕ) → has qs p ≡ false → tag_of s qs p ≡ next_tag s qs
  tag_next [] p none = refl
  tag_next (q ∷ qs) p none =
      let parts = or_parts (eqb q p) (has qs p) none in
      let ih = tag_next qs p parts.1 in
      ap (λ (b : Bool). cond b 1 (cond (tagged s q) (1 + tag_of s qs p) (tag_of s qs p))) parts.0 ∙ ap (λ (n : ℕ). cond (tagged s q) (1 + n) n) ih

  -- and keeps it
  pub tag_kept : (qs : List ℕ) (q p : ℕ) → has qs p ≡ true → tag_of s (qs ++ (q ∷ [])) p ≡ tag_of s qs p
  tag_kept [] q p e = absurd (false≢true e)
  tag_kept (r ∷ qs) q p e =
      ⊎_elim
      (λ is. ap (λ (b : Bool). cond b 1 (cond (tagged s r) (1 + tag_of s (qs ++ (q ∷ [])) p) (tag_of s (qs ++ (q ∷ [])) p))) is ∙ sym (ap (λ (b : Bool). cond b 1 (cond (tagged s r) (1 + tag_of s qs p) (tag_of s qs p))) is))
      (λ old. ap (λ (n : ℕ). cond (eqb r p) 1 (cond (tagged s r) (1 + n) n)) (tag_kept qs q p old))
      (or_cases (eqb r p) (has qs p) e)

  pub tag_new : (qs : List ℕ) (q : ℕ) → has qs q ≡ false → tag_of s (qs ++ (q ∷ [])) q ≡ next_tag s qs
  tag_new [] q none = ap (λ (b : Bool). cond b 1 (cond (tagged s q) 2 1)) (eq-eqb q q refl)
  tag_new (r ∷ qs) q none =
      let parts = or_parts (eqb r q) (has qs q) none in
      ap (λ (b : Bool). cond b 1 (cond (tagged s r) (1 + tag_of s (qs ++ (q ∷ [])) q) (tag_of s (qs ++ (q ∷ [])) q))) parts.0 ∙ ap (λ (n : ℕ). cond (tagged s r) (1 + n) n) (tag_new qs q parts.1)

  pub next_push : (qs : List ℕ) (q : ℕ) → next_tag s (qs ++ (q ∷ [])) ≡ cond (tagged s q) (next_tag s qs + 1) (next_tag s qs)
  next_push [] q = refl
  next_push (r ∷ qs) q = ap (λ (n : ℕ). cond (tagged s r) (1 + n) n) (next_push qs q) ∙ two (tagged s r) (tagged s q) (next_tag s qs)
    where
      two : (a b : Bool) (n : ℕ) → cond a (1 + cond b (n + 1) n) (cond b (n + 1) n) ≡ cond b (cond a (1 + n) n + 1) (cond a (1 + n) n)
      two true true n = omega arith
      two true false n = refl
      two false true n = refl
      two false false n = refl

  pub next_few : (qs : List ℕ) → next_tag s qs ≤ 1 + length qs
  next_few [] = omega arith
  next_few (q ∷ qs) = elim (tagged s q) as (λ (b : Bool). cond b (1 + next_tag s qs) (next_tag s qs) ≤ 1 + length (q ∷ qs)) [ true ↦ omega (arith, next_few qs) | false ↦ omega (arith, next_few qs) ]

  -- the tag that a place holds is that of the places written, and none where it is not one of them
  abbrev held : List ℕ → ℕ → Option ℕ
  held written p = cond (has written p) (Some (tag_of s written p)) None

  held_new : (written : List ℕ) (q : ℕ) → has written q ≡ false → held (written ++ (q ∷ [])) q ≡ Some (next_tag s written)
  held_new written q none = ap (λ (b : Bool). cond b (Some (tag_of s (written ++ (q ∷ [])) q)) None) (has_new written q) ∙ ap (λ (n : ℕ). Some n) (tag_new written q none)

  held_other : (written : List ℕ) (q p : ℕ) → (q ≡ p → ⊥) → held (written ++ (q ∷ [])) p ≡ held written p
  held_other written q p other =
      let same = has_other written q p other in
      ⊎_elim
      (λ old. (λ i. cond (same i) (Some (tag_of s (written ++ (q ∷ [])) p)) None) ∙ (λ i. cond (old i) (Some (tag_of s (written ++ (q ∷ [])) p)) None) ∙ ap (λ (n : ℕ). Some n) (tag_kept written q p old) ∙ sym (λ i. cond (old i) (Some (tag_of s written p)) None))
      (λ new. (λ i. cond (same i) (Some (tag_of s (written ++ (q ∷ [])) p)) None) ∙ (λ i. cond (new i) (Some (tag_of s (written ++ (q ∷ [])) p)) None) ∙ sym (λ i. cond (new i) (Some (tag_of s written p)) None))
      (cases_Bool (has written p))

  -- ---- the moves

  right_entered : (w v : Progress) (written : List ℕ) (q : ℕ) → Right s w written → Entered s.slots w q (slots_of s q) (tagged s q) v → q < 1000 → has written q ≡ false → Right s v (written ++ (q ∷ []))
  right_entered w v written q r e low none = record {
    long = ap (λ (l : List (Option ℕ)). length l) e.tags ∙ length-set w.tags q (Some w.next) ∙ r.long;
    tags = λ p l. ap (λ (l : List (Option ℕ)). get_or l p None) e.tags ∙ ⊎_elim
        (λ here. subst (λ (k : ℕ). get_or (set w.tags q (Some w.next)) k None ≡ held (written ++ (q ∷ [])) k) here
        (get_or-set_same w.tags q (Some w.next) None (omega (arith, r.long)) ∙ ap (λ (n : ℕ). Some n) r.next ∙ sym (held_new written q none)))
        (λ other. get_or-set_other w.tags q p (Some w.next) None (λ e. other (sym e)) ∙ r.tags p l ∙ sym (held_other written q p other))
        (cases_eq q p);
    next = e.next ∙ (λ i. cond (tagged s q) (r.next i + 1) (r.next i)) ∙ sym (next_push written q);
  }

  right_same : (w v : Progress) (written : List ℕ) → Right s w written → v.tags ≡ w.tags → v.next ≡ w.next → Right s v written
  right_same w v written r tags next = record {
    long = ap (λ (l : List (Option ℕ)). length l) tags ∙ r.long;
    tags = λ p h. ap (λ (l : List (Option ℕ)). get_or l p None) tags ∙ r.tags p h;
    next = next ∙ r.next;
  }

-- ---- what falls

abbrev weight : List (List SlotRecord) → ℕ
weight left = sum_by (λ xs. length xs + 1) left

weight_more : (xs : List SlotRecord) (left : List (List SlotRecord)) → weight (xs ∷ left) ≡ length xs + 1 + weight left
weight_more xs left = sum_by-cons (λ xs. length xs + 1) xs left

module _ (ss : List SlotRecord) where
  pub falls_taken : (w v : Progress) (x : SlotRecord) → Taken ss w x v → measure ss v < measure ss w
  falls_taken w v x t =
      let tags = ap (λ (l : List (Option ℕ)). count_by unset l * (length ss + 2)) t.tags in
      let before = ap (λ (l : List (List SlotRecord)). weight l) t.before ∙ weight_more (x ∷ t.here) t.others in
      let after = ap (λ (l : List (List SlotRecord)). weight l) t.after ∙ weight_more t.here t.others in
      omega arith

  pub falls_entered : (w v : Progress) (p : ℕ) (slots : List SlotRecord) (tag : Bool) → p < length w.tags → get_or w.tags p None ≡ None → length slots ≤ length ss → Entered ss w p slots tag v → measure ss v < measure ss w
  falls_entered w v p slots tag inside none few e =
      let f : Option ℕ → ℕ = λ t. cond (unset t) 1 0 in
      let was : f (get_or w.tags p None) ≡ 1 = ap f none in
      let one : count_by unset (set w.tags p (Some w.next)) + 1 ≡ count_by unset w.tags = omega (arith, sum_by-set f w.tags p (Some w.next) None inside) in
      let tags = ap (λ (l : List (Option ℕ)). count_by unset l) e.tags in
      let fewer : count_by unset v.tags + 1 ≡ count_by unset w.tags = omega arith in
      let product = ap (λ (n : ℕ). n * (length ss + 2)) fewer in
      let left = ap (λ (l : List (List SlotRecord)). weight l) e.left ∙ weight_more slots (unwritten ss w) in
      omega arith

module _ {K F : Type 0} {below : K → K → Type 0} {top : K} {form : K → F} {kind : F → Option K} (laws : KindLaws below top form kind) (texts : K → Text) (s : Sheet K) (formed : Formed s) (small : size s ≤ 1000) where
  -- the next slot is taken out, and not yet written
  pub record Paused (w : Progress) (x : SlotRecord) (text : List ℕ) : Type 0 where
    pub written : List ℕ
    pub right : Right s w written
    pub here : List SlotRecord
    pub others : List (List SlotRecord)
    pub is : here ∷ others ≡ unwritten s.slots w
    pub walk : Walk laws texts s ((x ∷ here) ∷ others) written text

  pub few_open : (w : Progress) (text : List ℕ) → Going laws texts s w text → length w.left.items ≤ 1000
  few_open w text g = omega (arith, shallow laws texts s formed g.walk, unwritten_length s.slots w)

  -- what holds of every slot holds of the one that is taken
  taken_all : (P : SlotRecord → Type 0) (w v : Progress) (x : SlotRecord) (text : List ℕ) → All P s.slots → Going laws texts s w text → Taken s.slots w x v → P x
  taken_all P w v x text all g t = all_first P x t.here t.others (subst (λ (l : List (List SlotRecord)). All (λ xs. All P xs) l) t.before (all_left laws texts s formed P all g.walk))

  pub taken_target : (w v : Progress) (x : SlotRecord) (text : List ℕ) → Going laws texts s w text → Taken s.slots w x v → x.target < size s
  taken_target w v x text g t = taken_all (λ y. y.target < size s) w v x text (All-from_get_or (λ y. y.target < size s) s.slots blank_slot (target_in s formed)) g t

  pub taken_name : (w v : Progress) (x : SlotRecord) (text : List ℕ) → ((i : ℕ) → i < width s → IsName (name_at s.slots i)) → Going laws texts s w text → Taken s.slots w x v → IsName x.name
  taken_name w v x text named g t = taken_all (λ y. IsName y.name) w v x text (All-from_get_or (λ y. IsName y.name) s.slots blank_slot named) g t

  pub going_ended : (w v : Progress) (text : List ℕ) → Going laws texts s w text → Ended s.slots w v → Going laws texts s v (text ++ (41 ∷ []))
  going_ended w v text g e = record {
    written = g.written;
    right = right_same s w v g.written g.right e.tags e.next;
    walk = closes (subst (λ (l : List (List SlotRecord)). Walk laws texts s l g.written text) e.left g.walk);
  }

  pub paused : (w v : Progress) (x : SlotRecord) (text : List ℕ) → Going laws texts s w text → Taken s.slots w x v → Paused v x text
  paused w v x text g t = record {
    written = g.written;
    right = right_same s w v g.written g.right t.tags t.next;
    here = t.here;
    others = t.others;
    is = sym t.after;
    walk = subst (λ (l : List (List SlotRecord)). Walk laws texts s l g.written text) t.before g.walk;
  }

  pub going_refers : (w : Progress) (x : SlotRecord) (text : List ℕ) (tag : ℕ) → Paused w x text → x.target < 1000 → get_or w.tags x.target None ≡ Some tag → Going laws texts s w (text ++ (naming laws texts s x ++ (40 ∷ hashed tag (41 ∷ []))))
  going_refers w x text tag g low is =
      let old = some_of (has g.written x.target) (tag_of s g.written x.target) tag (sym (g.right.tags x.target low) ∙ is) in
      let next = refers g.walk old.0 in
      record {
        written = g.written;
        right = g.right;
        walk = subst (λ (k : List (List SlotRecord)). Walk laws texts s k g.written (text ++ (naming laws texts s x ++ (40 ∷ hashed tag (41 ∷ []))))) g.is
            (subst (λ (n : ℕ). Walk laws texts s (g.here ∷ g.others) g.written (text ++ (naming laws texts s x ++ (40 ∷ hashed n (41 ∷ []))))) old.1 next);
      }

  not_written : (w : Progress) (x : SlotRecord) (text : List ℕ) (g : Paused w x text) → x.target < 1000 → get_or w.tags x.target None ≡ None → has g.written x.target ≡ false
  not_written w x text g low new = none_of (has g.written x.target) (tag_of s g.written x.target) (sym (g.right.tags x.target low) ∙ new)

  -- there is room for one more open place
  pub room : (w : Progress) (x : SlotRecord) (text : List ℕ) → Paused w x text → x.target < 1000 → get_or w.tags x.target None ≡ None → Room w
  room w x text g low new =
      let deep = shallow laws texts s formed (enters g.walk (not_written w x text g low new)) in
      let long = ap (λ (l : List (List SlotRecord)). length l) g.is ∙ unwritten_length s.slots w in
      (omega arith, omega (arith, g.right.next, next_few s g.written, written_few laws texts s formed g.walk))

  pub going_enters : (w v : Progress) (x : SlotRecord) (text : List ℕ) → Paused w x text → x.target < 1000 → get_or w.tags x.target None ≡ None → Entered s.slots w x.target (slots_of s x.target) (tagged s x.target) v → Going laws texts s v (text ++ (naming laws texts s x ++ opened laws texts s w.next x.target))
  going_enters w v x text g low new e =
      let q : ℕ = x.target in
      let none = not_written w x text g low new in
      let tag : tag_of s g.written q ≡ w.next = tag_next s g.written q none ∙ sym g.right.next in
      let stack : slots_of s q ∷ (g.here ∷ g.others) ≡ unwritten s.slots v = (λ i. slots_of s q ∷ g.is i) ∙ sym e.left in
      record {
        written = g.written ++ (q ∷ []);
        right = right_entered s w v g.written q g.right e low none;
        walk = subst (λ (k : List (List SlotRecord)). Walk laws texts s k (g.written ++ (q ∷ [])) (text ++ (naming laws texts s x ++ opened laws texts s w.next q))) stack
            (subst (λ (n : ℕ). Walk laws texts s (slots_of s q ∷ (g.here ∷ g.others)) (g.written ++ (q ∷ [])) (text ++ (naming laws texts s x ++ opened laws texts s n q))) tag (enters g.walk none));
      }

  -- the slot that was taken is written, and the place that it leads to
  pub going_reached : (w v : Progress) (x : SlotRecord) (text piece : List ℕ) (tag : Option ℕ) → get_or w.tags x.target None ≡ tag → Reached laws texts s tag w x.target piece v → Paused w x text → x.target < 1000 → Going laws texts s v (text ++ (naming laws texts s x ++ piece))
  going_reached w v x text piece (Some tag) is r g low =
      subst (λ (u : Progress). Going laws texts s u (text ++ (naming laws texts s x ++ piece))) (sym r.1)
      (subst (λ (t : List ℕ). Going laws texts s w (text ++ (naming laws texts s x ++ t))) (sym r.0) (going_refers w x text tag g low is))
  going_reached w v x text piece None is r g low =
      subst (λ (t : List ℕ). Going laws texts s v (text ++ (naming laws texts s x ++ t))) (sym r.0) (going_enters w v x text g low is r.1)

  few_slots : (p : ℕ) → length (slots_of s p) ≤ width s
  few_slots p = omega (arith, length-take (count_at s.places p) (drop (first_at s.places p) s.slots), length-drop (first_at s.places p) s.slots)

  pub falls_reached : (w v : Progress) (p : ℕ) (piece : List ℕ) (tag : Option ℕ) → p < length w.tags → get_or w.tags p None ≡ tag → Reached laws texts s tag w p piece v → measure s.slots v ≤ measure s.slots w
  falls_reached w v p piece (Some tag) inside is r = omega (arith, ap (λ (u : Progress). measure s.slots u) r.1)
  falls_reached w v p piece None inside is r = omega (arith, falls_entered s.slots w v p (slots_of s p) (tagged s p) inside is (few_slots p) r.1)

  pub going_begins : (w v : Progress) → Fresh w → Entered s.slots w 0 (slots_of s 0) (tagged s 0) v → Going laws texts s v (opened laws texts s w.next 0)
  going_begins w v f e =
      let r : Right s w [] = record { long = f.long; tags = f.tags; next = f.next } in
      let stack : slots_of s 0 ∷ [] ≡ unwritten s.slots v = (λ i. slots_of s 0 ∷ reverse (map (λ b. standing s.slots b) (sym f.none i))) ∙ sym e.left in
      record {
        written = 0 ∷ [];
        right = right_entered s w v [] 0 r e (omega arith) refl;
        walk = subst (λ (k : List (List SlotRecord)). Walk laws texts s k (0 ∷ []) (opened laws texts s w.next 0)) stack
            (subst (λ (n : ℕ). Walk laws texts s (slots_of s 0 ∷ []) (0 ∷ []) (opened laws texts s n 0)) (sym f.next) begins);
      }

  -- with no place open, the text is whole
  pub going_ends : (w : Progress) (text : List ℕ) → Going laws texts s w text → length w.left.items ≡ 0 → Shown laws texts s text
  going_ends w text g none = record {
    written = g.written;
    walk = subst (λ (l : List (List SlotRecord)). Walk laws texts s l g.written text) (nil_from_length (unwritten s.slots w) (unwritten_length s.slots w ∙ none)) g.walk;
  }
