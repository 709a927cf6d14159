-- The reader allows what the grammar allows: each of its steps is a step of the machine, and it says 20 where the machine refuses.
use Rattle.std.proofs.Common.{◌≡◌, ℕ, ◌<◌, Bool, true, false, cond, eqb, ltb, List, [], ◌∷◌, ◌++◌, length, ℤ, Some, None, Option, sym, refl, ◌∙◌, subst, arith}
use lib.Signed.{lt_z}
use Rattle.std.specs.Option.{option_or}
use Rattle.std.proofs.lemmas.List.{length_push}
use Rattle.std.proofs.lemmas.Bool.{cond-true, cond-false, eq-eqb, ne_eqb}
use Rattle.names.specs.Names as names
use Rattle.tokens.specs.Tokens.{Tok, mark, word, number}
use Rattle.reading.specs.declared.draft.Tag.{Tag}
use Rattle.reading.specs.declared.draft.Bracket.{Bracket}
use Rattle.reading.specs.declared.draft.Mode.{Mode}
use Rattle.reading.specs.declared.draft.Mode.TheVariants.{Begin, Opened, Hashed, Tagged, Low, Dotted, High, Ranged, Inside, Done}
use Rattle.reading.specs.declared.draft.Place.{Place}
use Rattle.reading.specs.declared.draft.Slot.{Slot}
use Rattle.reading.specs.declared.draft.Target.TheVariants.{To}
use Rattle.reading.specs.Drafts.{Draft, parent_at, named as named?}
use Rattle.reading.specs.Steps.{Step, go, fault, on_some, described_at, tag_number, describe, close, refer, slot_named, range_end, no_kind_ahead, kind_first, range_last, step_in}
use Rattle.grammar.specs.Terms.{Term, Kind, named, range, ref, node, none}
use Rattle.grammar.proofs.Machine as gram
use Rattle.grammar.proofs.Machine.{Back, start, Stack, empty, frame, State, going, done, place, opened, hashed, tagged, low, dotted, high, ranged, inside, slots_of, closed}
use Rattle.grammar.proofs.Parents.{parent_before, parent_new}

-- the modes of the machine and of the reader that go together
abbrev pub Mate : gram.Mode → Mode → Type 0
Mate place m = m ≡ Begin
Mate opened m = m ≡ Opened
Mate hashed m = m ≡ Hashed
Mate (tagged n) m = (t : Tag) × (m ≡ Tagged t)
Mate (low g) m = (h : Bracket) × (m ≡ Low h)
Mate (dotted g a) m = (h : Bracket) × (b : ℤ) × (m ≡ Dotted h b)
Mate (high g a) m = (h : Bracket) × (b : ℤ) × (m ≡ High h b)
Mate (ranged g a b) m = (h : Bracket) × (c e : ℤ) × (m ≡ Ranged h c e)
Mate (inside g k ss) m = m ≡ Inside

module _ {K : Type 0} where
  -- the stack above a place: the places from it up to the root
  abbrev pub Chain : Stack → ℕ → List (Place K) → Type 0
  Chain empty top ps = (top ≡ 0) × (0 < length ps)
  Chain (frame g k ss w S) top ps = (top ≡ 0 → ⊥) × (top < length ps) × Chain S (parent_at ps top) ps

  abbrev pub Outer : Stack → ℕ → List (Place K) → List Slot → Type 0
  Outer empty top ps ss = (length ps ≡ 0) × (length ss ≡ 0)
  Outer (frame g k b w S) top ps ss = (0 < length ss) × (top < length ps) × Chain S top ps

  abbrev pub Where : gram.Mode → Stack → Draft K → Type 0
  Where place S d = Outer S d.top d.places d.slots
  Where opened S d = Outer S d.top d.places d.slots
  Where hashed S d = Outer S d.top d.places d.slots
  Where (tagged n) S d = Outer S d.top d.places d.slots
  Where (low g) S d = Outer S d.top d.places d.slots
  Where (dotted g a) S d = Outer S d.top d.places d.slots
  Where (high g a) S d = Outer S d.top d.places d.slots
  Where (ranged g a b) S d = Outer S d.top d.places d.slots
  Where (inside g k ss) S d = (d.top < length d.places) × Chain S d.top d.places

  abbrev pub Rel : State → Draft K → Type 0
  Rel (going S m) d = Mate m d.mode × Where m S d
  Rel (done t) d = (r : Option Tag) × (d.mode ≡ Done r)

  abbrev pub Matches : ℕ → Option State → Step K → Type 0
  Matches b None (go d) = ⊥
  Matches b None (fault n c) = (n ≡ 20) × (c ≡ b)
  Matches b (Some s) (go d) = Rel s d
  Matches b (Some s) (fault n c) = n ≡ 20 → ⊥

  -- a choice that both make
  both : (b : ℕ) (t : Bool) (s : State) (o : Option State) (y n : Step K) → Matches b (Some s) y → Matches b o n → Matches b (option_or (cond t (Some s) None) o) (cond t y n)
  both b true s o y n p q = p
  both b false s o y n p q = q

  one : (t : Bool) (s : State) (y : Step K) (b : ℕ) → Matches b (Some s) y → Matches b (cond t (Some s) None) (cond t y (fault 20 b))
  one true s y b p = p
  one false s y b p = (refl, refl)

  -- a check that only the reader makes
  either : (t : Bool) (s : State) (y z : Step K) (b : ℕ) → Matches b (Some s) y → Matches b (Some s) z → Matches b (Some s) (cond t y z)
  either true s y z b p q = p
  either false s y z b p q = q

  known : {A : Type 0} (o : Option A) (s : State) (f : A → Step K) (z : Step K) (b : ℕ) → ((k : A) → Matches b (Some s) (f k)) → Matches b (Some s) z → Matches b (Some s) (on_some o f z)
  known None s f z b p q = q
  known (Some k) s f z b p q = p k

  up : (S : Stack) (r : ℕ) (ps : List (Place K)) → Chain S r ps → r < length ps
  up empty r ps c = omega arith
  up (frame g k b w S) r ps c = c.1

  grow : (S : Stack) (q : ℕ) (ps : List (Place K)) (x : Place K) → q < length ps → Chain S q ps → Chain S q (ps ++ (x ∷ []))
  grow empty q ps x h c = (c.0, omega (arith, length_push ps x))
  grow (frame g k b w S) q ps x h c = (c.0, omega (arith, length_push ps x), subst (λ r. Chain S r (ps ++ (x ∷ []))) (sym (parent_before ps (x ∷ []) q h)) (grow S (parent_at ps q) ps x (up S (parent_at ps q) ps c.2) c.2))

  above : (S : Stack) (d : Draft K) (x : Place K) → x.parent ≡ d.top → Outer S d.top d.places d.slots → Chain S (length d.places) (d.places ++ (x ∷ []))
  above empty d x e o = (o.0, omega (arith, length_push d.places x))
  above (frame g k b w S) d x e o = (
    (λ z. omega arith),
    omega (arith, length_push d.places x),
    subst (λ r. Chain S r (d.places ++ (x ∷ []))) (sym (parent_new d.places x ∙ e)) (grow S d.top d.places x o.1 o.2),
  )

  described_as : (S : Stack) (d : Draft K) (h : Option Tag) (k : K) (c b pl : ℕ) (g : Option ℤ) (kd : Kind) → Outer S d.top d.places d.slots → Matches b (Some (going S (inside g kd start))) (describe pl h k d c)
  described_as S d h k c b pl g kd o =
      either (ltb (length d.places) pl) (going S (inside g kd start)) _ (fault 28 c) b
      (refl, (omega (arith, length_push d.places (record { kind = k; parent = d.top; tag = h })), above S d (record { kind = k; parent = d.top; tag = h }) refl o))
      (λ e. omega arith)

  referred : (b : ℕ) (S : Stack) (d : Draft K) (t : Tag) (n : ℤ) → Outer S d.top d.places d.slots → Matches b (Some (closed S (ref n))) (refer t d)
  referred b empty d t n o = subst (Matches b (Some (done (ref n)))) (sym (cond-true (eqb (length d.slots) 0) _ _ (eq-eqb _ 0 o.1))) (Some t, refl)
  referred b (frame g k ss w S) d t n o = subst (Matches b (Some (closed (frame g k ss w S) (ref n)))) (sym (cond-false (eqb (length d.slots) 0) _ _ (ne_eqb _ 0 (λ z. omega arith)))) (refl, (o.1, o.2))

  closes : (b : ℕ) (S : Stack) (d : Draft K) (t : Term) → Chain S d.top d.places → Matches b (Some (closed S t)) (close d)
  closes b empty d t c = subst (Matches b (Some (done t))) (sym (cond-true (eqb d.top 0) _ _ (eq-eqb _ 0 c.0))) (None, refl)
  closes b (frame g k ss w S) d t c = subst (Matches b (Some (closed (frame g k ss w S) t))) (sym (cond-false (eqb d.top 0) _ _ (ne_eqb _ 0 c.0))) (refl, (up S (parent_at d.places d.top) d.places c.2, c.2))

  slot_named_lem : (S : Stack) (d : Draft K) (g : Option ℤ) (kd : Kind) (ss : Back) (w : List ℕ) (b sl : ℕ) → (d.top < length d.places) × Chain S d.top d.places → Matches b (Some (going (frame g kd ss w S) place)) (slot_named sl w d b)
  slot_named_lem S d g kd ss w b sl o =
      either (ltb 12 (length w)) s (fault 23 b) _ b (λ e. omega arith)
      (either (named? d.slots d.top (names.number w)) s (fault 24 b) _ b (λ e. omega arith)
      (either (ltb (length d.slots) sl) s (go (record { mode = Begin; top = d.top; places = d.places; slots = d.slots ++ (record { owner = d.top; name = names.number w; target = To (length d.places) } ∷ []) })) (fault 28 b) b
      (refl, (more d.slots (record { owner = d.top; name = names.number w; target = To (length d.places) }), o.0, o.1))
      (λ e. omega arith)))
    where
      s : State
      s = going (frame g kd ss w S) place

      more : (xs : List Slot) (x : Slot) → 0 < length (xs ++ (x ∷ []))
      more xs x = omega (arith, length_push xs x)

  end_range : (S : Stack) (d : Draft K) (h : Bracket) (g : Option ℤ) (a low₁ n : ℤ) (b : ℕ) → Outer S d.top d.places d.slots → Matches b (Some (going S (ranged g a n))) (range_end h low₁ n d b)
  end_range S d h g a low₁ n b o = either (lt_z n low₁) (going S (ranged g a n)) (fault 22 b) _ b (λ e. omega arith) ((h, low₁, n, refl), o)

  module _ (words : List ℕ → Option K) (ranges : ℤ → ℤ → Option K) (pl sl : ℕ) (line : List ℕ) where
    kind_first_lem : (S : Stack) (d : Draft K) (h : Option Tag) (g : Option ℤ) (x : Tok) (b j : ℕ) → Outer S d.top d.places d.slots → Matches b (gram.kind_first S g x) (kind_first words ranges pl line h d x b j)
    kind_first_lem S d h g (mark c) b j o =
        one (eqb c 91) (going S (low g)) _ b
        (known (described_at h d.places) (going S (low g)) (fault 25) _ b (λ k e. omega arith)
        (either (ltb (length d.places) pl) (going S (low g)) _ _ b ((record { tag = h; byte = b }, refl), o)
        (either (no_kind_ahead words ranges line j) (going S (low g)) (fault 21 b) (fault 28 b) b (λ e. omega arith) (λ e. omega arith))))
    kind_first_lem S d h g (word w) b j o =
        known (described_at h d.places) (going S (inside g (named w) start)) (fault 25) _ b (λ k e. omega arith)
        (known (words w) (going S (inside g (named w) start)) _ (fault 21 b) b (λ k. described_as S d h k b b pl g (named w) o) (λ e. omega arith))
    kind_first_lem S d h g (number n) b j o = (refl, refl)

    range_last_lem : (S : Stack) (d : Draft K) (h : Bracket) (g : Option ℤ) (a n low₁ high₁ : ℤ) (b : ℕ) → Outer S d.top d.places d.slots → Matches b (Some (going S (inside g (range a n) start))) (range_last words ranges pl h low₁ high₁ d)
    range_last_lem S d h g a n low₁ high₁ b o =
        known (ranges low₁ high₁) (going S (inside g (range a n) start)) _ (fault 21 h.byte) b
        (λ k. described_as S d h.tag k h.byte b pl g (range a n) o) (λ e. omega arith)

    abbrev Step-at : Stack → gram.Mode → Draft K → Tok → ℕ → ℕ → Mode → Type 0
    Step-at S m d x b j md = Matches b (gram.step_in S m x) (step_in words ranges pl sl line md d x b j)

    step_at : (S : Stack) (m : gram.Mode) (d : Draft K) (x : Tok) (b j : ℕ) (md : Mode) → Mate m md → Where m S d → Step-at S m d x b j md
    step_at S place d x b j md e o = subst (Step-at S place d x b j) (sym e) (by x)
      where
        by : (x : Tok) → Step-at S place d x b j Begin
        by (mark c) = one (eqb c 40) (going S opened) _ b (refl, o)
        by (word w) = (refl, refl)
        by (number n) = (refl, refl)
    step_at S opened d x b j md e o = subst (Step-at S opened d x b j) (sym e) (by x)
      where
        by : (x : Tok) → Step-at S opened d x b j Opened
        by (mark c) = both b (eqb c 35) (going S hashed) _ _ _ (refl, o) (kind_first_lem S d None None (mark c) b j o)
        by (word w) = kind_first_lem S d None None (word w) b j o
        by (number n) = (refl, refl)
    step_at S hashed d x b j md e o = subst (Step-at S hashed d x b j) (sym e) (by x)
      where
        by : (x : Tok) → Step-at S hashed d x b j Hashed
        by (mark c) = (refl, refl)
        by (word w) = (refl, refl)
        by (number n) = known (tag_number n) (going S (tagged n)) _ (fault 27 b) b (λ k. ((record { number = k; byte = b }, refl), o)) (λ e. omega arith)
    step_at S (tagged n) d x b j md e o = subst (Step-at S (tagged n) d x b j) (sym e.1) (by x)
      where
        by : (x : Tok) → Step-at S (tagged n) d x b j (Tagged e.0)
        by (mark c) = both b (eqb c 41) (closed S (ref n)) _ _ _ (referred b S d e.0 n o) (kind_first_lem S d (Some e.0) (Some n) (mark c) b j o)
        by (word w) = kind_first_lem S d (Some e.0) (Some n) (word w) b j o
        by (number k) = (refl, refl)
    step_at S (low g) d x b j md e o = subst (Step-at S (low g) d x b j) (sym e.1) (by x)
      where
        by : (x : Tok) → Step-at S (low g) d x b j (Low e.0)
        by (mark c) = (refl, refl)
        by (word w) = (refl, refl)
        by (number n) = ((e.0, n, refl), o)
    step_at S (dotted g a) d x b j md e o = subst (Step-at S (dotted g a) d x b j) (sym e.2) (by x)
      where
        by : (x : Tok) → Step-at S (dotted g a) d x b j (Dotted e.0 e.1)
        by (mark c) = one (eqb c 46) (going S (high g a)) _ b ((e.0, e.1, refl), o)
        by (word w) = (refl, refl)
        by (number n) = (refl, refl)
    step_at S (high g a) d x b j md e o = subst (Step-at S (high g a) d x b j) (sym e.2) (by x)
      where
        by : (x : Tok) → Step-at S (high g a) d x b j (High e.0 e.1)
        by (mark c) = (refl, refl)
        by (word w) = (refl, refl)
        by (number n) = end_range S d e.0 g a e.1 n b o
    step_at S (ranged g a n) d x b j md e o = subst (Step-at S (ranged g a n) d x b j) (sym e.3) (by x)
      where
        by : (x : Tok) → Step-at S (ranged g a n) d x b j (Ranged e.0 e.1 e.2)
        by (mark c) = one (eqb c 93) (going S (inside g (range a n) start)) _ b (range_last_lem S d e.0 g a n e.1 e.2 b o)
        by (word w) = (refl, refl)
        by (number k) = (refl, refl)
    step_at S (inside g k ss) d x b j md e o = subst (Step-at S (inside g k ss) d x b j) (sym e) (by x)
      where
        by : (x : Tok) → Step-at S (inside g k ss) d x b j Inside
        by (mark c) = one (eqb c 41) (closed S (node g k (slots_of ss none))) _ b (closes b S d (node g k (slots_of ss none)) o.1)
        by (word w) = slot_named_lem S d g k ss w b sl o
        by (number n) = (refl, refl)

    pub sim : (s : State) (d : Draft K) (x : Tok) (b j : ℕ) → Rel s d → Matches b (gram.step s x) (step_in words ranges pl sl line d.mode d x b j)
    sim (going S m) d x b j r = step_at S m d x b j d.mode r.0 r.1
    sim (done t) d x b j r = subst (λ m. Matches b None (step_in words ranges pl sl line m d x b j)) (sym r.1) (refl, refl)
