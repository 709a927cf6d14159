-- What is spelt is read, what is read is spelt, and where the machine stops the tokens cannot be continued.
use Rattle.std.proofs.Common.{◌≡◌, ℕ, eqb, List, [], ◌∷◌, ◌++◌, ℤ, pos, Some, None, Option, sym, refl, ap, ◌∙◌, append_assoc, append-nil, arith}
use Rattle.std.specs.Option.{option_or}
use Rattle.std.proofs.lemmas.Bool.{cond_both, eqb-true}
use Rattle.tokens.specs.Tokens.{Tok, mark, word, number}
use Rattle.grammar.specs.Terms.{Kind, named, range, Term, ref, node, Slots, none, slot, spell_tag, spell_kind, spell, spell_slots}
use Rattle.grammar.proofs.Machine.{Back, start, more, slots_of, Stack, empty, frame, Mode, place, opened, hashed, tagged, low, dotted, high, ranged, inside, State, going, done, on, on_word, on_number, closed, kind_first, step_in, accepted, refused, onward, run, read}
use Rattle.grammar.specs.Spelt.{Spelt, Opens}

-- 1. What is spelt is read.

abbrev onto : Back → Slots → Back
onto b none = b
onto b (slot w t ss) = onto (more b w t) ss

onto_back : (b : Back) (ss : Slots) → slots_of (onto b ss) none ≡ slots_of b ss
onto_back b none = refl
onto_back b (slot w t ss) = onto_back (more b w t) ss

tag_read : (S : Stack) (g : Option ℤ) (k : Kind) (rest : List Tok) → run (going S opened) (spell_tag g (spell_kind k rest)) ≡ run (going S (inside g k start)) rest
tag_read S None (named w) rest = refl
tag_read S None (range a b) rest = refl
tag_read S (Some n) (named w) rest = refl
tag_read S (Some n) (range a b) rest = refl

mutual
  term_read : (t : Term) (S : Stack) (rest : List Tok) → run (going S place) (spell t rest) ≡ run (closed S t) rest
  term_read (ref n) S rest = refl
  term_read (node g k ss) S rest =
      tag_read S g k (spell_slots ss (mark 41 ∷ rest)) ∙ slots_read ss S g k start (mark 41 ∷ rest) ∙
      ap (λ l. run (closed S (node g k l)) rest) (onto_back start ss)

  slots_read : (ss : Slots) (S : Stack) (g : Option ℤ) (k : Kind) (b : Back) (rest : List Tok) → run (going S (inside g k b)) (spell_slots ss rest) ≡ run (going S (inside g k (onto b ss))) rest
  slots_read none S g k b rest = refl
  slots_read (slot w t ss) S g k b rest = term_read t (frame g k b w S) (spell_slots ss rest) ∙ slots_read ss S g k (more b w t) rest

-- 2. What is read is spelt: the tokens that a state has taken.

abbrev pub backwards : Back → List Tok → List Tok
backwards start rest = rest
backwards (more b w t) rest = backwards b (word w ∷ spell t rest)

abbrev pub part : Mode → List Tok → List Tok
part place rest = rest
part opened rest = mark 40 ∷ rest
part hashed rest = mark 40 ∷ mark 35 ∷ rest
part (tagged n) rest = mark 40 ∷ mark 35 ∷ number n ∷ rest
part (low g) rest = mark 40 ∷ spell_tag g (mark 91 ∷ rest)
part (dotted g a) rest = mark 40 ∷ spell_tag g (mark 91 ∷ number a ∷ rest)
part (high g a) rest = mark 40 ∷ spell_tag g (mark 91 ∷ number a ∷ mark 46 ∷ rest)
part (ranged g a b) rest = mark 40 ∷ spell_tag g (mark 91 ∷ number a ∷ mark 46 ∷ number b ∷ rest)
part (inside g k ss) rest = mark 40 ∷ spell_tag g (spell_kind k (backwards ss rest))

abbrev pub under : Stack → List Tok → List Tok
under empty rest = rest
under (frame g k ss w S) rest = under S (part (inside g k ss) (word w ∷ rest))

abbrev pub taken : State → List Tok → List Tok
taken (going S m) rest = under S (part m rest)
taken (done t) rest = spell t rest

slots_taken : (b : Back) (after : Slots) (rest : List Tok) → spell_slots (slots_of b after) rest ≡ backwards b (spell_slots after rest)
slots_taken start after rest = refl
slots_taken (more b w t) after rest = slots_taken b (slot w t after) rest

closed_taken : (S : Stack) (t : Term) (rest : List Tok) → taken (closed S t) rest ≡ under S (spell t rest)
closed_taken empty t rest = refl
closed_taken (frame g k ss w S) t rest = refl

-- each answer of o, if any, has taken the token x after what s has taken
abbrev pub Takes : State → Tok → List Tok → Option State → Type 0
Takes s x rest None = Unit {0}
Takes s x rest (Some s') = taken s' rest ≡ taken s (x ∷ rest)

takes_or : (s : State) (x : Tok) (rest : List Tok) (a b : Option State) → Takes s x rest a → Takes s x rest b → Takes s x rest (option_or a b)
takes_or s x rest None b p q = q
takes_or s x rest (Some s') b p q = p

takes_on : (s : State) (x : Tok) (rest : List Tok) (c : ℕ) (s' : State) → taken s' rest ≡ taken s (mark c ∷ rest) → Takes s x rest (on c x s')
takes_on s (mark b) rest c s' h = cond_both (eqb b c) (Some s') None (Takes s (mark b) rest) (λ e. h ∙ ap (λ y. taken s (mark y ∷ rest)) (sym (eqb-true b c e))) (λ _. tt)
takes_on s (word w) rest c s' h = tt
takes_on s (number n) rest c s' h = tt

takes_word : (s : State) (x : Tok) (rest : List Tok) (f : List ℕ → State) → ((w : List ℕ) → taken (f w) rest ≡ taken s (word w ∷ rest)) → Takes s x rest (on_word x f)
takes_word s (mark b) rest f h = tt
takes_word s (word w) rest f h = h w
takes_word s (number n) rest f h = tt

takes_number : (s : State) (x : Tok) (rest : List Tok) (f : ℤ → State) → ((n : ℤ) → taken (f n) rest ≡ taken s (number n ∷ rest)) → Takes s x rest (on_number x f)
takes_number s (mark b) rest f h = tt
takes_number s (word w) rest f h = tt
takes_number s (number n) rest f h = h n

takes_kind : (S : Stack) (m : Mode) (g : Option ℤ) (x : Tok) (rest : List Tok) → ((r : List Tok) → part m r ≡ mark 40 ∷ spell_tag g r) → Takes (going S m) x rest (kind_first S g x)
takes_kind S m g x rest h =
    takes_or (going S m) x rest _ _
    (takes_word (going S m) x rest (λ w. going S (inside g (named w) start)) (λ w. ap (under S) (sym (h (word w ∷ rest)))))
    (takes_on (going S m) x rest 91 (going S (low g)) (ap (under S) (sym (h (mark 91 ∷ rest)))))

pub step_takes : (S : Stack) (m : Mode) (x : Tok) (rest : List Tok) → Takes (going S m) x rest (step_in S m x)
step_takes S place x rest = takes_on (going S place) x rest 40 (going S opened) refl
step_takes S opened x rest = takes_or (going S opened) x rest _ _ (takes_on (going S opened) x rest 35 (going S hashed) refl) (takes_kind S opened None x rest (λ r. refl))
step_takes S hashed x rest = takes_number (going S hashed) x rest (λ n. going S (tagged n)) (λ n. refl)
step_takes S (tagged n) x rest = takes_or (going S (tagged n)) x rest _ _ (takes_on (going S (tagged n)) x rest 41 (closed S (ref n)) (closed_taken S (ref n) rest)) (takes_kind S (tagged n) (Some n) x rest (λ r. refl))
step_takes S (low g) x rest = takes_number (going S (low g)) x rest (λ a. going S (dotted g a)) (λ a. refl)
step_takes S (dotted g a) x rest = takes_on (going S (dotted g a)) x rest 46 (going S (high g a)) refl
step_takes S (high g a) x rest = takes_number (going S (high g a)) x rest (λ b. going S (ranged g a b)) (λ b. refl)
step_takes S (ranged g a b) x rest = takes_on (going S (ranged g a b)) x rest 93 (going S (inside g (range a b) start)) refl
step_takes S (inside g k ss) x rest =
    takes_or (going S (inside g k ss)) x rest _ _
    (takes_word (going S (inside g k ss)) x rest (λ w. going (frame g k ss w S) place) (λ w. refl))
    (takes_on (going S (inside g k ss)) x rest 41 (closed S (node g k (slots_of ss none)))
    (closed_taken S (node g k (slots_of ss none)) rest ∙ ap (λ l. under S (mark 40 ∷ spell_tag g (spell_kind k l))) (slots_taken ss none (mark 41 ∷ rest))))

pub not_refused : (xs : List Tok) (t : Term) → refused xs ≡ accepted t → ⊥
not_refused xs t e = let z : ◌≡◌ {A = ℕ} 0 1 = cc in omega arith

run_taken : (xs : List Tok) (s : State) (t : Term) → run s xs ≡ accepted t → taken s xs ≡ spell t []
run_taken [] (going S m) t e = absurd (not_refused [] t e)
run_taken [] (done t') t e = let same : t' ≡ t = cc in ap (λ u. spell u []) same
run_taken (x ∷ xs) (going S m) t e = go (step_in S m x) (step_takes S m x xs) e (λ s' e'. run_taken xs s' t e')
  where
    go : (o : Option State) → Takes (going S m) x xs o → onward o (λ s'. run s' xs) (refused (x ∷ xs)) ≡ accepted t → ((s' : State) → run s' xs ≡ accepted t → taken s' xs ≡ spell t []) → taken (going S m) (x ∷ xs) ≡ spell t []
    go None h e k = absurd (not_refused (x ∷ xs) t e)
    go (Some s') h e k = sym h ∙ k s' e
run_taken (x ∷ xs) (done t') t e = absurd (not_refused (x ∷ xs) t e)

-- 3. Each state can be gone on from.

abbrev closes : Stack → List Tok
closes empty = []
closes (frame g k ss w S) = mark 41 ∷ closes S

abbrev finish : Mode → List Tok → List Tok
finish place rest = mark 40 ∷ word (97 ∷ []) ∷ mark 41 ∷ rest
finish opened rest = word (97 ∷ []) ∷ mark 41 ∷ rest
finish hashed rest = number (pos 1) ∷ mark 41 ∷ rest
finish (tagged n) rest = mark 41 ∷ rest
finish (low g) rest = number (pos 1) ∷ mark 46 ∷ number (pos 1) ∷ mark 93 ∷ mark 41 ∷ rest
finish (dotted g a) rest = mark 46 ∷ number (pos 1) ∷ mark 93 ∷ mark 41 ∷ rest
finish (high g a) rest = number (pos 1) ∷ mark 93 ∷ mark 41 ∷ rest
finish (ranged g a b) rest = mark 93 ∷ mark 41 ∷ rest
finish (inside g k ss) rest = mark 41 ∷ rest

-- run s can be brought to an acceptance
abbrev pub Ends : State → Type 0
Ends s = (xs : List Tok) × ((t : Term) × (run s xs ≡ accepted t))

close_all : (S : Stack) (t : Term) → (u : Term) × (run (closed S t) (closes S) ≡ accepted u)
close_all empty t = (t, refl)
close_all (frame g k ss w S) t = close_all S (node g k (slots_of (more ss w t) none))

mode_ends : (S : Stack) (m : Mode) → (u : Term) × (run (going S m) (finish m (closes S)) ≡ accepted u)
mode_ends S place = close_all S (node None (named (97 ∷ [])) none)
mode_ends S opened = close_all S (node None (named (97 ∷ [])) none)
mode_ends S hashed = close_all S (ref (pos 1))
mode_ends S (tagged n) = close_all S (ref n)
mode_ends S (low g) = close_all S (node g (range (pos 1) (pos 1)) none)
mode_ends S (dotted g a) = close_all S (node g (range a (pos 1)) none)
mode_ends S (high g a) = close_all S (node g (range a (pos 1)) none)
mode_ends S (ranged g a b) = close_all S (node g (range a b) none)
mode_ends S (inside g k ss) = close_all S (node g k (slots_of ss none))

pub ends : (s : State) → Ends s
ends (going S m) = (finish m (closes S), mode_ends S m)
ends (done t) = ([], (t, refl))

-- s refuses what is left
abbrev pub Halts : State → List Tok → Type 0
Halts s [] = (t : Term) → run s [] ≡ accepted t → ⊥
Halts s (x ∷ xs) = (more : List Tok) (t : Term) → run s (x ∷ more) ≡ accepted t → ⊥

-- 4. The laws.

pub round_trip : (t : Term) → read (spell t []) ≡ accepted t
round_trip t = term_read t empty []

pub spells_back : (xs : List Tok) (t : Term) → read xs ≡ accepted t → xs ≡ spell t []
spells_back xs t e = run_taken xs (going empty place) t e

-- front is no place, or its next token cannot stand there
abbrev pub Closed : List Tok → List Tok → Type 0
Closed front [] = Spelt front → ⊥
Closed front (x ∷ xs) = Opens (front ++ (x ∷ [])) → ⊥

pub stuck : (front left : List Tok) (s : State) → ((more : List Tok) → read (front ++ more) ≡ run s more) → Halts s left → Closed front left
stuck front [] s goes h = λ p. h p.0 (sym (goes []) ∙ ap read (append-nil front ∙ p.1) ∙ round_trip p.0)
stuck front (x ∷ xs) s goes h = λ p. h p.0 p.1.0 (sym (goes (x ∷ p.0)) ∙ ap read (sym (append_assoc front (x ∷ []) p.0) ∙ p.1.1) ∙ round_trip p.1.0)

same_term : (t u : Term) → accepted t ≡ accepted u → t ≡ u
same_term t u e = cc

pub one_term : (t u : Term) → spell t [] ≡ spell u [] → t ≡ u
one_term t u e = same_term t u (sym (round_trip t) ∙ ap read e ∙ round_trip u)
