-- What is spelt is read, what is read is spelt, and where the machine stops the tokens cannot be continued.
use Rattle.std.proofs.Common.{◌≡◌, ℕ, eqb, List, [], ◌∷◌, ◌++◌, ℤ, pos, Some, None, Option, sym, refl, ap, ◌∙◌, append_assoc, append-nil, arith}
use Rattle.std.specs.Str.{bytes_eq}
use Rattle.std.proofs.lemmas.Bool.{cond_both, eqb-true}
use Rattle.std.proofs.lemmas.Slice.Eq.{bytes_eq-Decides}
use Rattle.tokens.specs.Tokens.{Tok, mark as sign, word, number}
use Rattle.reading.specs.declared.form.Verb.{Verb}
use Rattle.reading.specs.declared.form.Verb.TheVariants.{Add, Tie, Narrow, Mark, Keep, Back, Clear, Show}
use Rattle.reading.specs.Steps.{on_mark, on_word, on_number}
use Rattle.reading.specs.Forms as forms
use Rattle.grammar.specs.Terms.{Kind, named, range, Term, ref, node, Slots, none, slot, spell_tag, spell_kind, spell, spell_slots}
use Rattle.grammar.proofs.Machine as gram
use Rattle.grammar.proofs.Spelling as places
use Rattle.form_grammar.specs.FormTerms.{FormTerm, add, tie, narrow, mark, keep, back, clear, show, verb_of, spell_verb, spell_names, spell_path, spell_parts, spell_form}
use Rattle.form_grammar.specs.FormSpelt.{Spelt, Opens}
use Rattle.form_grammar.proofs.Machine.{Asks, to_add, to_tie, to_narrow, KindMode, unread, low, dotted, high, ranged, State, begin, opened, path, in_path, second, in_second, in_place, in_kind, close, closed, after_verb, after_word, after_path, placed, place_step, kind_step, step, ended, onward, run, read}

-- 1. What is spelt is read.

names_read : (v : Asks) (ws ns : List (List ℕ)) (rest : List Tok) → run (in_path v ws) (spell_names ns rest) ≡ run (in_path v (ws ++ ns)) rest
names_read v ws [] rest = ap (λ l. run (in_path v l) rest) (sym (append-nil ws))
names_read v ws (n ∷ ns) rest = names_read v (ws ++ (n ∷ [])) ns rest ∙ ap (λ l. run (in_path v l) rest) (append_assoc ws (n ∷ []) ns)

second_read : (p ws ns : List (List ℕ)) (rest : List Tok) → run (in_second p ws) (spell_names ns rest) ≡ run (in_second p (ws ++ ns)) rest
second_read p ws [] rest = ap (λ l. run (in_second p l) rest) (sym (append-nil ws))
second_read p ws (n ∷ ns) rest = second_read p (ws ++ (n ∷ [])) ns rest ∙ ap (λ l. run (in_second p l) rest) (append_assoc ws (n ∷ []) ns)

path_read : (v : Asks) (p : List (List ℕ)) (rest : List Tok) → run (path v) (spell_path p rest) ≡ run (after_path v p) rest
path_read v p rest = names_read v [] p (sign 41 ∷ rest)

-- the place of an add
tag_append : (g : Option ℤ) (a b : List Tok) → spell_tag g (a ++ b) ≡ spell_tag g a ++ b
tag_append None a b = refl
tag_append (Some n) a b = refl

kind_append : (k : Kind) (a b : List Tok) → spell_kind k (a ++ b) ≡ spell_kind k a ++ b
kind_append (named w) a b = refl
kind_append (range l h) a b = refl

mutual
  spell_append : (t : Term) (a b : List Tok) → spell t (a ++ b) ≡ spell t a ++ b
  spell_append (ref n) a b = refl
  spell_append (node g k ss) a b =
      ap (λ l. sign 40 ∷ spell_tag g (spell_kind k l)) (slots_append ss (sign 41 ∷ a) b) ∙
      ap (λ l. sign 40 ∷ spell_tag g l) (kind_append k (spell_slots ss (sign 41 ∷ a)) b) ∙
      ap (λ l. sign 40 ∷ l) (tag_append g (spell_kind k (spell_slots ss (sign 41 ∷ a))) b)

  slots_append : (ss : Slots) (a b : List Tok) → spell_slots ss (a ++ b) ≡ spell_slots ss a ++ b
  slots_append none a b = refl
  slots_append (slot w t ss) a b = ap (λ l. word w ∷ spell t l) (slots_append ss a b) ∙ ap (λ l. word w ∷ l) (spell_append t (spell_slots ss a) b)

place_run : (p : List (List ℕ)) (xs : List Tok) (s : gram.State) (t : Term) (rest : List Tok) → gram.run s xs ≡ gram.accepted t → run (in_place p s) (xs ++ rest) ≡ run (in_place p (gram.done t)) rest
place_run p [] (gram.going S m) t rest e = absurd (places.not_refused [] t e)
place_run p [] (gram.done u) t rest e = let same : u ≡ t = cc in ap (λ v. run (in_place p (gram.done v)) rest) same
place_run p (x ∷ xs) (gram.going S m) t rest e = on (gram.step_in S m x) e (λ s₂ e₂. place_run p xs s₂ t rest e₂)
  where
    on : (o : Option gram.State) → gram.onward o (λ s₂. gram.run s₂ xs) (gram.refused (x ∷ xs)) ≡ gram.accepted t → ((s₂ : gram.State) → gram.run s₂ xs ≡ gram.accepted t → run (in_place p s₂) (xs ++ rest) ≡ run (in_place p (gram.done t)) rest) → onward (placed p o) (λ s₂. run s₂ (xs ++ rest)) ≡ run (in_place p (gram.done t)) rest
    on None e k = absurd (places.not_refused (x ∷ xs) t e)
    on (Some s₂) e k = k s₂ e
place_run p (x ∷ xs) (gram.done u) t rest e = absurd (places.not_refused (x ∷ xs) t e)

place_read : (p : List (List ℕ)) (t : Term) (rest : List Tok) → run (in_place p (gram.going gram.empty gram.place)) (spell t rest) ≡ run (in_place p (gram.done t)) rest
place_read p t rest =
    ap (run (in_place p (gram.going gram.empty gram.place))) (spell_append t [] rest) ∙
    place_run p (spell t []) (gram.going gram.empty gram.place) t rest (places.round_trip t)

kind_read : (p : List (List ℕ)) (k : Kind) (rest : List Tok) → run (in_kind p unread) (spell_kind k rest) ≡ run (close (narrow p k)) rest
kind_read p (named w) rest = refl
kind_read p (range a h) rest = refl

pub round_trip : (t : FormTerm) → read (spell_form t []) ≡ Some t
round_trip (add p t) = path_read to_add p (spell t (sign 41 ∷ [])) ∙ place_read p t (sign 41 ∷ [])
round_trip (tie p q) = path_read to_tie p (spell_path q (sign 41 ∷ [])) ∙ second_read p [] q (sign 41 ∷ sign 41 ∷ [])
round_trip (narrow p k) = path_read to_narrow p (spell_kind k (sign 41 ∷ [])) ∙ kind_read p k (sign 41 ∷ [])
round_trip mark = refl
round_trip keep = refl
round_trip back = refl
round_trip clear = refl
round_trip show = refl

-- 2. What is read is spelt: the tokens that a state has taken.

abbrev pub verb_for : Asks → Verb
verb_for to_add = Add
verb_for to_tie = Tie
verb_for to_narrow = Narrow

abbrev headed : Verb → List Tok → List Tok
headed v rest = sign 40 ∷ word (spell_verb v) ∷ rest

abbrev kind_part : KindMode → List Tok → List Tok
kind_part unread rest = rest
kind_part low rest = sign 91 ∷ rest
kind_part (dotted a) rest = sign 91 ∷ number a ∷ rest
kind_part (high a) rest = sign 91 ∷ number a ∷ sign 46 ∷ rest
kind_part (ranged a h) rest = sign 91 ∷ number a ∷ sign 46 ∷ number h ∷ rest

abbrev taken : State → List Tok → List Tok
taken begin rest = rest
taken opened rest = sign 40 ∷ rest
taken (path v) rest = headed (verb_for v) rest
taken (in_path v ws) rest = headed (verb_for v) (sign 40 ∷ spell_names ws rest)
taken (second p) rest = headed Tie (spell_path p rest)
taken (in_second p ws) rest = headed Tie (spell_path p (sign 40 ∷ spell_names ws rest))
taken (in_place p s) rest = headed Add (spell_path p (places.taken s rest))
taken (in_kind p m) rest = headed Narrow (spell_path p (kind_part m rest))
taken (close t) rest = headed (verb_of t) (spell_parts t rest)
taken (closed t) rest = spell_form t rest

names_push : (ws : List (List ℕ)) (w : List ℕ) (rest : List Tok) → spell_names (ws ++ (w ∷ [])) rest ≡ spell_names ws (word w ∷ rest)
names_push [] w rest = refl
names_push (v ∷ ws) w rest = ap (λ l. word v ∷ l) (names_push ws w rest)

-- each answer of o, if any, has taken the token x after what s has taken
abbrev Takes : State → Tok → List Tok → Option State → Type 0
Takes s x rest None = Unit {0}
Takes s x rest (Some s₂) = taken s₂ rest ≡ taken s (x ∷ rest)

takes_mark : (s : State) (x : Tok) (rest : List Tok) (c : ℕ) (s₂ : State) → taken s₂ rest ≡ taken s (sign c ∷ rest) → Takes s x rest (on_mark c x (Some s₂) None)
takes_mark s (sign b) rest c s₂ h = cond_both (eqb b c) (Some s₂) None (Takes s (sign b) rest) (λ e. h ∙ ap (λ y. taken s (sign y ∷ rest)) (sym (eqb-true b c e))) (λ _. tt)
takes_mark s (word w) rest c s₂ h = tt
takes_mark s (number n) rest c s₂ h = tt

takes_word : (s : State) (x : Tok) (rest : List Tok) (f : List ℕ → Option State) (c : ℕ) (s₂ : State) → ((w : List ℕ) → Takes s (word w) rest (f w)) → taken s₂ rest ≡ taken s (sign c ∷ rest) → Takes s x rest (on_word x f (on_mark c x (Some s₂) None))
takes_word s (sign b) rest f c s₂ h k = takes_mark s (sign b) rest c s₂ k
takes_word s (word w) rest f c s₂ h k = h w
takes_word s (number n) rest f c s₂ h k = tt

takes_number : (s : State) (x : Tok) (rest : List Tok) (f : ℤ → State) → ((n : ℤ) → taken (f n) rest ≡ taken s (number n ∷ rest)) → Takes s x rest (on_number x (λ n. Some (f n)) None)
takes_number s (sign b) rest f h = tt
takes_number s (word w) rest f h = tt
takes_number s (number n) rest f h = h n

verb_taken : (v : Verb) (rest : List Tok) → taken (after_verb v) rest ≡ headed v rest
verb_taken Add rest = refl
verb_taken Tie rest = refl
verb_taken Narrow rest = refl
verb_taken Mark rest = refl
verb_taken Keep rest = refl
verb_taken Back rest = refl
verb_taken Clear rest = refl
verb_taken Show rest = refl

-- the words of the list are those of the verbs beside them
abbrev AllSpelt : List (List ℕ × Verb) → Type 0
AllSpelt [] = Unit {0}
AllSpelt (x ∷ xs) = (x.0 ≡ spell_verb x.1) × AllSpelt xs

abbrev spelt : Verb → List ℕ × Verb
spelt v = (spell_verb v, v)

lookup_takes : (w : List ℕ) (rest : List Tok) (xs : List (List ℕ × Verb)) → AllSpelt xs → Takes opened (word w) rest (after_word (forms.lookup w xs))
lookup_takes w rest [] a = tt
lookup_takes w rest (x ∷ xs) a =
    cond_both (bytes_eq w x.0) (Some x.1) (forms.lookup w xs) (λ y. Takes opened (word w) rest (after_word y))
    (λ e. verb_taken x.1 rest ∙ ap (λ u. sign 40 ∷ word u ∷ rest) (sym ((bytes_eq-Decides w x.0).0 e ∙ a.0))) (λ _. lookup_takes w rest xs a.1)

verb_takes : (w : List ℕ) (rest : List Tok) → Takes opened (word w) rest (after_word (forms.verb w))
verb_takes w rest =
    lookup_takes w rest (spelt Add ∷ spelt Tie ∷ spelt Narrow ∷ spelt Mark ∷ spelt Keep ∷ spelt Back ∷ spelt Clear ∷ spelt Show ∷ [])
    (refl, (refl, (refl, (refl, (refl, (refl, (refl, (refl, tt))))))))

opened_takes : (x : Tok) (rest : List Tok) → Takes opened x rest (on_word x (λ w. after_word (forms.verb w)) None)
opened_takes (sign b) rest = tt
opened_takes (word w) rest = verb_takes w rest
opened_takes (number n) rest = tt

path_taken : (v : Asks) (ws : List (List ℕ)) (rest : List Tok) → taken (after_path v ws) rest ≡ taken (in_path v ws) (sign 41 ∷ rest)
path_taken to_add ws rest = refl
path_taken to_tie ws rest = refl
path_taken to_narrow ws rest = refl

place_takes : (p : List (List ℕ)) (s : gram.State) (x : Tok) (rest : List Tok) → Takes (in_place p s) x rest (place_step p s x)
place_takes p (gram.going S m) x rest = on (gram.step_in S m x) (places.step_takes S m x rest)
  where
    on : (o : Option gram.State) → places.Takes (gram.going S m) x rest o → Takes (in_place p (gram.going S m)) x rest (placed p o)
    on None h = tt
    on (Some s₂) h = ap (λ l. headed Add (spell_path p l)) h
place_takes p (gram.done t) x rest = takes_mark (in_place p (gram.done t)) x rest 41 (closed (add p t)) refl

kind_takes : (p : List (List ℕ)) (m : KindMode) (x : Tok) (rest : List Tok) → Takes (in_kind p m) x rest (kind_step p m x)
kind_takes p unread x rest = takes_word (in_kind p unread) x rest (λ w. Some (close (narrow p (named w)))) 91 (in_kind p low) (λ w. refl) refl
kind_takes p low x rest = takes_number (in_kind p low) x rest (λ a. in_kind p (dotted a)) (λ a. refl)
kind_takes p (dotted a) x rest = takes_mark (in_kind p (dotted a)) x rest 46 (in_kind p (high a)) refl
kind_takes p (high a) x rest = takes_number (in_kind p (high a)) x rest (λ h. in_kind p (ranged a h)) (λ h. refl)
kind_takes p (ranged a h) x rest = takes_mark (in_kind p (ranged a h)) x rest 93 (close (narrow p (range a h))) refl

step_takes : (s : State) (x : Tok) (rest : List Tok) → Takes s x rest (step s x)
step_takes begin x rest = takes_mark begin x rest 40 opened refl
step_takes opened x rest = opened_takes x rest
step_takes (path v) x rest = takes_mark (path v) x rest 40 (in_path v []) refl
step_takes (in_path v ws) x rest =
    takes_word (in_path v ws) x rest (λ w. Some (in_path v (ws ++ (w ∷ [])))) 41 (after_path v ws)
    (λ w. ap (λ l. headed (verb_for v) (sign 40 ∷ l)) (names_push ws w rest)) (path_taken v ws rest)
step_takes (second p) x rest = takes_mark (second p) x rest 40 (in_second p []) refl
step_takes (in_second p ws) x rest =
    takes_word (in_second p ws) x rest (λ w. Some (in_second p (ws ++ (w ∷ [])))) 41 (close (tie p ws))
    (λ w. ap (λ l. headed Tie (spell_path p (sign 40 ∷ l))) (names_push ws w rest)) refl
step_takes (in_place p s) x rest = place_takes p s x rest
step_takes (in_kind p m) x rest = kind_takes p m x rest
step_takes (close t) x rest = takes_mark (close t) x rest 41 (closed t) refl
step_takes (closed t) x rest = tt

pub not_none : (t : FormTerm) → None ≡ Some t → ⊥
not_none t e = let z : ◌≡◌ {A = ℕ} 0 1 = cc in omega arith

pub same_form : (t u : FormTerm) → Some t ≡ Some u → t ≡ u
same_form t u e = cc

end_taken : (s : State) (t : FormTerm) → ended s ≡ Some t → taken s [] ≡ spell_form t []
end_taken begin t e = absurd (not_none t e)
end_taken opened t e = absurd (not_none t e)
end_taken (path v) t e = absurd (not_none t e)
end_taken (in_path v ws) t e = absurd (not_none t e)
end_taken (second p) t e = absurd (not_none t e)
end_taken (in_second p ws) t e = absurd (not_none t e)
end_taken (in_place p s) t e = absurd (not_none t e)
end_taken (in_kind p m) t e = absurd (not_none t e)
end_taken (close u) t e = absurd (not_none t e)
end_taken (closed u) t e = ap (λ v. spell_form v []) (same_form u t e)

run_taken : (xs : List Tok) (s : State) (t : FormTerm) → run s xs ≡ Some t → taken s xs ≡ spell_form t []
run_taken [] s t e = end_taken s t e
run_taken (x ∷ xs) s t e = on (step s x) (step_takes s x xs) e (λ s₂ e₂. run_taken xs s₂ t e₂)
  where
    on : (o : Option State) → Takes s x xs o → onward o (λ s₂. run s₂ xs) ≡ Some t → ((s₂ : State) → run s₂ xs ≡ Some t → taken s₂ xs ≡ spell_form t []) → taken s (x ∷ xs) ≡ spell_form t []
    on None h e k = absurd (not_none t e)
    on (Some s₂) h e k = sym h ∙ k s₂ e

-- 3. Each state can be gone on from.

abbrev pub Ends : State → Type 0
Ends s = (xs : List Tok) × ((t : FormTerm) × (run s xs ≡ Some t))

abbrev rest_of : Asks → List Tok
rest_of to_add = sign 40 ∷ word (97 ∷ []) ∷ sign 41 ∷ sign 41 ∷ []
rest_of to_tie = sign 40 ∷ sign 41 ∷ sign 41 ∷ []
rest_of to_narrow = word (97 ∷ []) ∷ sign 41 ∷ []

path_ends : (v : Asks) (p : List (List ℕ)) → (t : FormTerm) × (run (after_path v p) (rest_of v) ≡ Some t)
path_ends to_add p = (_, refl)
path_ends to_tie p = (_, refl)
path_ends to_narrow p = (_, refl)

kind_ends : (p : List (List ℕ)) (m : KindMode) → Ends (in_kind p m)
kind_ends p unread = (word (97 ∷ []) ∷ sign 41 ∷ [], (_, refl))
kind_ends p low = (number (pos 1) ∷ sign 46 ∷ number (pos 1) ∷ sign 93 ∷ sign 41 ∷ [], (_, refl))
kind_ends p (dotted a) = (sign 46 ∷ number (pos 1) ∷ sign 93 ∷ sign 41 ∷ [], (_, refl))
kind_ends p (high a) = (number (pos 1) ∷ sign 93 ∷ sign 41 ∷ [], (_, refl))
kind_ends p (ranged a h) = (sign 93 ∷ sign 41 ∷ [], (_, refl))

pub ends : (s : State) → Ends s
ends begin = (sign 40 ∷ word (spell_verb Mark) ∷ sign 41 ∷ [], (mark, refl))
ends opened = (word (spell_verb Mark) ∷ sign 41 ∷ [], (mark, refl))
ends (path v) = (sign 40 ∷ sign 41 ∷ rest_of v, path_ends v [])
ends (in_path v ws) = (sign 41 ∷ rest_of v, path_ends v ws)
ends (second p) = (sign 40 ∷ sign 41 ∷ sign 41 ∷ [], (tie p [], refl))
ends (in_second p ws) = (sign 41 ∷ sign 41 ∷ [], (tie p ws, refl))
ends (in_place p s) =
    let e = places.ends s in
    (e.0 ++ (sign 41 ∷ []), (add p e.1.0, place_run p e.0 s e.1.0 (sign 41 ∷ []) e.1.1))
ends (in_kind p m) = kind_ends p m
ends (close t) = (sign 41 ∷ [], (t, refl))
ends (closed t) = ([], (t, refl))

-- 4. The laws.

pub spells_back : (xs : List Tok) (t : FormTerm) → read xs ≡ Some t → xs ≡ spell_form t []
spells_back xs t e = run_taken xs begin t e

pub one_form : (t u : FormTerm) → spell_form t [] ≡ spell_form u [] → t ≡ u
one_form t u e = same_form t u (sym (round_trip t) ∙ ap read e ∙ round_trip u)

pub no_end : (front : List Tok) (s : State) → ((more : List Tok) → read (front ++ more) ≡ run s more) → ended s ≡ None → Spelt front → ⊥
no_end front s goes h p = not_none p.0 (sym h ∙ sym (goes []) ∙ ap read (append-nil front ∙ p.1) ∙ round_trip p.0)

pub no_more : (front : List Tok) (x : Tok) (s : State) → ((more : List Tok) → read (front ++ more) ≡ run s more) → step s x ≡ None → Opens (front ++ (x ∷ [])) → ⊥
no_more front x s goes h p =
    not_none p.1.0
    (sym (ap (λ o. onward o (λ s₂. run s₂ p.0)) h) ∙ sym (goes (x ∷ p.0)) ∙ ap read (sym (append_assoc front (x ∷ []) p.0) ∙ p.1.1) ∙ round_trip p.1.0)
