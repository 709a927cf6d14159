-- The reader of forms allows what the grammar allows: each of its steps is a step of the machine, and it says 20 where the machine refuses.
use Rattle.std.proofs.Common.{◌≡◌, ℕ, ◌<◌, ◌≤◌, Bool, true, false, cond, eqb, ltb, List, [], ◌∷◌, ◌++◌, length, ℤ, Some, None, Option, sym, refl, ap, ◌∙◌, subst, append_assoc, append-nil, arith}
use mathlib.Core.List.{map-append}
use lib.ListN.{length-map}
use lib.Signed.{lt_z}
use Rattle.std.proofs.lemmas.List.{length_push}
use Rattle.std.proofs.lemmas.Bool.{ltb-true, ltb-false}
use Rattle.names.specs.Names as names
use Rattle.tokens.specs.Tokens.{Tok, mark as sign, word, number, token, next_token}
use Rattle.reading.specs.declared.draft.Tag.{Tag}
use Rattle.reading.specs.declared.draft.Bracket.{Bracket}
use Rattle.reading.specs.declared.draft.Mode.{Mode}
use Rattle.reading.specs.declared.draft.Mode.TheVariants.{Begin, Low, Dotted, High, Ranged, Inside, Done}
use Rattle.reading.specs.declared.draft.Place.{Place}
use Rattle.reading.specs.declared.form.Verb.{Verb}
use Rattle.reading.specs.declared.form.Verb.TheVariants.{Add, Tie, Narrow, Mark, Keep, Back, Clear, Show}
use Rattle.reading.specs.declared.form.Stage.{Stage}
use Rattle.reading.specs.declared.form.Stage.TheVariants as stage
use Rattle.reading.specs.Drafts.{Draft, nothing}
use Rattle.reading.specs.Steps.{Step, go, fault, on_mark, on_word, on_some, describe, step_in}
use Rattle.reading.specs.Forms as forms
use Rattle.reading.specs.Forms.{Formed, FormStep, goes, refused, on_done, drafted, path_named, after_kind, form_step}
use Rattle.grammar.specs.Terms.{Kind, named, range, Term, spell}
use Rattle.grammar.specs.Described.{kind_of}
use Rattle.grammar.specs.Good.{GoodRange}
use Rattle.grammar.proofs.Machine as gram
use Rattle.grammar.proofs.Spelling as places
use Rattle.grammar.proofs.Sim as sims
use Rattle.grammar.proofs.Drafting.{Goes, stop, take}
use Rattle.form_grammar.specs.FormTerms.{FormTerm, add, tie, narrow, mark, keep, back, clear, show, verb_of, first_path, second_path}
use Rattle.form_grammar.specs.FormLines.{ShortNames, GoodPath, numbers}
use Rattle.form_grammar.proofs.Machine.{Asks, to_add, to_tie, to_narrow, KindMode, unread, low, dotted, high, ranged, State, begin, opened, path, in_path, second, in_second, in_place, in_kind, close, closed, after_verb, after_word, after_path, placed, place_step, kind_step, step}
use Rattle.form_grammar.proofs.Spelling.{verb_for}

-- a path with one name more
short_push : (ws : List (List ℕ)) (w : List ℕ) → length w ≤ 12 → ShortNames ws → ShortNames (ws ++ (w ∷ []))
short_push [] w h a = (h, tt)
short_push (v ∷ ws) w h a = (a.0, short_push ws w h a.1)

good_push : (ws : List (List ℕ)) (w : List ℕ) → length w ≤ 12 → length (numbers ws) < 16 → GoodPath ws → GoodPath (ws ++ (w ∷ []))
good_push ws w h room g = (omega (arith, length_push ws w, length-map ws names.number), short_push ws w h g.1)

no_names : GoodPath []
no_names = (omega arith, tt)

abbrev bracket : ℕ → Bracket
bracket b = record { tag = None; byte = b }

module _ {K : Type 0} where
  abbrev pub F : Stage → List ℕ → List ℕ → Draft K → Formed K
  F t a b d = record { stage = t; first = a; second = b; draft = d }

  abbrev pub D : Mode → List (Place K) → Draft K
  D m ps = record { mode = m; top = 0; places = ps; slots = [] }

  module _ (words : List ℕ → Option K) (ranges : ℤ → ℤ → Option K) (pl sl : ℕ) (line : List ℕ) where
    -- the place of an add, as far as it has been read
    pub record Reached (from : ℕ) (s : gram.State) (d : Draft K) : Type 0 where
      pub start : ℕ
      pub xs : List Tok
      pub went : Goes words ranges pl sl line start nothing xs from d
      pub runs : (more : List Tok) → gram.read (xs ++ more) ≡ gram.run s more

    pub record InPlace (p : List (List ℕ)) (s : gram.State) (f : Formed K) (from : ℕ) : Type 0 where
      pub d : Draft K
      pub same : f ≡ F stage.Place (numbers p) [] d
      pub good : GoodPath p
      pub rel : sims.Rel s d
      pub reached : Reached from s d

    pub record PlaceRead (t : Term) (d : Draft K) : Type 0 where
      pub start : ℕ
      pub end : ℕ
      pub went : Goes words ranges pl sl line start nothing (spell t []) end d
      pub tag : Option Tag
      pub over : d.mode ≡ Done tag

    pub record KindRead (k : Kind) (d : Draft K) : Type 0 where
      pub kind : K
      pub is : kind_of words ranges k ≡ Some kind
      pub rises : GoodRange k
      pub same : d ≡ D Inside (record { kind = kind; parent = 0; tag = None } ∷ [])

    abbrev pub Held : FormTerm → Draft K → Type 0
    Held (add p t) d = PlaceRead t d
    Held (tie p q) d = d ≡ nothing
    Held (narrow p k) d = KindRead k d
    Held mark d = d ≡ nothing
    Held keep d = d ≡ nothing
    Held back d = d ≡ nothing
    Held clear d = d ≡ nothing
    Held show d = d ≡ nothing

    pub record Ending (s : Stage) (t : FormTerm) (f : Formed K) : Type 0 where
      pub d : Draft K
      pub same : f ≡ F s (numbers (first_path t)) (numbers (second_path t)) d
      pub good : GoodPath (first_path t)
      pub good₂ : GoodPath (second_path t)
      pub held : Held t d

    abbrev KindRel : List (List ℕ) → KindMode → Formed K → Type 0
    KindRel p unread f = f ≡ F stage.Kind (numbers p) [] nothing
    KindRel p low f = (b : ℕ) × (f ≡ F stage.Range (numbers p) [] (D (Low (bracket b)) []))
    KindRel p (dotted a) f = (b : ℕ) × (f ≡ F stage.Range (numbers p) [] (D (Dotted (bracket b) a) []))
    KindRel p (high a) f = (b : ℕ) × (f ≡ F stage.Range (numbers p) [] (D (High (bracket b) a) []))
    KindRel p (ranged a h) f = (b : ℕ) × (f ≡ F stage.Range (numbers p) [] (D (Ranged (bracket b) a h) [])) × (lt_z h a ≡ false)

    -- the states of the machine and what the reader has that go together, where the next token is looked for from a byte on
    abbrev pub Rel : State → Formed K → ℕ → Type 0
    Rel begin f from = f ≡ F stage.Begin [] [] nothing
    Rel opened f from = f ≡ F stage.Opened [] [] nothing
    Rel (path v) f from = f ≡ F (stage.Path (verb_for v)) [] [] nothing
    Rel (in_path v ws) f from = (f ≡ F (stage.InPath (verb_for v)) (numbers ws) [] nothing) × GoodPath ws
    Rel (second p) f from = (f ≡ F stage.SecondPath (numbers p) [] nothing) × GoodPath p
    Rel (in_second p ws) f from = (f ≡ F stage.InSecondPath (numbers p) (numbers ws) nothing) × GoodPath p × GoodPath ws
    Rel (in_place p s) f from = InPlace p s f from
    Rel (in_kind p m) f from = KindRel p m f × GoodPath p
    Rel (close t) f from = Ending (stage.Close (verb_of t)) t f
    Rel (closed t) f from = Ending (stage.Closed (verb_of t)) t f

    abbrev pub Matches : ℕ → ℕ → Option State → FormStep K → Type 0
    Matches b j None (goes f) = ⊥
    Matches b j None (refused n c) = (n ≡ 20) × (c ≡ b)
    Matches b j (Some s) (goes f) = Rel s f j
    Matches b j (Some s) (refused n c) = n ≡ 20 → ⊥

    -- ---- a choice that both make

    both : (b j : ℕ) (q : Bool) (s : State) (y : FormStep K) → Matches b j (Some s) y → Matches b j (cond q (Some s) None) (cond q y (refused 20 b))
    both b j true s y h = h
    both b j false s y h = (refl, refl)

    on_mark_lem : (b j c : ℕ) (x : Tok) (s : State) (y : FormStep K) → Matches b j (Some s) y → Matches b j (on_mark c x (Some s) None) (on_mark c x y (refused 20 b))
    on_mark_lem b j c (sign a) s y h = both b j (eqb a c) s y h
    on_mark_lem b j c (word w) s y h = (refl, refl)
    on_mark_lem b j c (number n) s y h = (refl, refl)

    on_word_lem : (b j c : ℕ) (x : Tok) (g : List ℕ → Option State) (y : List ℕ → FormStep K) (s : State) (z : FormStep K) → ((w : List ℕ) → Matches b j (g w) (y w)) → Matches b j (Some s) z → Matches b j (on_word x g (on_mark c x (Some s) None)) (on_word x y (on_mark c x z (refused 20 b)))
    on_word_lem b j c (sign a) g y s z h k = both b j (eqb a c) s z k
    on_word_lem b j c (word w) g y s z h k = h w
    on_word_lem b j c (number n) g y s z h k = (refl, refl)

    -- ---- names of a path

    numbers_push : (ws : List (List ℕ)) (w : List ℕ) → numbers ws ++ (names.number w ∷ []) ≡ numbers (ws ++ (w ∷ []))
    numbers_push ws w = sym (map-append names.number ws (w ∷ []))

    named_path : (b j : ℕ) (ws : List (List ℕ)) (w : List ℕ) (s : State) (next : List ℕ → FormStep K) → (length w ≤ 12 → length (numbers ws) < 16 → Matches b j (Some s) (next (numbers ws ++ (names.number w ∷ [])))) → Matches b j (Some s) (path_named w (numbers ws) b next)
    named_path b j ws w s next h = on (ltb 12 (length w)) refl (ltb (length (numbers ws)) 16) refl
      where
        on : (q : Bool) → ltb 12 (length w) ≡ q → (r : Bool) → ltb (length (numbers ws)) 16 ≡ r → Matches b j (Some s) (cond q (refused 23 b) (cond r (next (numbers ws ++ (names.number w ∷ []))) (refused 29 b)))
        on true e r e₂ = λ z. omega arith
        on false e true e₂ = h (ltb-false 12 (length w) e) (ltb-true (length (numbers ws)) 16 e₂)
        on false e false e₂ = λ z. omega arith

    path_over : (b j : ℕ) (v : Asks) (ws : List (List ℕ)) → GoodPath ws → Rel (after_path v ws) (F (forms.after_path (verb_for v)) (numbers ws) [] nothing) j
    path_over b j to_add ws g = record { d = nothing; same = refl; good = g; rel = (refl, (refl, refl)); reached = record { start = j; xs = []; went = stop; runs = λ more. refl } }
    path_over b j to_tie ws g = (refl, g)
    path_over b j to_narrow ws g = (refl, g)

    -- ---- the verb

    verb_over : (j : ℕ) (v : Verb) → Rel (after_verb v) (F (forms.after_word v) [] [] nothing) j
    verb_over j Add = refl
    verb_over j Tie = refl
    verb_over j Narrow = refl
    verb_over j Mark = record { d = nothing; same = refl; good = no_names; good₂ = no_names; held = refl }
    verb_over j Keep = record { d = nothing; same = refl; good = no_names; good₂ = no_names; held = refl }
    verb_over j Back = record { d = nothing; same = refl; good = no_names; good₂ = no_names; held = refl }
    verb_over j Clear = record { d = nothing; same = refl; good = no_names; good₂ = no_names; held = refl }
    verb_over j Show = record { d = nothing; same = refl; good = no_names; good₂ = no_names; held = refl }

    verb_step : (b j : ℕ) (o : Option Verb) → Matches b j (after_word o) (on_some o (λ v. goes (F (forms.after_word v) [] [] nothing)) (refused 20 b))
    verb_step b j None = (refl, refl)
    verb_step b j (Some v) = verb_over j v

    -- ---- the place of an add

    goes_push : {start : ℕ} {d : Draft K} {xs : List Tok} {from : ℕ} {z : Draft K} (x : Tok) (i j : ℕ) (z₂ : Draft K) → Goes words ranges pl sl line start d xs from z → next_token line from ≡ token x i j → step_in words ranges pl sl line z.mode z x i j ≡ go z₂ → Goes words ranges pl sl line start d (xs ++ (x ∷ [])) j z₂
    goes_push x i j z₂ stop f s = take f s stop
    goes_push x i j z₂ (take a b g) f s = take a b (goes_push x i j z₂ g f s)

    not_done : {X : Type 0} (m : gram.Mode) (md : Mode) (y z : X) → sims.Mate m md → on_done md y z ≡ z
    not_done gram.place md y z e = ap (λ m. on_done m y z) e
    not_done gram.opened md y z e = ap (λ m. on_done m y z) e
    not_done gram.hashed md y z e = ap (λ m. on_done m y z) e
    not_done (gram.tagged n) md y z e = ap (λ m. on_done m y z) e.1
    not_done (gram.low g) md y z e = ap (λ m. on_done m y z) e.1
    not_done (gram.dotted g a) md y z e = ap (λ m. on_done m y z) e.2
    not_done (gram.high g a) md y z e = ap (λ m. on_done m y z) e.2
    not_done (gram.ranged g a h) md y z e = ap (λ m. on_done m y z) e.3
    not_done (gram.inside g k ss) md y z e = ap (λ m. on_done m y z) e

    place_step_lem : (p : List (List ℕ)) (s : gram.State) (d : Draft K) (x : Tok) (from b j : ℕ) → next_token line from ≡ token x b j → GoodPath p → sims.Rel s d → Reached from s d → Matches b j (place_step p s x) (form_step words ranges pl sl line (F stage.Place (numbers p) [] d) x b j)
    place_step_lem p (gram.going S m) d x from b j f good rel r =
        subst (Matches b j (placed p (gram.step_in S m x))) (sym (not_done m d.mode _ _ rel.0))
        (on (gram.step_in S m x) (step_in words ranges pl sl line d.mode d x b j) refl refl (sims.sim words ranges pl sl line (gram.going S m) d x b j rel))
      where
        on : (o : Option gram.State) (y : Step K) → gram.step_in S m x ≡ o → step_in words ranges pl sl line d.mode d x b j ≡ y → sims.Matches b o y → Matches b j (placed p o) (drafted (λ m. stage.Place) (F stage.Place (numbers p) [] d) y)
        on None (go d₂) g s h = absurd h
        on None (fault n c) g s h = h
        on (Some s₂) (go d₂) g s h = record {
          d = d₂;
          same = refl;
          good = good;
          rel = h;
          reached = record {
            start = r.start;
            xs = r.xs ++ (x ∷ []);
            went = goes_push x b j d₂ r.went f s;
            runs = λ more. ap gram.read (append_assoc r.xs (x ∷ []) more) ∙ r.runs (x ∷ more) ∙ ap (λ o. gram.onward o (λ u. gram.run u more) (gram.refused (x ∷ more))) g;
          };
        }
        on (Some s₂) (fault n c) g s h = h
    place_step_lem p (gram.done t) d x from b j f good rel r =
        subst (λ m. Matches b j (place_step p (gram.done t) x) (on_done m (on_mark 41 x (goes (F (stage.Closed Add) (numbers p) [] d)) (refused 20 b)) (drafted (λ m. stage.Place) (F stage.Place (numbers p) [] d) (step_in words ranges pl sl line m d x b j)))) (sym rel.1)
        (on_mark_lem b j 41 x (closed (add p t)) _ (record { d = d; same = refl; good = good; good₂ = no_names; held = record { start = r.start; end = from; went = subst (λ l. Goes words ranges pl sl line r.start nothing l from d) all r.went; tag = rel.0; over = rel.1 } }))
      where
        all : r.xs ≡ spell t []
        all = places.spells_back r.xs t (ap gram.read (sym (append-nil r.xs)) ∙ r.runs [])

    -- ---- the kind of a narrow

    kind_over : (p : List (List ℕ)) (k : Kind) (x : K) → GoodPath p → kind_of words ranges k ≡ Some x → GoodRange k → Ending (stage.Close Narrow) (narrow p k) (F (stage.Close Narrow) (numbers p) [] (D Inside (record { kind = x; parent = 0; tag = None } ∷ [])))
    kind_over p k x good is up = record { d = D Inside (record { kind = x; parent = 0; tag = None } ∷ []); same = refl; good = good; good₂ = no_names; held = record { kind = x; is = is; rises = up; same = refl } }

    -- the kind is known, or else 21
    kind_known : (b j c : ℕ) (p : List (List ℕ)) (k : Kind) (f : Formed K) (m : Mode) → f.first ≡ numbers p → f.second ≡ [] → GoodPath p → GoodRange k → (o : Option K) → kind_of words ranges k ≡ o → Matches b j (Some (close (narrow p k))) (drafted after_kind f (on_some o (λ x. describe 1 None x (D m []) c) (fault 21 c)))
    kind_known b j c p k f m e₁ e₂ good up None is = λ z. omega arith
    kind_known b j c p k f m e₁ e₂ good up (Some x) is =
        subst (λ l. Ending (stage.Close Narrow) (narrow p k) (F (stage.Close Narrow) l f.second (D Inside (record { kind = x; parent = 0; tag = None } ∷ [])))) (sym e₁)
        (subst (λ l. Ending (stage.Close Narrow) (narrow p k) (F (stage.Close Narrow) (numbers p) l (D Inside (record { kind = x; parent = 0; tag = None } ∷ [])))) (sym e₂) (kind_over p k x good is up))

    -- one token of the kind, or else 20
    kind_mark : (b j : ℕ) (q : Bool) (s : State) (f : Formed K) (y : Step K) → Matches b j (Some s) (drafted after_kind f y) → Matches b j (cond q (Some s) None) (drafted after_kind f (cond q y (fault 20 b)))
    kind_mark b j true s f y h = h
    kind_mark b j false s f y h = (refl, refl)

    kind_high : (b j : ℕ) (p : List (List ℕ)) (o : ℕ) (a h : ℤ) → GoodPath p → (q : Bool) → lt_z h a ≡ q → Matches b j (Some (in_kind p (ranged a h))) (drafted after_kind (F stage.Range (numbers p) [] (D (High (bracket o) a) [])) (cond q (fault 22 b) (go (D (Ranged (bracket o) a h) []))))
    kind_high b j p o a h good true e = λ z. omega arith
    kind_high b j p o a h good false e = ((o, refl, e), good)

    abbrev Kind-at : ℕ → ℕ → List (List ℕ) → KindMode → Tok → Formed K → Type 0
    Kind-at b j p m x f = Matches b j (kind_step p m x) (form_step words ranges pl sl line f x b j)

    kind_first_lem : (b j : ℕ) (p : List (List ℕ)) (x : Tok) → GoodPath p → Kind-at b j p unread x (F stage.Kind (numbers p) [] nothing)
    kind_first_lem b j p (sign c) good = kind_mark b j (eqb c 91) (in_kind p low) (F stage.Kind (numbers p) [] nothing) _ ((b, refl), good)
    kind_first_lem b j p (word w) good = kind_known b j b p (named w) (F stage.Kind (numbers p) [] nothing) Begin refl refl good tt (words w) refl
    kind_first_lem b j p (number n) good = (refl, refl)

    kind_low : (b j o : ℕ) (p : List (List ℕ)) (x : Tok) → GoodPath p → Kind-at b j p low x (F stage.Range (numbers p) [] (D (Low (bracket o)) []))
    kind_low b j o p (sign c) good = (refl, refl)
    kind_low b j o p (word w) good = (refl, refl)
    kind_low b j o p (number n) good = ((o, refl), good)

    kind_dots : (b j o : ℕ) (p : List (List ℕ)) (a : ℤ) (x : Tok) → GoodPath p → Kind-at b j p (dotted a) x (F stage.Range (numbers p) [] (D (Dotted (bracket o) a) []))
    kind_dots b j o p a (sign c) good = kind_mark b j (eqb c 46) (in_kind p (high a)) (F stage.Range (numbers p) [] (D (Dotted (bracket o) a) [])) _ ((o, refl), good)
    kind_dots b j o p a (word w) good = (refl, refl)
    kind_dots b j o p a (number n) good = (refl, refl)

    kind_end : (b j o : ℕ) (p : List (List ℕ)) (a : ℤ) (x : Tok) → GoodPath p → Kind-at b j p (high a) x (F stage.Range (numbers p) [] (D (High (bracket o) a) []))
    kind_end b j o p a (sign c) good = (refl, refl)
    kind_end b j o p a (word w) good = (refl, refl)
    kind_end b j o p a (number n) good = kind_high b j p o a n good (lt_z n a) refl

    kind_last : (b j o : ℕ) (p : List (List ℕ)) (a h : ℤ) (x : Tok) → GoodPath p → lt_z h a ≡ false → Kind-at b j p (ranged a h) x (F stage.Range (numbers p) [] (D (Ranged (bracket o) a h) []))
    kind_last b j o p a h (sign c) good up =
        kind_mark b j (eqb c 93) (close (narrow p (range a h))) (F stage.Range (numbers p) [] (D (Ranged (bracket o) a h) [])) _
        (kind_known b j o p (range a h) (F stage.Range (numbers p) [] (D (Ranged (bracket o) a h) [])) (Ranged (bracket o) a h) refl refl good up (ranges a h) refl)
    kind_last b j o p a h (word w) good up = (refl, refl)
    kind_last b j o p a h (number n) good up = (refl, refl)

    kind_step_lem : (b j : ℕ) (p : List (List ℕ)) (m : KindMode) (x : Tok) (f : Formed K) → KindRel p m f → GoodPath p → Kind-at b j p m x f
    kind_step_lem b j p unread x f r good = subst (Kind-at b j p unread x) (sym r) (kind_first_lem b j p x good)
    kind_step_lem b j p low x f r good = subst (Kind-at b j p low x) (sym r.1) (kind_low b j r.0 p x good)
    kind_step_lem b j p (dotted a) x f r good = subst (Kind-at b j p (dotted a) x) (sym r.1) (kind_dots b j r.0 p a x good)
    kind_step_lem b j p (high a) x f r good = subst (Kind-at b j p (high a) x) (sym r.1) (kind_end b j r.0 p a x good)
    kind_step_lem b j p (ranged a h) x f r good = subst (Kind-at b j p (ranged a h) x) (sym r.1) (kind_last b j r.0 p a h x good r.2)

    -- ---- each step

    abbrev At : ℕ → ℕ → State → Tok → Formed K → Type 0
    At b j s x f = Matches b j (step s x) (form_step words ranges pl sl line f x b j)

    opened_step : (b j : ℕ) (x : Tok) → At b j opened x (F stage.Opened [] [] nothing)
    opened_step b j (sign c) = (refl, refl)
    opened_step b j (word w) = verb_step b j (forms.verb w)
    opened_step b j (number n) = (refl, refl)

    pub sim : (s : State) (f : Formed K) (x : Tok) (from b j : ℕ) → next_token line from ≡ token x b j → Rel s f from → Matches b j (step s x) (form_step words ranges pl sl line f x b j)
    sim begin f x from b j t r = subst (At b j begin x) (sym r) (on_mark_lem b j 40 x opened _ refl)
    sim opened f x from b j t r = subst (At b j opened x) (sym r) (opened_step b j x)
    sim (path v) f x from b j t r = subst (At b j (path v) x) (sym r) (on_mark_lem b j 40 x (in_path v []) _ (refl, no_names))
    sim (in_path v ws) f x from b j t r =
        subst (At b j (in_path v ws) x) (sym r.0)
        (on_word_lem b j 41 x (λ w. Some (in_path v (ws ++ (w ∷ [])))) _ (after_path v ws) _
        (λ w. named_path b j ws w (in_path v (ws ++ (w ∷ []))) (λ l. goes (F (stage.InPath (verb_for v)) l [] nothing))
        (λ short room. (ap (λ l. F (stage.InPath (verb_for v)) l [] nothing) (numbers_push ws w), good_push ws w short room r.1)))
        (path_over b j v ws r.1))
    sim (second p) f x from b j t r = subst (At b j (second p) x) (sym r.0) (on_mark_lem b j 40 x (in_second p []) _ (refl, r.1, no_names))
    sim (in_second p ws) f x from b j t r =
        subst (At b j (in_second p ws) x) (sym r.0)
        (on_word_lem b j 41 x (λ w. Some (in_second p (ws ++ (w ∷ [])))) _ (close (tie p ws)) _
        (λ w. named_path b j ws w (in_second p (ws ++ (w ∷ []))) (λ l. goes (F stage.InSecondPath (numbers p) l nothing))
        (λ short room. (ap (λ l. F stage.InSecondPath (numbers p) l nothing) (numbers_push ws w), r.1, good_push ws w short room r.2)))
        (record { d = nothing; same = refl; good = r.1; good₂ = r.2; held = refl }))
    sim (in_place p s) f x from b j t r = subst (At b j (in_place p s) x) (sym r.same) (place_step_lem p s r.d x from b j t r.good r.rel r.reached)
    sim (in_kind p m) f x from b j t r = kind_step_lem b j p m x f r.0 r.1
    sim (close u) f x from b j t r =
        subst (At b j (close u) x) (sym r.same)
        (on_mark_lem b j 41 x (closed u) _ (record { d = r.d; same = refl; good = r.good; good₂ = r.good₂; held = r.held }))
    sim (closed u) f x from b j t r = subst (At b j (closed u) x) (sym r.same) (refl, refl)
