-- The reader's answers, in the words of the grammar.
use Rattle.std.proofs.Common.{◌≡◌, ℕ, zero, suc, ltb, ◌⊎◌, List, [], ◌∷◌, ◌++◌, length, ℤ, Some, None, Option, sym, refl, ap, ◌∙◌, subst, inl, inr, ⊎_elim, arith}
use Rattle.std.proofs.lemmas.Bool.{cond_both}
use Rattle.tokens.specs.Tokens.{Tok, Next, finish, token, refusal, next_token}
use Rattle.tokens.proofs.Ahead.{Ahead, next_ahead}
use Rattle.reading.specs.declared.draft.Tag.{Tag}
use Rattle.reading.specs.declared.draft.Mode.{Mode}
use Rattle.reading.specs.declared.draft.Mode.TheVariants.{Done}
use Rattle.reading.specs.Drafts.{Draft, nothing}
use Rattle.reading.specs.Steps.{Step, go, fault, step, end_in, on_some, on_next, on_step, read_from, read_place, undescribed}
use Rattle.grammar.specs.Terms.{Term, spell}
use Rattle.grammar.specs.Lines.{Upto, here, next, Whole, Means, Accepts, Refuses}
use Rattle.grammar.proofs.Machine as gram
use Rattle.grammar.proofs.Machine.{State, going, done, empty, place, accepted, refused, run, onward}
use Rattle.grammar.proofs.Spelling.{ends, Halts, stuck, spells_back, not_refused, one_term}
use Rattle.grammar.proofs.Drafting.{Whole-read, not_long, drafted}
use Rattle.grammar.proofs.Accepting.{accepts_good}
use Rattle.grammar.proofs.Sim.{Rel, Matches, Mate, sim}

-- what an answer tells of the line from a byte on, where the machine is in a state s
record Told (line : List ℕ) (from : ℕ) (s : State) (b : ℕ) : Type 0 where
  front : List Tok
  j : ℕ
  s₂ : State
  upto : Upto line from front j
  runs : (more : List Tok) → run s (front ++ more) ≡ run s₂ more
  barred : ((next_token line j ≡ finish) × (b ≡ length line) × ((t : Term) → run s₂ [] ≡ accepted t → ⊥)) ⊎ ((x : Tok) × (k : ℕ) × (next_token line j ≡ token x b k) × (gram.step s₂ x ≡ None))

record Passed (line : List ℕ) (from : ℕ) (s : State) : Type 0 where
  xs : List Tok
  j : ℕ
  t : Term
  upto : Upto line from xs j
  ended : next_token line j ≡ finish
  runs : run s xs ≡ accepted t

module _ {K : Type 0} where
  abbrev Answer : List ℕ → ℕ → State → Step K → Type 0
  Answer line from s (go d) = Passed line from s
  Answer line from s (fault n b) = n ≡ 20 → Told line from s b

  -- the end of the line
  end_going : (g : gram.Mode) (m : Mode) (d : Draft K) (line : List ℕ) (from : ℕ) (s : State) → Mate g m → next_token line from ≡ finish → ((t : Term) → run s [] ≡ accepted t → ⊥) → Answer line from s (end_in m d (length line))
  end_going g m d line from s e f h = by g m e
    where
      told : ◌≡◌ {A = ℕ} 20 20 → Told line from s (length line)
      told _ = record { front = []; j = from; s₂ = s; upto = here; runs = λ more. refl; barred = inl (f, refl, h) }

      by : (g : gram.Mode) (m : Mode) → Mate g m → Answer line from s (end_in m d (length line))
      by gram.place m e = subst (λ m. Answer line from s (end_in m d (length line))) (sym e) told
      by gram.opened m e = subst (λ m. Answer line from s (end_in m d (length line))) (sym e) told
      by gram.hashed m e = subst (λ m. Answer line from s (end_in m d (length line))) (sym e) told
      by (gram.tagged n) m e = subst (λ m. Answer line from s (end_in m d (length line))) (sym e.1) told
      by (gram.low g) m e = subst (λ m. Answer line from s (end_in m d (length line))) (sym e.1) told
      by (gram.dotted g a) m e = subst (λ m. Answer line from s (end_in m d (length line))) (sym e.2) told
      by (gram.high g a) m e = subst (λ m. Answer line from s (end_in m d (length line))) (sym e.2) told
      by (gram.ranged g a b) m e = subst (λ m. Answer line from s (end_in m d (length line))) (sym e.3) told
      by (gram.inside g k ss) m e = subst (λ m. Answer line from s (end_in m d (length line))) (sym e) told

  end_done : (t : Term) (r : Option Tag) (d : Draft K) (line : List ℕ) (from : ℕ) → next_token line from ≡ finish → Answer line from (done t) (end_in (Done r) d (length line))
  end_done t None d line from f = by (undescribed d.slots d.places)
    where
      by : (o : Option ℕ) → Answer line from (done t) (on_some o (fault 26) (go d))
      by None = record { xs = []; j = from; t = t; upto = here; ended = f; runs = refl }
      by (Some b) = λ e. absurd (omega arith)
  end_done t (Some g) d line from f = λ e. absurd (omega arith)

  end_of : (s : State) (d : Draft K) (line : List ℕ) (from : ℕ) → Rel s d → next_token line from ≡ finish → Answer line from s (end_in d.mode d (length line))
  end_of (going S m) d line from r f = end_going m d.mode d line from (going S m) r.0 f (λ t. not_refused [] t)
  end_of (done t) d line from r f = subst (λ m. Answer line from (done t) (end_in m d (length line))) (sym r.1) (end_done t r.0 d line from f)

  -- one token more in front
  later : (line : List ℕ) (from : ℕ) (s s' : State) (x : Tok) (i j : ℕ) (r : Step K) → next_token line from ≡ token x i j → gram.step s x ≡ Some s' → Answer line j s' r → Answer line from s r
  later line from s s' x i j (go d) f g a = record {
    xs = x ∷ a.xs;
    j = a.j;
    t = a.t;
    upto = next f a.upto;
    ended = a.ended;
    runs = ap (λ o. onward o (λ u. run u a.xs) (refused (x ∷ a.xs))) g ∙ a.runs;
  }
  later line from s s' x i j (fault n b) f g a = λ e.
      let t = a e in
      record {
        front = x ∷ t.front;
        j = t.j;
        s₂ = t.s₂;
        upto = next f t.upto;
        runs = λ more. ap (λ o. onward o (λ u. run u (t.front ++ more)) (refused (x ∷ (t.front ++ more)))) g ∙ t.runs more;
        barred = t.barred;
      }

  module _ (words : List ℕ → Option K) (ranges : ℤ → ℤ → Option K) (pl sl : ℕ) (line : List ℕ) where
    answers : (turns from : ℕ) (s : State) (d : Draft K) → Rel s d → Answer line from s (read_from words ranges turns pl sl line from d)
    answers zero from s d r = λ e. absurd (omega arith)
    answers (suc turns) from s d r = by (λ j s' d' r'. answers turns j s' d' r') (next_token line from) refl (next_ahead line from)
      where
        after : ((j : ℕ) (s' : State) (d' : Draft K) → Rel s' d' → Answer line j s' (read_from words ranges turns pl sl line j d')) → (x : Tok) (i j : ℕ) → next_token line from ≡ token x i j → (o : Option State) (y : Step K) → gram.step s x ≡ o → Matches i o y → Answer line from s (on_step y (λ d₂. read_from words ranges turns pl sl line j d₂))
        after ih x i j f None (go d') g m = absurd m
        after ih x i j f None (fault n c) g m = λ e. record { front = []; j = from; s₂ = s; upto = here; runs = λ more. refl; barred = inr (x, j, subst (λ b. next_token line from ≡ token x b j) (sym m.1) f, g) }
        after ih x i j f (Some s') (go d') g m = later line from s s' x i j (read_from words ranges turns pl sl line j d') f g (ih j s' d' m)
        after ih x i j f (Some s') (fault n c) g m = λ e. absurd (m e)

        by : ((j : ℕ) (s' : State) (d' : Draft K) → Rel s' d' → Answer line j s' (read_from words ranges turns pl sl line j d')) → (n : Next) → next_token line from ≡ n → Ahead from (length line) n → Answer line from s (on_next n (end_in d.mode d (length line)) (λ x i j. on_step (step words ranges pl sl line d x i j) (λ d₂. read_from words ranges turns pl sl line j d₂)) fault)
        by ih finish f a = end_of s d line from r f
        by ih (token x i j) f a = after ih x i j f (gram.step s x) (step words ranges pl sl line d x i j) refl (sim words ranges pl sl line s d x i j r)
        by ih (refusal n b) f a = λ e. absurd (omega arith)

    whole : Answer line 0 (going empty place) (read_place words ranges pl sl line)
    unfolding read_place
    whole =
        cond_both (ltb 60000 (length line)) _ _ (Answer line 0 (going empty place)) (λ _ e. absurd (omega arith))
        (λ _. answers (suc (length line)) 0 (going empty place) nothing (refl, (refl, refl)))

halting : (front : List Tok) (x : Tok) (s : State) → gram.step s x ≡ None → Halts s (x ∷ [])
halting front x s g = λ more t h. not_refused (x ∷ more) t (sym (ap (λ o. onward o (λ u. run u more) (refused (x ∷ more))) g) ∙ h)

-- the tokens of a line are the line's only ones
not_token : (x : Tok) (i j : ℕ) → finish ≡ token x i j → ⊥
not_token x i j e = let z : ◌≡◌ {A = ℕ} 0 1 = cc in omega arith

same_token : (x y : Tok) (i j k l : ℕ) → token x i j ≡ token y k l → x ≡ y
same_token x y i j k l e = cc

same_end : (x y : Tok) (i j k l : ℕ) → token x i j ≡ token y k l → j ≡ l
same_end x y i j k l e = cc

pub upto_same : {line : List ℕ} {from : ℕ} {xs : List Tok} {j : ℕ} {ys : List Tok} {k : ℕ} → Upto line from xs j → next_token line j ≡ finish → Upto line from ys k → next_token line k ≡ finish → xs ≡ ys
upto_same here f here h = refl
upto_same here f (next {x = x} {i = i} {j = j} g v) h = absurd (not_token x i j (sym f ∙ g))
upto_same (next {x = x} {i = i} {j = j} g u) f here h = absurd (not_token x i j (sym h ∙ g))
upto_same {line} (next {x = x} {i = i} {j = j} {xs = xs} {k = k} g u) f (next {x = y} {i = i₂} {j = j₂} {xs = ys} {k = k₂} g₂ v) h =
    let same = sym g ∙ g₂ in
    let v₂ : Upto line j ys k₂ = subst (λ b. Upto line b ys k₂) (sym (same_end x y i j i₂ j₂ same)) v in
    let tail : xs ≡ ys = upto_same u f v₂ h in
    (λ n. same_token x y i j i₂ j₂ same n ∷ tail n)

whole_same : (line : List ℕ) (t u : Term) → Whole line (spell t []) → Whole line (spell u []) → t ≡ u
whole_same line t u v w = one_term t u (upto_same v.1 v.2 w.1 w.2)

read_whole : {K : Type 0} (words : List ℕ → Option K) (ranges : ℤ → ℤ → Option K) (pl sl : ℕ) (line : List ℕ) (d : Draft K) (t : Term) → read_place words ranges pl sl line ≡ go d → Whole line (spell t []) → Whole-read words ranges pl sl line t d
read_whole words ranges pl sl line d t e w = drafted words ranges pl sl line t d e (λ xs j v f. upto_same v f w.1 w.2)

means : {K : Type 0} (words : List ℕ → Option K) (ranges : ℤ → ℤ → Option K) (pl sl : ℕ) (line : List ℕ) (d : Draft K) → read_place words ranges pl sl line ≡ go d → (t : Term) × Means words ranges pl sl line t
means words ranges pl sl line d e =
    let p : Passed line 0 (going empty place) = subst (Answer line 0 (going empty place)) e (whole words ranges pl sl line) in
    let w : Whole line (spell p.t []) = subst (Whole line) (spells_back p.xs p.t p.runs) (p.j, p.upto, p.ended) in
    (p.t, record { short = not_long words ranges pl sl line d e; whole = w; good = (read_whole words ranges pl sl line d p.t e w).good })

pub accepts : {K : Type 0} → Accepts K
accepts = record {
  accepted = means;
  accepts = accepts_good;
  one = whole_same;
  lists = λ words ranges pl sl line d t e w. (read_whole words ranges pl sl line d t e w).lists;
}

pub refuses : {K : Type 0} → Refuses K
refuses words ranges pl sl line b e =
    let p : Told line 0 (going empty place) b = subst (Answer line 0 (going empty place)) e (whole words ranges pl sl line) refl in
    let f = ends p.s₂ in
    record {
      front = p.front;
      from = p.j;
      upto = p.upto;
      opens = (f.0, (f.1.0, spells_back (p.front ++ f.0) f.1.0 (p.runs f.0 ∙ f.1.1)));
      barred =
          ⊎_elim
          (λ h. inl (h.0, h.1, stuck p.front [] p.s₂ p.runs h.2))
          (λ h. inr (h.0, h.1, h.2, stuck p.front (h.0 ∷ []) p.s₂ p.runs (halting p.front h.0 p.s₂ h.3)))
          p.barred;
    }
