-- The answers of the reader of forms, in the words of the grammar.
use Rattle.std.proofs.Common.{◌≡◌, ℕ, zero, suc, ◌≤◌, Bool, true, false, cond, ltb, ◌⊎◌, List, [], ◌∷◌, ◌++◌, length, ℤ, Some, None, Option, sym, refl, ap, ◌∙◌, subst, inl, inr, ⊎_elim, arith}
use Rattle.std.proofs.lemmas.Bool.{cond_both, ltb-false}
use Rattle.tokens.specs.Tokens.{Tok, Next, finish, token, refusal, next_token}
use Rattle.tokens.proofs.Ahead.{Ahead, next_ahead}
use Rattle.reading.specs.declared.draft.Tag.{Tag}
use Rattle.reading.specs.declared.draft.Mode.{Mode}
use Rattle.reading.specs.declared.draft.Mode.TheVariants.{Done}
use Rattle.reading.specs.declared.form.Verb.TheVariants.{Add}
use Rattle.reading.specs.declared.form.Stage.TheVariants as stage
use Rattle.reading.specs.Drafts.{Draft}
use Rattle.reading.specs.Steps.{Step, go, fault, end_in, on_some, on_next, undescribed}
use Rattle.reading.specs.Forms.{Formed, FormStep, goes, refused, unread, drafted, on_form_step, form_end, form_step, form_from, read_form}
use Rattle.grammar.specs.Terms.{Term}
use Rattle.grammar.specs.Lines.{Upto, here, next, Whole}
use Rattle.grammar.proofs.Drafting.{root_read}
use Rattle.grammar.proofs.Right.{upto_same}
use Rattle.form_grammar.specs.FormTerms.{FormTerm, add, tie, narrow, mark, keep, back, clear, show, verb_of, first_path, second_path, spell_form}
use Rattle.form_grammar.specs.FormLines.{numbers, GoodParts, GoodForm, Means, Drafted, Parts, Accepts, Refuses}
use Rattle.form_grammar.proofs.Machine as gram
use Rattle.form_grammar.proofs.Machine.{State, begin, opened, path, in_path, second, in_second, in_place, in_kind, close, closed, KindMode, low, dotted, high, ranged, run, onward}
use Rattle.form_grammar.proofs.Spelling.{ends, no_end, no_more, spells_back, one_form}
use Rattle.form_grammar.proofs.Accepting.{accepts_good}
use Rattle.form_grammar.proofs.Sim.{F, Ending, Rel, Matches, sim}

-- what a 20 tells of the line from a byte on, where the machine is in a state s
record Told (line : List ℕ) (from : ℕ) (s : State) (b : ℕ) : Type 0 where
  front : List Tok
  j : ℕ
  s₂ : State
  upto : Upto line from front j
  runs : (more : List Tok) → run s (front ++ more) ≡ run s₂ more
  barred : ((next_token line j ≡ finish) × (b ≡ length line) × (gram.ended s₂ ≡ None)) ⊎ ((x : Tok) × (k : ℕ) × (next_token line j ≡ token x b k) × (gram.step s₂ x ≡ None))

module _ {K : Type 0} where
  no_fault : (n b : ℕ) (f : Formed K) → refused n b ≡ goes f → ⊥
  no_fault n b f e = let z : ◌≡◌ {A = ℕ} 0 1 = cc in omega arith

  -- the end of an add's line is no 20
  end_other : (m : Mode) (r : Option Tag) (d : Draft K) (b n c : ℕ) → m ≡ Done r → end_in m d b ≡ fault n c → n ≡ 20 → ⊥
  end_other m r d b n c e h q = by r (ap (λ m. end_in m d b) (sym e) ∙ h)
    where
      numbered : (k i : ℕ) → ◌≡◌ {A = Step K} (fault k i) (fault n c) → k ≡ n
      numbered k i e = cc

      no_go : ◌≡◌ {A = Step K} (go d) (fault n c) → ⊥
      no_go e = let z : ◌≡◌ {A = ℕ} 0 1 = cc in omega arith

      tagged : (o : Option ℕ) → on_some o (fault 26) (go d) ≡ fault n c → ⊥
      tagged None h = no_go h
      tagged (Some i) h = omega (arith, numbered 26 i h)

      by : (r : Option Tag) → end_in (Done r) d b ≡ fault n c → ⊥
      by None h = tagged (undescribed d.slots d.places) h
      by (Some t) h = omega (arith, numbered 26 t.byte h)

  module _ (words : List ℕ → Option K) (ranges : ℤ → ℤ → Option K) (pl sl : ℕ) (line : List ℕ) where
    record Passed (from : ℕ) (s : State) (f : Formed K) : Type 0 where
      xs : List Tok
      j : ℕ
      t : FormTerm
      upto : Upto line from xs j
      ended : next_token line j ≡ finish
      runs : run s xs ≡ Some t
      good : GoodForm words ranges pl sl t
      parts : Parts words ranges pl sl t f

    abbrev Answer : ℕ → State → FormStep K → Type 0
    Answer from s (goes f) = Passed from s f
    Answer from s (refused n b) = n ≡ 20 → Told line from s b

    -- ---- the end of the line

    told : (from : ℕ) (s : State) → next_token line from ≡ finish → gram.ended s ≡ None → Told line from s (length line)
    told from s f h = record { front = []; j = from; s₂ = s; upto = here; runs = λ more. refl; barred = inl (f, refl, h) }

    abbrev EndAt : ℕ → State → Formed K → Type 0
    EndAt from s f = Answer from s (form_end f.stage f (length line))

    plain_end : (from : ℕ) (t : FormTerm) (f : Formed K) → next_token line from ≡ finish → (r : Ending words ranges pl sl line (stage.Closed (verb_of t)) t f) → GoodParts words ranges pl sl t → Drafted words ranges pl sl t r.d → Passed from (closed t) (F (stage.Closed (verb_of t)) (numbers (first_path t)) (numbers (second_path t)) r.d)
    plain_end from t f e r g h = record {
      xs = [];
      j = from;
      t = t;
      upto = here;
      ended = e;
      runs = refl;
      good = record { first = r.good; second = r.good₂; parts = g };
      parts = record { verb = refl; first = refl; second = refl; draft = h };
    }

    add_end : (from : ℕ) (p : List (List ℕ)) (t : Term) (f : Formed K) → next_token line from ≡ finish → (r : Ending words ranges pl sl line (stage.Closed Add) (add p t) f) → EndAt from (closed (add p t)) (F (stage.Closed Add) (numbers p) [] r.d)
    add_end from p t f e r = on (end_in r.d.mode r.d (length line)) refl
      where
        on : (y : Step K) → end_in r.d.mode r.d (length line) ≡ y → Answer from (closed (add p t)) (drafted (λ m. stage.Closed Add) (F (stage.Closed Add) (numbers p) [] r.d) y)
        on (go z) h =
            let w = root_read words ranges pl sl line t r.held.start r.held.end (length line) r.d z r.held.went h in
            record {
              xs = [];
              j = from;
              t = add p t;
              upto = here;
              ended = e;
              runs = refl;
              good = record { first = r.good; second = r.good₂; parts = w.good };
              parts = record { verb = refl; first = refl; second = refl; draft = w.lists };
            }
        on (fault n c) h = λ q. absurd (end_other r.d.mode r.held.tag r.d (length line) n c r.held.over h q)

    closed_end : (from : ℕ) (t : FormTerm) (f : Formed K) → next_token line from ≡ finish → (r : Ending words ranges pl sl line (stage.Closed (verb_of t)) t f) → EndAt from (closed t) (F (stage.Closed (verb_of t)) (numbers (first_path t)) (numbers (second_path t)) r.d)
    closed_end from (add p t) f e r = add_end from p t f e r
    closed_end from (tie p q) f e r = plain_end from (tie p q) f e r tt r.held
    closed_end from (narrow p k) f e r =
        plain_end from (narrow p k) f e r (r.held.rises, (r.held.kind, r.held.is))
        (record { kind = r.held.kind; is = r.held.is; places = ap (λ d. d.places) r.held.same; slots = ap (λ d. d.slots) r.held.same })
    closed_end from mark f e r = plain_end from mark f e r tt r.held
    closed_end from keep f e r = plain_end from keep f e r tt r.held
    closed_end from back f e r = plain_end from back f e r tt r.held
    closed_end from clear f e r = plain_end from clear f e r tt r.held
    closed_end from show f e r = plain_end from show f e r tt r.held

    kind_end : (from : ℕ) (p : List (List ℕ)) (m : KindMode) (f : Formed K) → next_token line from ≡ finish → Rel words ranges pl sl line (in_kind p m) f from → EndAt from (in_kind p m) f
    kind_end from p gram.unread f e r = subst (EndAt from (in_kind p gram.unread)) (sym r.0) (λ q. told from (in_kind p gram.unread) e refl)
    kind_end from p low f e r = subst (EndAt from (in_kind p low)) (sym r.0.1) (λ q. told from (in_kind p low) e refl)
    kind_end from p (dotted a) f e r = subst (EndAt from (in_kind p (dotted a))) (sym r.0.1) (λ q. told from (in_kind p (dotted a)) e refl)
    kind_end from p (high a) f e r = subst (EndAt from (in_kind p (high a))) (sym r.0.1) (λ q. told from (in_kind p (high a)) e refl)
    kind_end from p (ranged a h) f e r = subst (EndAt from (in_kind p (ranged a h))) (sym r.0.1) (λ q. told from (in_kind p (ranged a h)) e refl)

    end_of : (s : State) (f : Formed K) (from : ℕ) → Rel words ranges pl sl line s f from → next_token line from ≡ finish → EndAt from s f
    end_of begin f from r e = subst (EndAt from begin) (sym r) (λ q. told from begin e refl)
    end_of opened f from r e = subst (EndAt from opened) (sym r) (λ q. told from opened e refl)
    end_of (path v) f from r e = subst (EndAt from (path v)) (sym r) (λ q. told from (path v) e refl)
    end_of (in_path v ws) f from r e = subst (EndAt from (in_path v ws)) (sym r.0) (λ q. told from (in_path v ws) e refl)
    end_of (second p) f from r e = subst (EndAt from (second p)) (sym r.0) (λ q. told from (second p) e refl)
    end_of (in_second p ws) f from r e = subst (EndAt from (in_second p ws)) (sym r.0) (λ q. told from (in_second p ws) e refl)
    end_of (in_place p s) f from r e = subst (EndAt from (in_place p s)) (sym r.same) (λ q. told from (in_place p s) e refl)
    end_of (in_kind p m) f from r e = kind_end from p m f e r
    end_of (close t) f from r e = subst (EndAt from (close t)) (sym r.same) (λ q. told from (close t) e refl)
    end_of (closed t) f from r e = subst (EndAt from (closed t)) (sym r.same) (closed_end from t f e r)

    -- ---- one token more in front

    later : (from : ℕ) (s s₂ : State) (x : Tok) (i j : ℕ) (y : FormStep K) → next_token line from ≡ token x i j → gram.step s x ≡ Some s₂ → Answer j s₂ y → Answer from s y
    later from s s₂ x i j (goes f) e g a = record {
      xs = x ∷ a.xs;
      j = a.j;
      t = a.t;
      upto = next e a.upto;
      ended = a.ended;
      runs = ap (λ o. onward o (λ u. run u a.xs)) g ∙ a.runs;
      good = a.good;
      parts = a.parts;
    }
    later from s s₂ x i j (refused n b) e g a = λ q.
        let t = a q in
        record {
          front = x ∷ t.front;
          j = t.j;
          s₂ = t.s₂;
          upto = next e t.upto;
          runs = λ more. ap (λ o. onward o (λ u. run u (t.front ++ more))) g ∙ t.runs more;
          barred = t.barred;
        }

    answers : (turns from : ℕ) (s : State) (f : Formed K) → Rel words ranges pl sl line s f from → Answer from s (form_from words ranges turns pl sl line from f)
    answers zero from s f r = λ e. absurd (omega arith)
    answers (suc turns) from s f r = by (λ j s₂ f₂ r₂. answers turns j s₂ f₂ r₂) (next_token line from) refl (next_ahead line from)
      where
        after : ((j : ℕ) (s₂ : State) (f₂ : Formed K) → Rel words ranges pl sl line s₂ f₂ j → Answer j s₂ (form_from words ranges turns pl sl line j f₂)) → (x : Tok) (i j : ℕ) → next_token line from ≡ token x i j → (o : Option State) (y : FormStep K) → gram.step s x ≡ o → Matches words ranges pl sl line i j o y → Answer from s (on_form_step y (λ f₂. form_from words ranges turns pl sl line j f₂))
        after ih x i j e None (goes f₂) g m = absurd m
        after ih x i j e None (refused n c) g m = λ q. record { front = []; j = from; s₂ = s; upto = here; runs = λ more. refl; barred = inr (x, j, subst (λ b. next_token line from ≡ token x b j) (sym m.1) e, g) }
        after ih x i j e (Some s₂) (goes f₂) g m = later from s s₂ x i j (form_from words ranges turns pl sl line j f₂) e g (ih j s₂ f₂ m)
        after ih x i j e (Some s₂) (refused n c) g m = λ q. absurd (m q)

        by : ((j : ℕ) (s₂ : State) (f₂ : Formed K) → Rel words ranges pl sl line s₂ f₂ j → Answer j s₂ (form_from words ranges turns pl sl line j f₂)) → (n : Next) → next_token line from ≡ n → Ahead from (length line) n → Answer from s (on_next n (form_end f.stage f (length line)) (λ x i j. on_form_step (form_step words ranges pl sl line f x i j) (λ f₂. form_from words ranges turns pl sl line j f₂)) refused)
        by ih finish e a = end_of s f from r e
        by ih (token x i j) e a = after ih x i j e (gram.step s x) (form_step words ranges pl sl line f x i j) refl (sim words ranges pl sl line s f x from i j e r)
        by ih (refusal n b) e a = λ q. absurd (omega arith)

    whole : Answer 0 begin (read_form words ranges pl sl line)
    unfolding read_form
    whole =
        cond_both (ltb 60000 (length line)) _ _ (Answer 0 begin) (λ _ e. absurd (omega arith))
        (λ _. answers (suc (length line)) 0 begin unread refl)

    else_only : (q : Bool) (y : FormStep K) (f : Formed K) → cond q (refused 10 0) y ≡ goes f → q ≡ false
    else_only true y f e = absurd (no_fault 10 0 f e)
    else_only false y f e = refl

    not_long : (f : Formed K) → read_form words ranges pl sl line ≡ goes f → length line ≤ 60000
    unfolding read_form
    not_long f e = ltb-false 60000 (length line) (else_only (ltb 60000 (length line)) _ f e)

    spelt : (f : Formed K) → read_form words ranges pl sl line ≡ goes f → (t : FormTerm) × Means words ranges pl sl line t × Parts words ranges pl sl t f
    spelt f e =
        let p : Passed 0 begin f = subst (Answer 0 begin) e whole in
        (p.t, record { short = not_long f e; whole = subst (Whole line) (spells_back p.xs p.t p.runs) (p.j, p.upto, p.ended); good = p.good }, p.parts)

whole_same : (line : List ℕ) (t u : FormTerm) → Whole line (spell_form t []) → Whole line (spell_form u []) → t ≡ u
whole_same line t u v w = one_form t u (upto_same v.1 v.2 w.1 w.2)

pub accepts : {K : Type 0} → Accepts K
accepts = record {
  accepted = λ words ranges pl sl line f e. let s = spelt words ranges pl sl line f e in (s.0, s.1);
  accepts = accepts_good;
  one = whole_same;
  parts = λ words ranges pl sl line f t e w.
      let s = spelt words ranges pl sl line f e in
      subst (λ u. Parts words ranges pl sl u f) (whole_same line s.0 t s.1.whole w) s.2;
}

pub refuses : {K : Type 0} → Refuses K
refuses words ranges pl sl line b e =
    let p : Told line 0 begin b = subst (Answer words ranges pl sl line 0 begin) e (whole words ranges pl sl line) refl in
    let f = ends p.s₂ in
    record {
      front = p.front;
      from = p.j;
      upto = p.upto;
      opens = (f.0, (f.1.0, spells_back (p.front ++ f.0) f.1.0 (p.runs f.0 ∙ f.1.1)));
      barred =
          ⊎_elim
          (λ h. inl (h.0, h.1, no_end p.front p.s₂ p.runs h.2))
          (λ h. inr (h.0, h.1, h.2, no_more p.front h.0 p.s₂ p.runs h.3))
          p.barred;
    }
