-- The bytes of an add's tags rise as the text goes on, and the rules of each token and of the end stand in order.
use Rattle.std.proofs.Common.{ℕ, ◌<◌, ◌≤◌, Bool, true, false, cond, eqb, ltb, List, [], ◌∷◌, ◌++◌, length, ℤ, Some, None, Option, refl, inr, arith}
use Rattle.names.specs.Names as names
use Rattle.tokens.specs.Tokens.{Tok, mark as sign, word, number}
use Rattle.reading.specs.declared.draft.Mode.{Mode}
use Rattle.reading.specs.declared.draft.Mode.TheVariants.{Begin, Opened, Hashed, Tagged, Low, Dotted, High, Ranged, Inside, Done}
use Rattle.reading.specs.declared.draft.Slot.{Slot}
use Rattle.reading.specs.declared.form.Verb.TheVariants.{Add, Tie, Narrow, Mark, Keep, Back, Clear, Show}
use Rattle.reading.specs.declared.form.Stage.{Stage}
use Rattle.reading.specs.declared.form.Stage.TheVariants as stage
use Rattle.reading.specs.Steps.{Step, go, fault, on_mark, on_word, on_some}
use Rattle.reading.specs.Forms.{verb, Formed, FormStep, goes, refused, on_done, at, drafted, path_named, after_word, after_path, after_kind, form_step_in, form_step}
use Rattle.grammar.specs.Rules.{kind_role, role_of}
use Rattle.grammar.proofs.Order.{from_le, Rising}
use Rattle.grammar.proofs.Bytes as places
use Rattle.grammar.proofs.Bytes.{Rises, rises_more, Limit, Before}
use Rattle.form_grammar.specs.FormRules.{FormRole, plain, path_name, of_place, stray, form_role_in, form_role, form_rules, form_end_rules}

-- further on in the line
further : (m : Mode) (ss : List Slot) (from j : ℕ) → from ≤ j → Rises 0 ss (Limit m from) → Before m from → Rises 0 ss (Limit m j) × Before m j
further Begin ss from j p r q = (rises_more ss 0 from j p r, tt)
further Opened ss from j p r q = (rises_more ss 0 from j p r, tt)
further Hashed ss from j p r q = (rises_more ss 0 from j p r, tt)
further (Tagged t) ss from j p r q = (r, omega arith)
further (Low o) ss from j p r q = (rises_more ss 0 from j p r, tt)
further (Dotted o a) ss from j p r q = (rises_more ss 0 from j p r, tt)
further (High o a) ss from j p r q = (rises_more ss 0 from j p r, tt)
further (Ranged o a h) ss from j p r q = (rises_more ss 0 from j p r, tt)
further Inside ss from j p r q = (rises_more ss 0 from j p r, tt)
further (Done g) ss from j p r q = (rises_more ss 0 from j p r, tt)

up_to : (m : Mode) (ss : List Slot) (from j : ℕ) → from ≤ j → Rises 0 ss (Limit m from) → Before m from → Rises 0 ss j
up_to Begin ss from j p r q = rises_more ss 0 from j p r
up_to Opened ss from j p r q = rises_more ss 0 from j p r
up_to Hashed ss from j p r q = rises_more ss 0 from j p r
up_to (Tagged t) ss from j p r q = rises_more ss 0 t.byte j (omega arith) r
up_to (Low o) ss from j p r q = rises_more ss 0 from j p r
up_to (Dotted o a) ss from j p r q = rises_more ss 0 from j p r
up_to (High o a) ss from j p r q = rises_more ss 0 from j p r
up_to (Ranged o a h) ss from j p r q = rises_more ss 0 from j p r
up_to Inside ss from j p r q = rises_more ss 0 from j p r
up_to (Done g) ss from j p r q = rises_more ss 0 from j p r

done_both : {X : Type 0} (m : Mode) (P : X → Type 0) (y z : X) → P y → P z → P (on_done m y z)
done_both Begin P y z p q = q
done_both Opened P y z p q = q
done_both Hashed P y z p q = q
done_both (Tagged t) P y z p q = q
done_both (Low o) P y z p q = q
done_both (Dotted o a) P y z p q = q
done_both (High o a) P y z p q = q
done_both (Ranged o a h) P y z p q = q
done_both Inside P y z p q = q
done_both (Done g) P y z p q = p

mark_both : {X : Type 0} (c : ℕ) (x : Tok) (P : X → Type 0) (y z : X) → P y → P z → P (on_mark c x y z)
mark_both c (sign a) P y z p q = by (eqb a c)
  where
    by : (t : Bool) → P (cond t y z)
    by true = p
    by false = q
mark_both c (word w) P y z p q = q
mark_both c (number n) P y z p q = q

word_both : {X : Type 0} (x : Tok) (P : X → Type 0) (y : List ℕ → X) (z : X) → ((w : List ℕ) → P (y w)) → P z → P (on_word x y z)
word_both (sign a) P y z p q = q
word_both (word w) P y z p q = p w
word_both (number n) P y z p q = q

some_both : {A X : Type 0} (o : Option A) (P : X → Type 0) (y : A → X) (z : X) → ((a : A) → P (y a)) → P z → P (on_some o y z)
some_both None P y z p q = q
some_both (Some a) P y z p q = p a

module _ {K : Type 0} where
  abbrev pub Ordered : ℕ → Formed K → Type 0
  Ordered from f = places.Ordered from f.draft

  abbrev pub After : ℕ → FormStep K → Type 0
  After j (goes f) = Ordered j f
  After j (refused n b) = Unit {0}

  named_after : (w path : List ℕ) (b j : ℕ) (next : List ℕ → FormStep K) → ((l : List ℕ) → After j (next l)) → After j (path_named w path b next)
  named_after w path b j next h = by (ltb 12 (length w)) (ltb (length path) 16)
    where
      by : (q r : Bool) → After j (cond q (refused 23 b) (cond r (next (path ++ (names.number w ∷ []))) (refused 29 b)))
      by true r = tt
      by false true = h _
      by false false = tt

  drafted_after : (next : Mode → Stage) (f : Formed K) (j : ℕ) (y : Step K) → places.After j y → After j (drafted next f y)
  drafted_after next f j (go d) h = h
  drafted_after next f j (fault n b) h = tt

  module _ (words : List ℕ → Option K) (ranges : ℤ → ℤ → Option K) (pl sl : ℕ) (line : List ℕ) where
    in_ordered : (t : Stage) (f : Formed K) (x : Tok) (from b j : ℕ) → from ≤ b → b < j → Ordered from f → After j (form_step_in words ranges pl sl line t f x b j)
    in_ordered t f x from b j p q o = by t
      where
        kept : Ordered j f
        kept = further f.draft.mode f.draft.slots from j (omega arith) o.0 o.1

        mark₁ : (c : ℕ) (s : Stage) → After j (on_mark c x (at s f) (refused 20 b))
        mark₁ c s = mark_both c x (After j) (at s f) (refused 20 b) kept tt

        by : (t : Stage) → After j (form_step_in words ranges pl sl line t f x b j)
        by stage.Begin = mark₁ 40 stage.Opened
        by stage.Opened = word_both x (After j) _ (refused 20 b) (λ w. some_both (verb w) (After j) (λ v. at (after_word v) f) (refused 20 b) (λ v. kept) tt) tt
        by (stage.Path v) = mark₁ 40 (stage.InPath v)
        by (stage.InPath v) =
            word_both x (After j) _ _ (λ w. named_after w f.first b j (λ l. goes (record { stage = stage.InPath v; first = l; second = f.second; draft = f.draft })) (λ l. kept)) (mark₁ 41 (after_path v))
        by stage.SecondPath = mark₁ 40 stage.InSecondPath
        by stage.InSecondPath =
            word_both x (After j) _ _ (λ w. named_after w f.second b j (λ l. goes (record { stage = stage.InSecondPath; first = f.first; second = l; draft = f.draft })) (λ l. kept)) (mark₁ 41 (stage.Close Tie))
        by stage.Place =
            done_both f.draft.mode (After j) _ _ (mark₁ 41 (stage.Closed Add))
            (drafted_after (λ m. stage.Place) f j _ (places.step_ordered words ranges pl sl line f.draft x from b j p q o))
        by stage.Kind =
            drafted_after after_kind f j _
            (places.kind_ordered words ranges 1 0 line f.draft None x b j (up_to f.draft.mode f.draft.slots from j (omega arith) o.0 o.1))
        by stage.Range = drafted_after after_kind f j _ (places.step_ordered words ranges 1 0 line f.draft x from b j p q o)
        by (stage.Close v) = mark₁ 41 (stage.Closed v)
        by (stage.Closed v) = tt

    pub step_ordered : (f : Formed K) (x : Tok) (from b j : ℕ) → from ≤ b → b < j → Ordered from f → After j (form_step words ranges pl sl line f x b j)
    step_ordered f x from b j p q o = in_ordered f.stage f x from b j p q o

    -- ---- the rules

    abbrev Rises-at : Formed K → ℕ → ℕ → FormRole → Type 0
    Rises-at f b j r = Rising 0 20 (form_rules words ranges pl sl line f b j r)

    in_rising : (t : Stage) (f : Formed K) (x : Tok) (from b j : ℕ) → from ≤ b → Ordered from f → Rises-at f b j (form_role_in t f x)
    in_rising t f x from b j p o = by t
      where
        no_way : Rises-at f b j stray
        no_way = (from_le 0 20 b 20 (omega arith) (omega arith), tt)

        named : (path w : List ℕ) → Rises-at f b j (path_name path w)
        named path w = (from_le 0 20 b 23 (omega arith) (omega arith), (inr (refl, omega arith), tt))

        mark₁ : (c : ℕ) → Rises-at f b j (on_mark c x plain stray)
        mark₁ c = mark_both c x (Rises-at f b j) plain stray tt no_way

        by : (t : Stage) → Rises-at f b j (form_role_in t f x)
        by stage.Begin = mark₁ 40
        by stage.Opened = word_both x (Rises-at f b j) (λ w. on_some (verb w) (λ v. plain) stray) stray (λ w. some_both (verb w) (Rises-at f b j) (λ v. plain) stray (λ v. tt) no_way) no_way
        by (stage.Path v) = mark₁ 40
        by (stage.InPath v) = word_both x (Rises-at f b j) (path_name f.first) (on_mark 41 x plain stray) (named f.first) (mark₁ 41)
        by stage.SecondPath = mark₁ 40
        by stage.InSecondPath = word_both x (Rises-at f b j) (path_name f.second) (on_mark 41 x plain stray) (named f.second) (mark₁ 41)
        by stage.Place =
            done_both f.draft.mode (Rises-at f b j) (on_mark 41 x plain stray) (of_place (role_of f.draft.mode x)) (mark₁ 41)
            (places.token_rising words ranges pl sl line f.draft x from b j p o)
        by stage.Kind = places.role_rising words ranges 1 0 line f.draft b j (kind_role None x) (places.kind_fits None x b (λ w. tt) tt)
        by stage.Range = places.token_rising words ranges 1 0 line f.draft x from b j p o
        by (stage.Close v) = mark₁ 41
        by (stage.Closed v) = no_way

    pub token_rising : (f : Formed K) (x : Tok) (from b j : ℕ) → from ≤ b → Ordered from f → Rising 0 20 (form_rules words ranges pl sl line f b j (form_role f x))
    token_rising f x from b j p o = in_rising f.stage f x from b j p o

  end_in : (t : Stage) (f : Formed K) (from b : ℕ) → Ordered from f → Rising 0 20 (form_end_rules t f b)
  end_in t f from b o = by t
    where
      early : Rising 0 20 (form_end_rules stage.Begin f b)
      early = (from_le 0 20 b 20 (omega arith) (omega arith), tt)

      by : (t : Stage) → Rising 0 20 (form_end_rules t f b)
      by stage.Begin = early
      by stage.Opened = early
      by (stage.Path v) = early
      by (stage.InPath v) = early
      by stage.SecondPath = early
      by stage.InSecondPath = early
      by stage.Place = early
      by stage.Kind = early
      by stage.Range = early
      by (stage.Close v) = early
      by (stage.Closed Add) = places.end_rising f.draft from b o
      by (stage.Closed Tie) = tt
      by (stage.Closed Narrow) = tt
      by (stage.Closed Mark) = tt
      by (stage.Closed Keep) = tt
      by (stage.Closed Back) = tt
      by (stage.Closed Clear) = tt
      by (stage.Closed Show) = tt

  pub end_rising : (f : Formed K) (from b : ℕ) → Ordered from f → Rising 0 20 (form_end_rules f.stage f b)
  end_rising f from b o = end_in f.stage f from b o
