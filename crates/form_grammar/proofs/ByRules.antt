-- Each step of the reader of forms is by the rules.
use Rattle.std.proofs.Common.{◌≡◌, ℕ, Bool, true, false, cond, not, eqb, ltb, List, [], ◌∷◌, length, ℤ, Some, None, Option, refl, ap, ◌∙◌}
use Rattle.tokens.specs.Tokens.{Tok, mark as sign, word, number}
use Rattle.reading.specs.declared.draft.Mode.{Mode}
use Rattle.reading.specs.declared.draft.Mode.TheVariants.{Begin, Opened, Hashed, Tagged, Low, Dotted, High, Ranged, Inside, Done}
use Rattle.reading.specs.declared.form.Verb.{Verb}
use Rattle.reading.specs.declared.form.Verb.TheVariants.{Add, Tie, Narrow, Mark, Keep, Back, Clear, Show}
use Rattle.reading.specs.declared.form.Stage.{Stage}
use Rattle.reading.specs.declared.form.Stage.TheVariants as stage
use Rattle.reading.specs.Steps.{Step, go, fault, on_mark, on_word, on_some, kind_first}
use Rattle.reading.specs.Forms.{verb, Formed, FormStep, goes, refused, on_done, at, drafted, path_named, after_path, after_kind, form_step_in, form_end}
use Rattle.grammar.specs.Rules as places
use Rattle.grammar.specs.Rules.{Rule, kind_role, role_of}
use Rattle.grammar.proofs.ByRules as steps
use Rattle.form_grammar.specs.FormRules.{FormRole, plain, path_name, stray, form_role_in, form_rules, form_end_rules, first, Taken, ByRules, EndByRules}

module _ {K : Type 0} where
  -- a draft that goes by rules makes the form go by them
  first_drafted : (next : Mode → Stage) (f : Formed K) (rs : List Rule) (y : Step K) → drafted next f (places.first rs y) ≡ first rs (drafted next f y)
  first_drafted next f [] y = refl
  first_drafted next f (r ∷ rs) y = by r.broken (first_drafted next f rs y)
    where
      by : (q : Bool) → drafted next f (places.first rs y) ≡ first rs (drafted next f y) → drafted next f (cond q (fault r.answer r.byte) (places.first rs y)) ≡ cond q (refused r.answer r.byte) (first rs (drafted next f y))
      by true e = refl
      by false e = e

  taken_drafted : (next : Mode → Stage) (f : Formed K) (y : Step K) → places.Taken y → Taken (drafted next f y)
  taken_drafted next f (go d) t = tt
  taken_drafted next f (fault n b) t = absurd t

  -- ---- the end of the line

  abbrev EndBy : Stage → Formed K → ℕ → Type 0
  EndBy t f b = (s : FormStep K) × (Taken s × (form_end t f b ≡ first (form_end_rules t f b) s))

  by_end : (t : Stage) (f : Formed K) (b : ℕ) → EndBy t f b
  by_end stage.Begin f b = (goes f, (tt, refl))
  by_end stage.Opened f b = (goes f, (tt, refl))
  by_end (stage.Path v) f b = (goes f, (tt, refl))
  by_end (stage.InPath v) f b = (goes f, (tt, refl))
  by_end stage.SecondPath f b = (goes f, (tt, refl))
  by_end stage.InSecondPath f b = (goes f, (tt, refl))
  by_end stage.Place f b = (goes f, (tt, refl))
  by_end stage.Kind f b = (goes f, (tt, refl))
  by_end stage.Range f b = (goes f, (tt, refl))
  by_end (stage.Close v) f b = (goes f, (tt, refl))
  by_end (stage.Closed Add) f b = (
    drafted (λ m. stage.Closed Add) f (go f.draft),
    (tt, ap (drafted (λ m. stage.Closed Add) f) (steps.end_by_rules f.draft b) ∙ first_drafted (λ m. stage.Closed Add) f (places.end_rules f.draft.mode f.draft b) (go f.draft)),
  )
  by_end (stage.Closed Tie) f b = (goes f, (tt, refl))
  by_end (stage.Closed Narrow) f b = (goes f, (tt, refl))
  by_end (stage.Closed Mark) f b = (goes f, (tt, refl))
  by_end (stage.Closed Keep) f b = (goes f, (tt, refl))
  by_end (stage.Closed Back) f b = (goes f, (tt, refl))
  by_end (stage.Closed Clear) f b = (goes f, (tt, refl))
  by_end (stage.Closed Show) f b = (goes f, (tt, refl))

  pub end_by_rules : EndByRules K
  end_by_rules f b = by_end f.stage f b

  module _ (words : List ℕ → Option K) (ranges : ℤ → ℤ → Option K) (pl sl : ℕ) (line : List ℕ) (f : Formed K) (b j : ℕ) where
    -- y is by the rules of the role r
    abbrev By : FormRole → FormStep K → Type 0
    By r y = (s : FormStep K) × (Taken s × (y ≡ first (form_rules words ranges pl sl line f b j r) s))

    pick : (q : Bool) (r r₂ : FormRole) (y y₂ : FormStep K) → By r y → By r₂ y₂ → By (cond q r r₂) (cond q y y₂)
    pick true r r₂ y y₂ p₁ p₂ = p₁
    pick false r r₂ y y₂ p₁ p₂ = p₂

    no_way : By stray (refused 20 b)
    no_way = (goes f, (tt, refl))

    by_mark : (c : ℕ) (x : Tok) (y : FormStep K) → Taken y → By (on_mark c x plain stray) (on_mark c x y (refused 20 b))
    by_mark c (sign a) y t = pick (eqb a c) plain stray y (refused 20 b) (y, (t, refl)) no_way
    by_mark c (word w) y t = no_way
    by_mark c (number n) y t = no_way

    by_verb : (o : Option Verb) (next : Verb → FormStep K) → ((v : Verb) → Taken (next v)) → By (on_some o (λ v. plain) stray) (on_some o next (refused 20 b))
    by_verb None next t = no_way
    by_verb (Some v) next t = (next v, (t v, refl))

    by_name : (path w : List ℕ) (next : List ℕ → FormStep K) → ((l : List ℕ) → Taken (next l)) → By (path_name path w) (path_named w path b next)
    by_name path w next t = (_, (t _, ap (cond (ltb 12 (length w)) (refused 23 b)) (flip (ltb (length path) 16) _)))
      where
        flip : (q : Bool) (y : FormStep K) → cond q y (refused 29 b) ≡ cond (not q) (refused 29 b) y
        flip true y = refl
        flip false y = refl

    by_path : (path : List ℕ) (x : Tok) (next : List ℕ → FormStep K) (y : FormStep K) → ((l : List ℕ) → Taken (next l)) → Taken y → By (on_word x (path_name path) (on_mark 41 x plain stray)) (on_word x (λ w. path_named w path b next) (on_mark 41 x y (refused 20 b)))
    by_path path (sign a) next y t u = by_mark 41 (sign a) y u
    by_path path (word w) next y t u = by_name path w next t
    by_path path (number n) next y t u = no_way

    by_done : (m : Mode) (r r₂ : FormRole) (y y₂ : FormStep K) → By r y → By r₂ y₂ → By (on_done m r r₂) (on_done m y y₂)
    by_done Begin r r₂ y y₂ p q = q
    by_done Opened r r₂ y y₂ p q = q
    by_done Hashed r r₂ y y₂ p q = q
    by_done (Tagged t) r r₂ y y₂ p q = q
    by_done (Low o) r r₂ y y₂ p q = q
    by_done (Dotted o a) r r₂ y y₂ p q = q
    by_done (High o a) r r₂ y y₂ p q = q
    by_done (Ranged o a h) r r₂ y y₂ p q = q
    by_done Inside r r₂ y y₂ p q = q
    by_done (Done g) r r₂ y y₂ p q = p

    by_draft : (next : Mode → Stage) (rs : List Rule) (y : Step K) → (s : Step K) × (places.Taken s × (y ≡ places.first rs s)) → (s : FormStep K) × (Taken s × (drafted next f y ≡ first rs s))
    by_draft next rs y h = (drafted next f h.0, (taken_drafted next f h.0 h.1.0, ap (drafted next f) h.1.1 ∙ first_drafted next f rs h.0))

    kind_first_lem : (x : Tok) → steps.By words ranges 1 0 line f.draft b j (kind_role None x) (kind_first words ranges 1 line None f.draft x b j)
    kind_first_lem (sign c) = steps.by_kind words ranges 1 0 line f.draft b j None c
    kind_first_lem (word w) = steps.by_word words ranges 1 0 line f.draft b j None w
    kind_first_lem (number n) = steps.no_way words ranges 1 0 line f.draft b j

    by_opened : (x : Tok) → By (form_role_in stage.Opened f x) (form_step_in words ranges pl sl line stage.Opened f x b j)
    by_opened (sign c) = no_way
    by_opened (word w) = by_verb (verb w) _ (λ v. tt)
    by_opened (number n) = no_way

    by_step : (t : Stage) (x : Tok) → By (form_role_in t f x) (form_step_in words ranges pl sl line t f x b j)
    by_step stage.Begin x = by_mark 40 x _ tt
    by_step stage.Opened x = by_opened x
    by_step (stage.Path v) x = by_mark 40 x _ tt
    by_step (stage.InPath v) x = by_path f.first x (λ l. goes (record { stage = stage.InPath v; first = l; second = f.second; draft = f.draft })) (at (after_path v) f) (λ l. tt) tt
    by_step stage.SecondPath x = by_mark 40 x _ tt
    by_step stage.InSecondPath x = by_path f.second x (λ l. goes (record { stage = stage.InSecondPath; first = f.first; second = l; draft = f.draft })) (at (stage.Close Tie) f) (λ l. tt) tt
    by_step stage.Place x =
        by_done f.draft.mode _ _ _ _ (by_mark 41 x _ tt)
        (by_draft (λ m. stage.Place) (places.rules words ranges pl sl line f.draft b j (role_of f.draft.mode x)) _ (steps.by_rules words ranges pl sl line f.draft x b j))
    by_step stage.Kind x = by_draft after_kind (places.rules words ranges 1 0 line f.draft b j (kind_role None x)) _ (kind_first_lem x)
    by_step stage.Range x = by_draft after_kind (places.rules words ranges 1 0 line f.draft b j (role_of f.draft.mode x)) _ (steps.by_rules words ranges 1 0 line f.draft x b j)
    by_step (stage.Close v) x = by_mark 41 x _ tt
    by_step (stage.Closed v) x = no_way

  pub by_rules : ByRules K
  by_rules words ranges pl sl line f x b j = by_step words ranges pl sl line f b j f.stage x
