-- The line of a good form is accepted.
use Rattle.std.proofs.Common.{◌≡◌, ℕ, zero, suc, ◌+◌, ◌<◌, ◌≤◌, cond, ltb, List, [], ◌∷◌, ◌++◌, length, ℤ, Some, None, Option, sym, refl, ap, ◌∙◌, subst, append_assoc, append-nil, arith}
use Rattle.std.proofs.lemmas.List.{length_push}
use Rattle.std.proofs.lemmas.Bool.{cond-true, cond-false, lt-ltb, le-ltb}
use Rattle.names.specs.Names as names
use Rattle.tokens.specs.Tokens.{Tok, mark as sign, word, number, finish, token, next_token}
use Rattle.tokens.proofs.Ahead.{Ahead, next_ahead}
use Rattle.reading.specs.declared.draft.Bracket.{Bracket}
use Rattle.reading.specs.declared.draft.Mode.{Mode}
use Rattle.reading.specs.declared.draft.Mode.TheVariants.{Begin, Opened, Hashed, Tagged, Low, Dotted, High, Ranged, Inside, Done}
use Rattle.reading.specs.declared.form.Verb.{Verb}
use Rattle.reading.specs.declared.form.Verb.TheVariants.{Add, Tie, Narrow, Mark, Keep, Back, Clear, Show}
use Rattle.reading.specs.declared.form.Stage.TheVariants as stage
use Rattle.reading.specs.Drafts.{Draft, nothing}
use Rattle.reading.specs.Steps.{go, fault, on_some, on_next, describe, step_in}
use Rattle.reading.specs.Forms.{Formed, FormStep, goes, refused, unread, on_done, drafted, after_path, after_kind, on_form_step, form_end, form_step, form_from, read_form}
use Rattle.grammar.specs.Terms.{Kind, named, range, Term, spell_kind, spell}
use Rattle.grammar.specs.Described.{kind_of}
use Rattle.grammar.specs.Good.{GoodRange, Good}
use Rattle.grammar.specs.Lines.{Upto, here, next}
use Rattle.grammar.proofs.Accepting as places
use Rattle.form_grammar.specs.FormTerms.{FormTerm, add, tie, narrow, mark, keep, back, clear, show, spell_names, spell_path, spell_form}
use Rattle.form_grammar.specs.FormLines.{ShortNames, GoodPath, numbers, GoodForm, Means}
use Rattle.form_grammar.proofs.Sim.{F, D}

module _ {K : Type 0} (words : List ℕ → Option K) (ranges : ℤ → ℤ → Option K) (pl sl : ℕ) (line : List ℕ) where
  -- ---- the tokens from a byte on are taken

  data Reach : ℕ → Formed K → ℕ → Formed K → Type 0 where
    stay : {i : ℕ} {f : Formed K} → Reach i f i f
    take : {from : ℕ} {f : Formed K} {x : Tok} {i j : ℕ} {f₂ : Formed K} {k : ℕ} {z : Formed K} → next_token line from ≡ token x i j → form_step words ranges pl sl line f x i j ≡ goes f₂ → Reach j f₂ k z → Reach from f k z

  reach_trans : {a : ℕ} {f : Formed K} {b : ℕ} {y : Formed K} {c : ℕ} {z : Formed K} → Reach a f b y → Reach b y c z → Reach a f c z
  reach_trans stay r = r
  reach_trans (take at s q) r = take at s (reach_trans q r)

  record Token (from : ℕ) (x : Tok) (xs : List Tok) (e : ℕ) : Type 0 where
    i : ℕ
    j : ℕ
    at : next_token line from ≡ token x i j
    rest : Upto line j xs e

  one : {from : ℕ} {x : Tok} {xs : List Tok} {e : ℕ} → Upto line from (x ∷ xs) e → Token from x xs e
  one (next {i = i} {j = j} f u) = record { i = i; j = j; at = f; rest = u }

  -- f becomes g, and xs are left
  record Got (from : ℕ) (f g : Formed K) (xs : List Tok) (e : ℕ) : Type 0 where
    k : ℕ
    reach : Reach from f k g
    rest : Upto line k xs e

  -- one token is taken
  got : {from : ℕ} {x : Tok} {xs : List Tok} {e : ℕ} (f g : Formed K) → ((i j : ℕ) → form_step words ranges pl sl line f x i j ≡ goes g) → Upto line from (x ∷ xs) e → Got from f g xs e
  got f g s u = let a = one u in record { k = a.j; reach = take {f₂ = g} a.at (s a.i a.j) stay; rest = a.rest }

  then : {from : ℕ} {f g h : Formed K} {xs ys : List Tok} {e : ℕ} (a : Got from f g xs e) → Got a.k g h ys e → Got from f h ys e
  then a b = record { k = b.k; reach = reach_trans a.reach b.reach; rest = b.rest }

  -- ---- a path

  names_goes : (In After : List ℕ → Formed K) → ((path w : List ℕ) (i j : ℕ) → length w ≤ 12 → length path < 16 → form_step words ranges pl sl line (In path) (word w) i j ≡ goes (In (path ++ (names.number w ∷ [])))) → ((path : List ℕ) (i j : ℕ) → form_step words ranges pl sl line (In path) (sign 41) i j ≡ goes (After path)) → (ns : List (List ℕ)) (path : List ℕ) (xs : List Tok) (from e : ℕ) → length path + length ns ≤ 16 → ShortNames ns → Upto line from (spell_names ns (sign 41 ∷ xs)) e → Got from (In path) (After (path ++ numbers ns)) xs e
  names_goes In After name last [] path xs from e le short u =
      subst (λ l. Got from (In path) (After l) xs e) (sym (append-nil path)) (got (In path) (After path) (last path) u)
  names_goes In After name last (w ∷ ns) path xs from e le short u =
      let a = got (In path) (In (path ++ (names.number w ∷ []))) (λ i j. name path w i j short.0 (omega arith)) u in
      let b = names_goes In After name last ns (path ++ (names.number w ∷ [])) xs a.k e (omega (arith, length_push path (names.number w))) short.1 a.rest in
      then a (subst (λ l. Got a.k (In (path ++ (names.number w ∷ []))) (After l) xs e) (append_assoc path (names.number w ∷ []) (numbers ns)) b)

  fits : (w path : List ℕ) (i : ℕ) (y : FormStep K) → length w ≤ 12 → length path < 16 → cond (ltb 12 (length w)) (refused 23 i) (cond (ltb (length path) 16) y (refused 29 i)) ≡ y
  fits w path i y le lt = cond-false (ltb 12 (length w)) _ _ (le-ltb 12 (length w) le) ∙ cond-true (ltb (length path) 16) _ _ (lt-ltb (length path) 16 lt)

  first_goes : (v : Verb) (p : List (List ℕ)) (xs : List Tok) (from e : ℕ) → GoodPath p → Upto line from (spell_path p xs) e → Got from (F (stage.Path v) [] [] nothing) (F (after_path v) (numbers p) [] nothing) xs e
  first_goes v p xs from e good u =
      let a = got (F (stage.Path v) [] [] nothing) (F (stage.InPath v) [] [] nothing) (λ i j. refl) u in
      then a
      (names_goes (λ l. F (stage.InPath v) l [] nothing) (λ l. F (after_path v) l [] nothing) (λ path w i j le lt. fits w path i _ le lt) (λ path i j. refl) p [] xs a.k e (omega (arith, good.0)) good.1 a.rest)

  second_goes : (first : List ℕ) (p : List (List ℕ)) (xs : List Tok) (from e : ℕ) → GoodPath p → Upto line from (spell_path p xs) e → Got from (F stage.SecondPath first [] nothing) (F (stage.Close Tie) first (numbers p) nothing) xs e
  second_goes first p xs from e good u =
      let a = got (F stage.SecondPath first [] nothing) (F stage.InSecondPath first [] nothing) (λ i j. refl) u in
      then a
      (names_goes (λ l. F stage.InSecondPath first l nothing) (λ l. F (stage.Close Tie) first l nothing) (λ path w i j le lt. fits w path i _ le lt) (λ path i j. refl) p [] xs a.k e (omega (arith, good.0)) good.1 a.rest)

  -- ---- the place of an add

  no_go : (n b : ℕ) (d : Draft K) → fault n b ≡ go d → ⊥
  no_go n b d e = let z : ◌≡◌ {A = ℕ} 0 1 = cc in omega arith

  not_over : (m : Mode) (d d₂ : Draft K) (x : Tok) (i j : ℕ) (y z : FormStep K) → step_in words ranges pl sl line m d x i j ≡ go d₂ → on_done m y z ≡ z
  not_over Begin d d₂ x i j y z e = refl
  not_over Opened d d₂ x i j y z e = refl
  not_over Hashed d d₂ x i j y z e = refl
  not_over (Tagged t) d d₂ x i j y z e = refl
  not_over (Low o) d d₂ x i j y z e = refl
  not_over (Dotted o a) d d₂ x i j y z e = refl
  not_over (High o a) d d₂ x i j y z e = refl
  not_over (Ranged o a h) d d₂ x i j y z e = refl
  not_over Inside d d₂ x i j y z e = refl
  not_over (Done r) d d₂ x i j y z e = absurd (no_go 20 i d₂ e)

  place_reach : {a : ℕ} {d : Draft K} {b : ℕ} {z : Draft K} (p : List ℕ) → places.Reach words ranges pl sl line a d b z → Reach a (F stage.Place p [] d) b (F stage.Place p [] z)
  place_reach p places.stay = stay
  place_reach p (places.take {d = d} {x = x} {i = i} {j = j} {d₂ = d₂} at s r) =
      take {f₂ = F stage.Place p [] d₂} at (not_over d.mode d d₂ x i j _ _ s ∙ ap (drafted (λ m. stage.Place) (F stage.Place p [] d)) s) (place_reach p r)

  -- ---- the kind of a narrow

  kind_goes : (k : Kind) (x : K) (p : List ℕ) (xs : List Tok) (from e : ℕ) → GoodRange k → kind_of words ranges k ≡ Some x → Upto line from (spell_kind k xs) e → Got from (F stage.Kind p [] nothing) (F (stage.Close Narrow) p [] (D Inside (record { kind = x; parent = 0; tag = None } ∷ []))) xs e
  kind_goes (named w) x p xs from e up is u =
      got (F stage.Kind p [] nothing) _ (λ i j. ap (λ o. drafted after_kind (F stage.Kind p [] nothing) (on_some o (λ k. describe 1 None k nothing i) (fault 21 i))) is) u
  kind_goes (range a h) x p xs from e up is u = on (one u)
    where
      on : Token from (sign 91) (number a ∷ sign 46 ∷ number h ∷ sign 93 ∷ xs) e → Got from (F stage.Kind p [] nothing) (F (stage.Close Narrow) p [] (D Inside (record { kind = x; parent = 0; tag = None } ∷ []))) xs e
      on t = then first (then low₁ (then dots (then high₁ last)))
        where
          o : Bracket
          o = record { tag = None; byte = t.i }

          R : Mode → Formed K
          R m = F stage.Range p [] (D m [])

          first : Got from (F stage.Kind p [] nothing) (R (Low o)) (number a ∷ sign 46 ∷ number h ∷ sign 93 ∷ xs) e
          first = record { k = t.j; reach = take {f₂ = R (Low o)} t.at refl stay; rest = t.rest }

          low₁ : Got first.k (R (Low o)) (R (Dotted o a)) (sign 46 ∷ number h ∷ sign 93 ∷ xs) e
          low₁ = got (R (Low o)) (R (Dotted o a)) (λ i j. refl) first.rest

          dots : Got low₁.k (R (Dotted o a)) (R (High o a)) (number h ∷ sign 93 ∷ xs) e
          dots = got (R (Dotted o a)) (R (High o a)) (λ i j. refl) low₁.rest

          high₁ : Got dots.k (R (High o a)) (R (Ranged o a h)) (sign 93 ∷ xs) e
          high₁ = got (R (High o a)) (R (Ranged o a h)) (λ i j. ap (λ q. drafted after_kind (R (High o a)) (cond q (fault 22 i) (go (D (Ranged o a h) [])))) up) dots.rest

          last : Got high₁.k (R (Ranged o a h)) (F (stage.Close Narrow) p [] (D Inside (record { kind = x; parent = 0; tag = None } ∷ []))) xs e
          last = got (R (Ranged o a h)) _ (λ i j. ap (λ k. drafted after_kind (R (Ranged o a h)) (on_some k (λ k. describe 1 None k (D (Ranged o a h) []) t.i) (fault 21 t.i))) is) high₁.rest

  -- ---- the whole line

  record Read (e : ℕ) : Type 0 where
    z : Formed K
    got₁ : Got 0 unread z [] e
    end : form_end z.stage z (length line) ≡ goes z

  -- the bracket and the verb
  abbrev Begun : Formed K → List Tok → ℕ → Type 0
  Begun f xs e = Got 0 unread f xs e

  begins : (f : Formed K) (w : List ℕ) (xs : List Tok) (e : ℕ) → ((i j : ℕ) → form_step words ranges pl sl line (F stage.Opened [] [] nothing) (word w) i j ≡ goes f) → Upto line 0 (sign 40 ∷ word w ∷ xs) e → Begun f xs e
  begins f w xs e s u = let a = got unread (F stage.Opened [] [] nothing) (λ i j. refl) u in then a (got (F stage.Opened [] [] nothing) f s a.rest)

  -- the last bracket
  closes : (v : Verb) (p q : List ℕ) (d : Draft K) (e : ℕ) → form_end (stage.Closed v) (F (stage.Closed v) p q d) (length line) ≡ goes (F (stage.Closed v) p q d) → Got 0 unread (F (stage.Close v) p q d) (sign 41 ∷ []) e → Read e
  closes v p q d e h a = record { z = F (stage.Closed v) p q d; got₁ = then a (got (F (stage.Close v) p q d) (F (stage.Closed v) p q d) (λ i j. refl) a.rest); end = h }

  add_goes : (p : List (List ℕ)) (t : Term) (e : ℕ) → GoodPath p → Good words ranges pl sl t → Got 0 unread (F (stage.Path Add) [] [] nothing) (spell_path p (spell t (sign 41 ∷ []))) e → Read e
  add_goes p t e good fine a = on (first_goes Add p (spell t (sign 41 ∷ [])) a.k e good a.rest)
    where
      on : Got a.k (F (stage.Path Add) [] [] nothing) (F stage.Place (numbers p) [] nothing) (spell t (sign 41 ∷ [])) e → Read e
      on b = last (places.root_goes words ranges pl sl line t (sign 41 ∷ []) b.k e b.rest fine)
        where
          last : places.Read words ranges pl sl line t b.k (sign 41 ∷ []) e → Read e
          last r =
              let c : Got b.k (F stage.Place (numbers p) [] nothing) (F stage.Place (numbers p) [] r.z) (sign 41 ∷ []) e = record { k = r.k; reach = place_reach (numbers p) r.reach; rest = r.rest } in
              record {
                z = F (stage.Closed Add) (numbers p) [] r.z;
                got₁ =
                    then a (then b (then c
                    (got (F stage.Place (numbers p) [] r.z) (F (stage.Closed Add) (numbers p) [] r.z)
                    (λ i j. ap (λ m. on_done m (goes (F (stage.Closed Add) (numbers p) [] r.z)) (drafted (λ m. stage.Place) (F stage.Place (numbers p) [] r.z) (step_in words ranges pl sl line m r.z (sign 41) i j))) r.over) r.rest)));
                end = ap (drafted (λ m. stage.Closed Add) (F (stage.Closed Add) (numbers p) [] r.z)) r.end;
              }

  form_goes : (t : FormTerm) (e : ℕ) → Upto line 0 (spell_form t []) e → GoodForm words ranges pl sl t → Read e
  form_goes (add p t) e u good = add_goes p t e good.first good.parts (begins (F (stage.Path Add) [] [] nothing) _ _ e (λ i j. refl) u)
  form_goes (tie p q) e u good =
      let a = begins (F (stage.Path Tie) [] [] nothing) _ _ e (λ i j. refl) u in
      let b = first_goes Tie p (spell_path q (sign 41 ∷ [])) a.k e good.first a.rest in
      closes Tie (numbers p) (numbers q) nothing e refl (then a (then b (second_goes (numbers p) q (sign 41 ∷ []) b.k e good.second b.rest)))
  form_goes (narrow p k) e u good =
      let a = begins (F (stage.Path Narrow) [] [] nothing) _ _ e (λ i j. refl) u in
      let b = first_goes Narrow p (spell_kind k (sign 41 ∷ [])) a.k e good.first a.rest in
      closes Narrow (numbers p) [] (D Inside (record { kind = good.parts.1.0; parent = 0; tag = None } ∷ [])) e refl
      (then a (then b (kind_goes k good.parts.1.0 (numbers p) (sign 41 ∷ []) b.k e good.parts.0 good.parts.1.1 b.rest)))
  form_goes mark e u good = closes Mark [] [] nothing e refl (begins (F (stage.Close Mark) [] [] nothing) _ _ e (λ i j. refl) u)
  form_goes keep e u good = closes Keep [] [] nothing e refl (begins (F (stage.Close Keep) [] [] nothing) _ _ e (λ i j. refl) u)
  form_goes back e u good = closes Back [] [] nothing e refl (begins (F (stage.Close Back) [] [] nothing) _ _ e (λ i j. refl) u)
  form_goes clear e u good = closes Clear [] [] nothing e refl (begins (F (stage.Close Clear) [] [] nothing) _ _ e (λ i j. refl) u)
  form_goes show e u good = closes Show [] [] nothing e refl (begins (F (stage.Close Show) [] [] nothing) _ _ e (λ i j. refl) u)

  reach_read : (turns from : ℕ) (f : Formed K) (k : ℕ) (z : Formed K) → Reach from f k z → next_token line k ≡ finish → length line < from + turns → from ≤ length line → form_from words ranges turns pl sl line from f ≡ form_end z.stage z (length line)
  reach_read zero from f k z r h p q = absurd (omega arith)
  reach_read (suc turns) from f k z stay h p q = ap (λ n. on_next n (form_end f.stage f (length line)) (λ x i j. on_form_step (form_step words ranges pl sl line f x i j) (λ f₂. form_from words ranges turns pl sl line j f₂)) refused) h
  reach_read (suc turns) from f k z (take {x = x} {i = i} {j = j} {f₂ = f₂} at s r) h p q =
      let a : (from ≤ i) × (i < j) × (j ≤ length line) = subst (Ahead from (length line)) at (next_ahead line from) in
      ap (λ n. on_next n (form_end f.stage f (length line)) (λ x i j. on_form_step (form_step words ranges pl sl line f x i j) (λ f₂. form_from words ranges turns pl sl line j f₂)) refused) at ∙
      ap (λ y. on_form_step y (λ f₂. form_from words ranges turns pl sl line j f₂)) s ∙
      reach_read turns j f₂ k z r h (omega arith) (omega arith)

  at_end : {j e : ℕ} → Upto line j [] e → next_token line e ≡ finish → next_token line j ≡ finish
  at_end here f = f

  good_read : (e : ℕ) → length line ≤ 60000 → next_token line e ≡ finish → Read e → (f : Formed K) × (read_form words ranges pl sl line ≡ goes f)
  unfolding read_form
  good_read e short h r = (r.z, cond-false (ltb 60000 (length line)) _ _ (le-ltb 60000 (length line) short) ∙ reach_read (suc (length line)) 0 unread r.got₁.k r.z r.got₁.reach (at_end r.got₁.rest h) (omega arith) (omega arith) ∙ r.end)

pub accepts_good : {K : Type 0} (words : List ℕ → Option K) (ranges : ℤ → ℤ → Option K) (pl sl : ℕ) (line : List ℕ) (t : FormTerm) → Means words ranges pl sl line t → (f : Formed K) × (read_form words ranges pl sl line ≡ goes f)
accepts_good words ranges pl sl line t m = good_read words ranges pl sl line m.whole.0 m.short m.whole.2 (form_goes words ranges pl sl line t m.whole.0 m.whole.1 m.good)
