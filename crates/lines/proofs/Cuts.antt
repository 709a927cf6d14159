-- Inputs cut at their newlines.
use Rattle.std.proofs.Common.{◌≡◌, ℕ, ◌+◌, ◌<◌, true, false, eqb, ◌⊎◌, List, [], ◌∷◌, ◌++◌, length, take, sym, refl, ap, ◌∙◌, inl, inr, ⊎_elim, add-one, arith}
use Rattle.std.specs.List.{flat_map, AllByRecursion}
use Rattle.std.proofs.lemmas.List.{append_assoc, append-nil, flat_map_more}
use Rattle.std.proofs.ByRecursion.{All-append, All-push}
use Rattle.std.proofs.lemmas.Bool.{cases_Bool, cases_eq, cond_both, eqb-true, eqb-false, ne_eqb}
use Rattle.lines.specs.Lines.{lines, begin, front, has_newline, Plain, closed, last, CutInto, LineLaws}

pub front_plain : (xs : List ℕ) → Plain (front xs)
front_plain [] = tt
front_plain (b ∷ bs) = cond_both (eqb b 10) [] (b ∷ front bs) Plain (λ e. tt) (λ e. (eqb-false b 10 e, front_plain bs))

-- a newline was found behind the front
pub record Found (xs : List ℕ) : Type 0 where
  pub is : has_newline xs ≡ true
  pub within : length (front xs) < length xs
  pub taken : take (length (front xs) + 1) xs ≡ closed (front xs)

-- the front is everything
pub record Missing (xs : List ℕ) : Type 0 where
  pub is : has_newline xs ≡ false
  pub same : front xs ≡ xs

pub front_cases : (xs : List ℕ) → Found xs ⊎ Missing xs
front_cases [] = inr (record { is = refl; same = refl })
front_cases (b ∷ bs) =
    ⊎_elim
    (λ (t : eqb b 10 ≡ true).
    let ten = eqb-true b 10 t in
    inl (record { is = simp t refl; within = simp t (omega arith); taken = simp t (ap (λ (x : ℕ). x ∷ []) ten) }))
    (λ (f : eqb b 10 ≡ false).
    ⊎_elim
    (λ (found : Found bs).
    inl
    (record {
      is = simp f found.is;
      within = let h = found.within in simp f (omega arith);
      taken = simp f (simp add-one (ap (λ (ys : List ℕ). b ∷ ys) (simp add-one at found.taken)));
    }))
    (λ (missing : Missing bs).
    inr (record { is = simp f missing.is; same = simp f (ap (λ (ys : List ℕ). b ∷ ys) missing.same) }))
    (front_cases bs))
    (cases_Bool (eqb b 10))

-- a line and its newline at the head of an input
lines_closed : (line more : List ℕ) → Plain line → lines (closed line ++ more) ≡ line ∷ lines more
lines_closed [] more plain = refl
lines_closed (b ∷ bs) more (other, plain) =
    let e = ne_eqb b 10 other in
    let ih = lines_closed bs more plain in
    simp (e, ih)

lines_plain : (rest : List ℕ) → Plain rest → lines rest ≡ last rest
lines_plain [] plain = refl
lines_plain (b ∷ []) (other, plain) = let e = ne_eqb b 10 other in simp e
lines_plain (b ∷ (c ∷ cs)) (other, plain) =
    let e = ne_eqb b 10 other in
    rw e (ap (begin b) (lines_plain (c ∷ cs) plain))

lines_joined : (ended : List (List ℕ)) (rest : List ℕ) → AllByRecursion Plain ended → Plain rest → lines (flat_map closed ended ++ rest) ≡ ended ++ last rest
lines_joined [] rest plain end = lines_plain rest end
lines_joined (line ∷ more) rest (plain, others) end =
    ap lines (append_assoc (closed line) (flat_map closed more) rest)
    ∙ lines_closed line (flat_map closed more ++ rest) plain
    ∙ ap (λ (ls : List (List ℕ)). line ∷ ls) (lines_joined more rest others end)

pub cut_lines : (input : List ℕ) (ended : List (List ℕ)) (rest : List ℕ) → CutInto input ended rest → lines input ≡ ended ++ last rest
cut_lines input ended rest cut = ap lines cut.together ∙ lines_joined ended rest cut.plain cut.open_end

-- a cut of an input
abbrev Cut : List ℕ → Type 0
Cut input = (ended : List (List ℕ)) × ((rest : List ℕ) × CutInto input ended rest)

-- one more byte at the head, which ends a line or begins one
cut_newline : (b : ℕ) (bs : List ℕ) → b ≡ 10 → Cut bs → Cut (b ∷ bs)
cut_newline b bs ten (ended, (rest, cut)) = (
  [] ∷ ended,
  (
    rest,
    record {
      plain = (tt, cut.plain);
      open_end = cut.open_end;
      together = let whole = cut.together in cc;
    },
  ),
)

cut_other : (b : ℕ) (bs : List ℕ) → (b ≡ 10 → ⊥) → Cut bs → Cut (b ∷ bs)
cut_other b bs other ([], (rest, cut)) = (
  [],
  (
    b ∷ rest,
    record {
      plain = tt;
      open_end = (other, cut.open_end);
      together = ap (λ (ys : List ℕ). b ∷ ys) cut.together;
    },
  ),
)
cut_other b bs other (line ∷ more, (rest, cut)) = (
  (b ∷ line) ∷ more,
  (
    rest,
    record {
      plain = ((other, cut.plain.0), cut.plain.1);
      open_end = cut.open_end;
      together = ap (λ (ys : List ℕ). b ∷ ys) cut.together;
    },
  ),
)

cut_every : (input : List ℕ) → Cut input
cut_every [] = ([], ([], record { plain = tt; open_end = tt; together = refl }))
cut_every (b ∷ bs) =
    ⊎_elim
    (λ ten. cut_newline b bs ten (cut_every bs))
    (λ other. cut_other b bs other (cut_every bs))
    (cases_eq b 10)

pub line_laws : LineLaws
line_laws = record { every = cut_every; are = cut_lines }

-- nothing has come yet
pub cut_none : CutInto [] [] []
cut_none = record { plain = tt; open_end = tt; together = refl }

-- bytes without a newline came
pub cut_more : (input : List ℕ) (ended : List (List ℕ)) (rest more : List ℕ) → CutInto input ended rest → Plain more → CutInto (input ++ more) ended (rest ++ more)
cut_more input ended rest more cut plain =
    record {
      plain = cut.plain;
      open_end = All-append (λ b. b ≡ 10 → ⊥) rest more cut.open_end plain;
      together =
          ap (λ (xs : List ℕ). xs ++ more) cut.together ∙ append_assoc (flat_map closed ended) rest more;
    }

-- bytes without a newline came, and then one
pub cut_closed : (input : List ℕ) (ended : List (List ℕ)) (rest more : List ℕ) → CutInto input ended rest → Plain more → CutInto (input ++ closed more) (ended ++ (rest ++ more) ∷ []) []
cut_closed input ended rest more cut plain =
    record {
      plain = All-push Plain ended (rest ++ more) cut.plain (All-append (λ b. b ≡ 10 → ⊥) rest more cut.open_end plain);
      open_end = tt;
      together =
          ap (λ (xs : List ℕ). xs ++ closed more) cut.together
          ∙ append_assoc (flat_map closed ended) rest (closed more)
          ∙ ap (λ (xs : List ℕ). flat_map closed ended ++ xs) (sym (append_assoc rest more (10 ∷ [])))
          ∙ flat_map_more closed [] ended (rest ++ more)
          ∙ sym (append-nil (flat_map closed (ended ++ (rest ++ more) ∷ [])));
    }
