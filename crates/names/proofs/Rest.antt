-- The state of spelling a number: the bytes of its first figures, and the rest of it.
use Rattle.std.proofs.Common.{◌≡◌, ℕ, suc, ◌+◌, ◌-◌, ◌/◌, ◌%◌, ◌^◌, ◌<◌, ◌≤◌, ◌⊎◌, List, [], ◌∷◌, ◌++◌, length, sym, refl, ap, ◌∙◌, subst, ⊎_elim, mod-lt, arith}
use Rattle.std.specs.List.{AllByRecursion as All}
use Rattle.std.proofs.ByRecursion.{All-get_or, All-push}
use Rattle.std.proofs.lemmas.List.{append_assoc, append-nil, length-append, get_or_at}
use Rattle.std.proofs.lemmas.Bool.{cases_lt}
use Rattle.names.specs.Names.{NameByte, IsName}
use Rattle.names.specs.Spellings.{byte, spelt_from, spelt}
use Rattle.names.proofs.Figures.{name_byte}
use Rattle.names.proofs.Readings.{power_some, weight_more, bytes_of}
use Rattle.names.proofs.Spelt.{spelt_name, spelt_none, spelt_more, some_figure, first_figure}

-- bs are the bytes of the number's first figures; r is the rest, and w the weight of the last figure
pub record Rest (n : ℕ) (bs : List ℕ) (w r : ℕ) : Type 0 where
  pub few : length bs ≤ 12
  pub weight : w ≡ 38 ^ (12 - length bs)
  pub less : r < w
  pub bytes : All NameByte bs
  pub whole : bs ++ spelt_from (12 - length bs) r ≡ spelt n

-- where something is left, there is room for a byte
pub rest_room : {n : ℕ} {bs : List ℕ} {w r : ℕ} → Rest n bs w r → 0 < r → length bs < 12
rest_room {bs = bs} s some =
    ⊎_elim
    (λ h. h)
    (λ full. let z : 12 - length bs ≡ 0 = omega arith in absurd (omega (arith, ap (λ (j : ℕ). 38 ^ j) z)))
    (cases_lt (length bs) 12)

pub rest_weight : {n : ℕ} {bs : List ℕ} {w r : ℕ} → Rest n bs w r → 0 < r → 0 < w / 38
rest_weight {bs = bs} {w = w} s some = rw (weight_more (length bs) w (rest_room s some) s.weight) (power_some (12 - (length bs + 1)))

rest_figure : {n : ℕ} {bs : List ℕ} {w r : ℕ} → Rest n bs w r → 0 < r → r / (w / 38) ≤ 37
rest_figure {bs = bs} {w = w} {r = r} s some =
    let h = rest_room s some in
    let m : 12 - length bs ≡ suc (12 - (length bs + 1)) = omega arith in
    rw (weight_more (length bs) w h s.weight) (first_figure (12 - (length bs + 1)) r (omega (arith, ap (λ (j : ℕ). 38 ^ j) m)))

-- what the number spells, from the next figure on
rest_next : {n : ℕ} {bs : List ℕ} {w r : ℕ} → Rest n bs w r → 0 < r → bs ++ (byte (r / (w / 38)) ∷ spelt_from (12 - (length bs + 1)) (r % (w / 38))) ≡ spelt n
rest_next {bs = bs} {w = w} {r = r} s some = sym (spelt_more bs (length bs) r w (rest_room s some) some s.weight) ∙ s.whole

-- one byte more
pub rest_more : {n : ℕ} {bs : List ℕ} {w r : ℕ} (b : ℕ) → Rest n bs w r → 0 < r → 0 < r / (w / 38) → b ≡ byte (r / (w / 38)) → Rest n (bs ++ b ∷ []) (w / 38) (r % (w / 38))
rest_more {bs = bs} {w = w} {r = r} b s some figure e =
    let h = rest_room s some in
    let l : length (bs ++ b ∷ []) ≡ length bs + 1 = simp length-append in
    record {
      few = omega arith;
      weight = weight_more (length bs) w h s.weight ∙ ap (λ (j : ℕ). 38 ^ (12 - j)) (sym l);
      less = mod-lt r (rest_weight s some);
      bytes = All-push NameByte bs b s.bytes (subst NameByte (sym e) (name_byte (r / (w / 38)) figure (rest_figure s some)));
      whole =
          ap (λ (k : ℕ). (bs ++ b ∷ []) ++ spelt_from (12 - k) (r % (w / 38))) l
          ∙ append_assoc bs (b ∷ []) (spelt_from (12 - (length bs + 1)) (r % (w / 38)))
          ∙ ap (λ (c : ℕ). bs ++ (c ∷ spelt_from (12 - (length bs + 1)) (r % (w / 38)))) e
          ∙ rest_next s some;
    }

-- a zero among the figures stands before others: no name has the number
pub rest_zero : {n : ℕ} {bs : List ℕ} {w r : ℕ} → Rest n bs w r → 0 < r → (r / (w / 38) ≡ 0) ⊎ (37 < r / (w / 38)) → IsName n → ⊥
rest_zero {n = n} {bs = bs} {w = w} {r = r} s some out is =
    let ys = spelt_from (12 - (length bs + 1)) (r % (w / 38)) in
    let f = byte (r / (w / 38)) in
    let a = subst (All NameByte) (sym (rest_next s some ∙ spelt_name n is)) (bytes_of is.bytes is.name) in
    let b = All-get_or NameByte (bs ++ (f ∷ ys)) (length bs) 0 (simp length-append (omega arith)) a in
    let g = some_figure (r / (w / 38)) (subst NameByte (get_or_at bs f ys 0 (length bs) refl) b) in
    let few = rest_figure s some in
    ⊎_elim (λ zero. omega arith) (λ more. omega arith) out

-- nothing is left
pub rest_none : {n : ℕ} {bs : List ℕ} {w r : ℕ} → Rest n bs w r → r ≡ 0 → bs ≡ spelt n
rest_none {bs = bs} s none =
    sym (append-nil bs) ∙ ap (λ (xs : List ℕ). bs ++ xs) (sym (spelt_none (12 - length bs)) ∙ ap (spelt_from (12 - length bs)) (sym none)) ∙ s.whole
