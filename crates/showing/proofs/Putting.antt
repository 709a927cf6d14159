-- One piece after another is the two of them together.
use Rattle.std.proofs.Common.{◌≡◌, ℕ, zero, suc, ◌+◌, ◌-◌, ◌^◌, ◌<◌, ◌≤◌, min, List, [], ◌∷◌, ◌++◌, length, take, drop, set, sym, refl, ap, ◌∙◌, subst, ⊎_elim, append_assoc, append-nil, add-zero, arith, length-append}
use lib.Seq.{sets, sets-eq, length-sets, paste, paste-zero}
use Rattle.std.proofs.lemmas.Bool.{cases_lt}
use Rattle.std.proofs.lemmas.List.{set_past, take_all, length-take, length-drop, take-append-drop, nil_from_length}
use Rattle.showing.specs.declared.writing.Output.{Output}
use Rattle.showing.specs.Writing.{Adds, Holds}

sets_append : (l : List ℕ) (i j : ℕ) (xs ys : List ℕ) → j ≡ i + length xs → sets (sets l i xs) j ys ≡ sets l i (xs ++ ys)
sets_append l i j [] ys e = ap (λ (k : ℕ). sets l k ys) (e ∙ add-zero i)
sets_append l i j (x ∷ xs) ys e = sets_append (set l i x) (suc i) j xs ys (omega arith)

-- nothing is written past the end
sets_past : (l : List ℕ) (i : ℕ) (xs : List ℕ) → length l ≤ i → sets l i xs ≡ l
sets_past l i [] h = refl
sets_past l i (x ∷ xs) h = ap (λ (k : List ℕ). sets k (suc i) xs) (set_past l i x h) ∙ sets_past l (suc i) xs (omega arith)

-- of many bytes those are written that fit, at once
sets_inside : (l : List ℕ) (i : ℕ) (xs : List ℕ) (n : ℕ) → n ≤ length xs → i + n ≤ length l → (n < length xs → length l ≤ i + n) → sets l i xs ≡ paste l i (take n xs) n
sets_inside l i xs n few fits full =
    let long : length (take n xs) ≡ n = omega (arith, length-take n xs) in
    let end : i + length (take n xs) ≡ i + n = omega arith in
    let all : take n xs ≡ take n (take n xs) = sym (take_all n (take n xs) (omega arith)) in
    let rest : sets (sets l i (take n xs)) (i + n) (drop n xs) ≡ sets l i (take n xs) =
    ⊎_elim
    (λ more. sets_past (sets l i (take n xs)) (i + n) (drop n xs) (omega (arith, full more, length-sets l i (take n xs))))
    (λ none. ap (λ (k : List ℕ). sets (sets l i (take n xs)) (i + n) k) (nil_from_length (drop n xs) (omega (arith, length-drop n xs))))
    (cases_lt n (length xs)) in
    ap (λ (k : List ℕ). sets l i k) (sym (take-append-drop n xs))
    ∙ sym (sets_append l i (i + n) (take n xs) (drop n xs) (omega arith))
    ∙ rest
    ∙ sets-eq (take n xs) l i (omega arith)
    ∙ (λ j. take i l ++ all j ++ drop (end j) l)

sets_at_once : (l : List ℕ) (i : ℕ) (xs : List ℕ) (from n : ℕ) → from ≡ min i (length l) → n ≡ min (i + length xs) (length l) - from → sets l i xs ≡ paste l from (take n xs) n
sets_at_once l i xs from n start count =
    ⊎_elim
    (λ past. let none : zero ≡ n = omega arith in sets_past l i xs (omega arith) ∙ paste-zero l from (take n xs) ∙ ap (λ (k : ℕ). paste l from (take n xs) k) none)
    (λ inside. let at : i ≡ from = omega arith in sets_inside l i xs n (omega arith) (omega arith) (λ more. omega arith) ∙ ap (λ (k : ℕ). paste l k (take n xs) n) at)
    (cases_lt (length l) i)

-- one byte more
one_more : (first written : List ℕ) (byte : ℕ) → set (sets first 0 written) (length written) byte ≡ sets first 0 (written ++ byte ∷ [])
one_more first written byte = sets_append first 0 (length written) written (byte ∷ []) (omega arith)

pub put_inside : (t u : Output) (byte : ℕ) → u.bytes.ghost_name ≡ t.bytes.ghost_name → t.len < length t.bytes.now → length t.bytes.now < 2 ^ 64 → u.bytes.now ≡ set t.bytes.now t.len byte → u.len ≡ min (t.len + 1) (2 ^ 64 - 1) → Adds (byte ∷ []) t u
put_inside t u byte same inside fits out len = record {
  same = same;
  more = λ first written h.
      let at : t.len ≡ length written = omega (arith, h.count) in
      record {
        count = simp length-append (omega (arith, len, h.count));
        bytes = out ∙ (λ i. set (h.bytes i) (at i) byte) ∙ one_more first written byte;
      };
}

pub put_past : (t u : Output) (byte : ℕ) → u.bytes.ghost_name ≡ t.bytes.ghost_name → length t.bytes.now ≤ t.len → u.bytes.now ≡ t.bytes.now → u.len ≡ min (t.len + 1) (2 ^ 64 - 1) → Adds (byte ∷ []) t u
put_past t u byte same past out len = record {
  same = same;
  more = λ first written h. record {
    count = simp length-append (omega (arith, len, h.count));
    bytes = out ∙ sym (set_past t.bytes.now (length written) byte (omega (arith, h.count))) ∙ (λ i. set (h.bytes i) (length written) byte) ∙ one_more first written byte;
  };
}

-- many bytes at once
pub put_part : (t u : Output) (piece : List ℕ) (from n : ℕ) → u.bytes.ghost_name ≡ t.bytes.ghost_name → length t.bytes.now < 2 ^ 64 → u.len ≡ min (t.len + length piece) (2 ^ 64 - 1) → from ≡ min t.len (length t.bytes.now) → n ≡ min u.len (length t.bytes.now) - from → u.bytes.now ≡ paste t.bytes.now from (take n piece) n → Adds piece t u
put_part t u piece from n same fits len start count out = record {
  same = same;
  more = λ first written h.
      let at : from ≡ min (length written) (length t.bytes.now) = omega (arith, h.count) in
      let few : n ≡ min (length written + length piece) (length t.bytes.now) - from = omega (arith, h.count, len) in
      record {
        count = simp length-append (omega (arith, len, h.count));
        bytes = out ∙ sym (sets_at_once t.bytes.now (length written) piece from n at few) ∙ (λ i. sets (h.bytes i) (length written) piece) ∙ sets_append first 0 (length written) written piece (omega arith);
      };
}

pub adds_none : (t : Output) → Adds [] t t
adds_none t = record { same = refl; more = λ first written h. subst (λ (w : List ℕ). Holds first w t) (sym (append-nil written)) h }

pub adds_then : {xs ys : List ℕ} {t u v : Output} → Adds xs t u → Adds ys u v → Adds (xs ++ ys) t v
adds_then {xs} {ys} {t} {u} {v} p q = record {
  same = q.same ∙ p.same;
  more = λ first written h. subst (λ (w : List ℕ). Holds first w v) (append_assoc written xs ys) (q.more first (written ++ xs) (p.more first written h));
}

-- the same piece by another name
pub adds_as : {xs ys : List ℕ} {t u : Output} → xs ≡ ys → Adds xs t u → Adds ys t u
adds_as {xs} {ys} {t} {u} e p = subst (λ (piece : List ℕ). Adds piece t u) e p
