-- Lists that are written over the front of another, and over a part of another behind the front.
use Rattle.std.proofs.Common.{◌≡◌, ℕ, ◌+◌, ◌-◌, ◌<◌, ◌≤◌, List, ◌++◌, [], map, length, get_or, take, drop, set, replicate, sym, ap, ◌∙◌, append_assoc, arith, length-append}
use lib.Seq.{paste}
use borrow.Rule.Slice.PartMut.{put_mid}
use Rattle.std.proofs.lemmas.List.{get_or-map, take_all, take_at, drop_all, drop_at, drop-drop, length-drop, append-nil}
use Rattle.std.proofs.lemmas.List.Edits.{paste_more, paste_all, fill_from_more}

module _ {A : Type 0} where
  -- one more element of the list s is written
  pub front_put : (d new s : List A) (i : ℕ) (v : A) → new ≡ paste d 0 s i → v ≡ get_or s i v → i < length d → i < length s
      → set new i v ≡ paste d 0 s (i + 1)
  front_put d new s i v e is hd hs =
      let at : i ≡ 0 + i = omega arith in
      ap (λ l. set l i v) e ∙ ap (set (paste d 0 s i) i) is ∙ ap (λ k. set (paste d 0 s i) k (get_or s i v)) at ∙ paste_more d 0 s i v (omega arith) hs

  -- all elements of s are written
  pub front_all : (d new s : List A) (i n : ℕ) → new ≡ paste d 0 s i → i ≡ n → n ≡ length s → new ≡ s ++ drop n d
  front_all d new s i n e all whole =
      let at : 0 + n ≡ n = omega arith in
      e ∙ ap (paste d 0 s) all ∙ paste_all d 0 s n whole ∙ ap (λ k. s ++ drop k d) at

  -- one more copy of y is written
  pub fill_put : (d new : List A) (i : ℕ) (y : A) → new ≡ paste d 0 (replicate i y) i → i < length d → set new i y ≡ paste d 0 (replicate (i + 1) y) (i + 1)
  fill_put d new i y e h =
      let at : i ≡ 0 + i = omega arith in
      ap (λ l. set l i y) e ∙ ap (λ k. set (paste d 0 (replicate i y) i) k y) at ∙ fill_from_more d 0 i y (omega arith)

  -- the list y is written behind x, which was written first
  pub front_both : (d mid x y rest : List A) (k m n : ℕ) → k ≡ length x → mid ≡ x ++ drop k d → n ≡ length mid - k
      → rest ≡ y ++ drop m (take n (drop k mid)) → put_mid k n mid rest ≡ (x ++ y) ++ drop (k + m) d
  front_both d mid x y rest k m n hk e hn f =
      let long : length (drop k mid) ≤ n = omega (arith, length-drop k mid) in
      let front : take k mid ≡ x = ap (take k) e ∙ take_at x (drop k d) k (omega arith) in
      let back : drop k mid ≡ drop k d = ap (drop k) e ∙ drop_at x (drop k d) k (omega arith) in
      let none : drop n (drop k mid) ≡ [] = drop_all n (drop k mid) long in
      let past : drop m (take n (drop k mid)) ≡ drop (k + m) d = ap (drop m) (take_all n (drop k mid) long ∙ back) ∙ drop-drop m k d in
      (λ i. front i ++ (f i ++ none i)) ∙ ap (λ l. x ++ l) (append-nil _) ∙ ap (λ l. x ++ (y ++ l)) past ∙ sym (append_assoc x y (drop (k + m) d))

  -- what stands in the first n elements, and behind them
  pub laid : (old new x : List A) (n : ℕ) → new ≡ x ++ drop n old → length x ≡ n → n ≤ length old
      → (take n new ≡ x) × (drop n new ≡ drop n old) × (length new ≡ length old)
  laid old new x n e long room = (
    ap (take n) e ∙ take_at x (drop n old) n long,
    ap (drop n) e ∙ drop_at x (drop n old) n long,
    omega (arith, ap length e, length-append x (drop n old), length-drop n old),
  )

-- what is made of an element that was read
pub mapped_read : {A B : Type 0} (f : A → B) (xs : List A) (i : ℕ) (x : A) (d : B) → i < length xs → x ≡ get_or xs i x → f x ≡ get_or (map f xs) i d
mapped_read f xs i x d h is = ap f is ∙ sym (get_or-map f xs i x d h)
