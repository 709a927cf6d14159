-- One name more of a path.
use Rattle.std.proofs.Common.{◌≡◌, ℕ, ◌+◌, ◌<◌, cond, ltb, List, [], ◌∷◌, ◌++◌, length, take, set, Some, None, sym, ap, ◌∙◌, arith}
use Rattle.std.proofs.lemmas.List.{take_more_set, length-take-le}
use Rattle.std.proofs.lemmas.Bool.{cond-true, lt-ltb}

pub path_pushed : (xs : List ℕ) (n x : ℕ) → length xs ≡ 16 → n < 16 → Some (take (n + 1) (set xs n x)) ≡ cond (ltb (length (take n xs)) 16) (Some (take n xs ++ x ∷ [])) None
path_pushed xs n x size lt =
    ap Some (take_more_set xs n x (omega arith)) ∙ sym (cond-true (ltb (length (take n xs)) 16) (Some (take n xs ++ x ∷ [])) None (lt-ltb _ _ (omega (arith, length-take-le n xs (omega arith)))))
