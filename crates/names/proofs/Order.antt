-- The order of numbers is the order of names as texts.
use Rattle.std.proofs.Common.{◌≡◌, ℕ, zero, suc, ◌*◌, ◌^◌, ◌<◌, ◌≤◌, ◌⊎◌, List, [], ◌∷◌, length, sym, refl, ap, ◌∙◌, inl, inr, ⊎_elim, arith}
use lib.Arith.{digits_lt}
use Rattle.std.specs.List.{AllByRecursion as All}
use Rattle.std.proofs.lemmas.Bool.{cases_order}
use Rattle.names.specs.Names.{Name, NameByte, figure, reading, number, Before, NumberLaws}
use Rattle.names.specs.Spellings.{byte}
use Rattle.names.proofs.Figures.{byte_figure}
use Rattle.names.proofs.Readings.{power_some, reading_lt, reading_some, bytes_of}
use Rattle.names.proofs.Spelt.{one_name}

reading_rising : (k : ℕ) (xs ys : List ℕ) → length xs ≤ k → length ys ≤ k → All NameByte xs → All NameByte ys → Before xs ys → reading k xs < reading k ys
reading_rising k [] [] p q a b o = absurd o
reading_rising k (x ∷ xs) [] p q a b o = absurd o
reading_rising zero [] (y ∷ ys) p q a b o = absurd (omega arith)
reading_rising zero (x ∷ xs) (y ∷ ys) p q a b o = absurd (omega arith)
reading_rising (suc k) [] (y ∷ ys) p q a b o = omega (arith, power_some k, reading_some k y (reading k ys) b.0)
reading_rising (suc k) (x ∷ xs) (y ∷ ys) p q a b (inl less) = omega (arith, digits_lt less (reading_lt k xs (omega arith) a.1))
reading_rising (suc k) (x ∷ xs) (y ∷ ys) p q a b (inr (e, o)) =
    let h = reading_rising k xs ys (omega arith) (omega arith) a.1 b.1 o in
    omega (arith, ap (λ (z : ℕ). figure z * 38 ^ k) e)

same_byte : (x y : ℕ) → NameByte x → NameByte y → figure x ≡ figure y → x ≡ y
same_byte x y a b e = sym (byte_figure x a) ∙ ap byte e ∙ byte_figure y b

compared : (xs ys : List ℕ) → All NameByte xs → All NameByte ys → Before xs ys ⊎ ((xs ≡ ys) ⊎ Before ys xs)
compared [] [] a b = inr (inl refl)
compared [] (y ∷ ys) a b = inl tt
compared (x ∷ xs) [] a b = inr (inr tt)
compared (x ∷ xs) (y ∷ ys) a b =
    ⊎_elim
    (λ e.
    let s = same_byte x y a.0 b.0 e in
    ⊎_elim (λ o. inl (inr (s, o))) (⊎_elim (λ t. inr (inl (λ i. s i ∷ t i))) (λ o. inr (inr (inr (sym s, o))))) (compared xs ys a.1 b.1))
    (⊎_elim (λ less. inl (inl less)) (λ more. inr (inr (inl more))))
    (cases_order (figure x) (figure y))

name_rising : (bs cs : List ℕ) → Name bs → Name cs → Before bs cs → number bs < number cs
name_rising bs cs n m o = reading_rising 12 bs cs n.few m.few (bytes_of bs n) (bytes_of cs m) o

name_before : (bs cs : List ℕ) → Name bs → Name cs → number bs < number cs → Before bs cs
name_before bs cs n m h =
    ⊎_elim
    (λ o. o)
    (⊎_elim (λ e. absurd (omega (arith, ap number e))) (λ o. absurd (omega (arith, name_rising cs bs m n o))))
    (compared bs cs (bytes_of bs n) (bytes_of cs m))

pub number_laws : NumberLaws
number_laws = record { one = one_name; rising = name_rising; before = name_before }
