-- What a text reads as is the kind that is written so, and no other text reads as that kind.
use Rattle.std.proofs.Common.{◌≡◌, ℕ, true, List, [], ◌∷◌, ℤ, Some, None, codes, Option, IfSome, sym, refl, ap, ◌∙◌, subst}
use Rattle.std.specs.Option.{option_map}
use Rattle.std.specs.Result.{result_ok}
use Rattle.std.specs.Str.{bytes_eq}
use Rattle.std.proofs.lemmas.Bool.{cond_both}
use Rattle.std.proofs.lemmas.Option.{none-some}
use Rattle.std.proofs.lemmas.Slice.Eq.{bytes_eq-Decides}
use Rattle.kinds.specs.declared.catalogue.Catalogue.{Catalogue}
use Rattle.kinds.specs.Catalogue as catalogue
use Rattle.ranges.specs.declared.range.Range.{Range}
use Rattle.ranges.specs.declared.range.RangeForm.{RangeForm}
use Rattle.ranges.specs.Ranges.{made}
use Rattle.ranges.specs.RangeLaws.{range_laws}
use Rattle.either_kind.specs.declared.either.Either.{Either}
use Rattle.either_kind.specs.declared.either.Either.TheVariants.{Any, First, Second}
use Rattle.vocabulary.specs.Texts.{Text, word, range, reading}
use Rattle.vocabulary.specs.Alone.{named}
use Rattle.vocabulary.specs.Orders.{order_words, order_ranges, order_texts, KindOf}
use Rattle.vocabulary.specs.OrdersLaws.{orders_laws}

-- o is none, or a kind that is written t
abbrev Written : Text → Option (Either Catalogue Range) → Type 0
Written t o = IfSome o (λ k. order_texts k ≡ t)

-- it is written t if what it is made of is
part : {X : Type 0} (t : Text) (f : X → Either Catalogue Range) (o : Option X) → IfSome o (λ x. order_texts (f x) ≡ t) → Written t (option_map f o)
part t f (Some x) h = h
part t f None h = tt

same : (w v : List ℕ) → bytes_eq w v ≡ true → word v ≡ word w
same w v h = ap word (sym ((bytes_eq-Decides w v).0 h))

named_own : (w : List ℕ) (ks : List Catalogue) → IfSome (named w ks) (λ k. word (catalogue.word k) ≡ word w)
unfolding named
named_own w [] = tt
named_own w (k ∷ ks) =
    cond_both (bytes_eq w (catalogue.word k)) (Some k) (named w ks) (λ o. IfSome o (λ j. word (catalogue.word j) ≡ word w)) (same w (catalogue.word k)) (λ h. named_own w ks)

words_own : (w : List ℕ) → Written (word w) (order_words w)
unfolding order_words
words_own w =
    cond_both (bytes_eq w (codes "any")) (Some Any) (option_map First (named w catalogue.listed)) (Written (word w)) (same w (codes "any"))
    (λ h. part (word w) First (named w catalogue.listed) (named_own w catalogue.listed))

ranges_own : (low high : ℤ) → Written (range low high) (order_ranges low high)
ranges_own low high = part (range low high) Second (result_ok (made low high)) (go (result_ok (made low high)) refl)
  where
    go : (o : Option Range) → result_ok (made low high) ≡ o → IfSome o (λ r. order_texts (Second r) ≡ range low high)
    go (Some r) e = ap (λ (f : RangeForm). range f.low f.high) (range_laws.own (record { low = low; high = high }) r e)
    go None e = tt

own : (t : Text) → Written t (reading order_words order_ranges t)
own (word w) = words_own w
own (range low high) = ranges_own low high

-- what a text reads as is the kind that is written so
pub kind_of : (t : Text) (o : Option (Either Catalogue Range)) → o ≡ reading order_words order_ranges t → KindOf t o
kind_of t (Some k) e = subst (Written t) (sym e) (own t)
kind_of t None e = λ k f. none-some k (e ∙ ap (reading order_words order_ranges) (sym f) ∙ orders_laws.reads k)
