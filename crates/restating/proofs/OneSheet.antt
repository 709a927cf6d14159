-- Two sheets that one draft describes satisfy each other, and are equal.
use Rattle.std.proofs.Common.{◌≡◌, Option, sym, ap, ◌∙◌, subst}
use Rattle.kinds.specs.Laws.{KindLaws}
use Rattle.records.specs.Sheets.{Sheet, kind_of}
use Rattle.records.specs.Satisfaction.{Satisfies}
use Rattle.records.proofs.Unique.{unique}
use Rattle.reading.specs.Drafts.{Draft}
use Rattle.reading.specs.Meaning.{IsSheetOf}
use Rattle.restating.specs.Back.{OneSheet}

module _ {K F : Type 0} {below : K → K → Type 0} {top : K} {form : K → F} {kind : F → Option K} (laws : KindLaws below top form kind) where
  satisfied : (d : Draft K) (s t : Sheet K) → IsSheetOf d s → IsSheetOf d t → Satisfies laws s t
  satisfied d s t a b = record {
    image = λ p. a.number (b.back p);
    root = ap a.number b.start ∙ a.root;
    within = λ p h. a.within (b.back p) (b.inside p h);
    slots = λ p f q e. a.edges (b.back p) f (b.back q) (b.only p f q e);
    kinds = λ p h.
        let e : kind_of laws s (a.number (b.back p)) ≡ kind_of laws t p =
        a.kinds top (b.back p) (b.inside p h) ∙ sym (b.kinds top (b.back p) (b.inside p h)) ∙ ap (kind_of laws t) (b.onto p h) in
        subst (λ k. below k (kind_of laws t p)) (sym e) (laws.reflexive (kind_of laws t p));
  }

  pub one_sheet : OneSheet K
  one_sheet d s t a b = unique laws s t a.formed b.formed (satisfied d s t a b) (satisfied d t s b a)
