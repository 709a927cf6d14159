use Rattle.std.proofs.Common.{◌≡◌, ℕ, List, [], ◌∷◌, get_or, None, Some, Option, sym, refl, subst}
use Rattle.showing.specs.declared.walk.Progress.{Progress}
use Rattle.showing.specs.Shown.{hashed}
use Rattle.showing.specs.Source.{held}
use Rattle.showing.specs.Progress.{Reached, opened}
use Rattle.showing.proofs.Putting.{adds_then}
use Rattle.showing.proofs.source.Source.put_slot.Goals as goal

pub returns-in-Some : goal.returns-in-Some
returns-in-Some g c =
    let laws = g.K.Kind.laws in
    let texts = g.V.Vocabulary.texts in
    let w : Progress = c.args.progress.now in
    let sheet = held c.args.self.now in
    let piece : List ℕ = 40 ∷ hashed c.in-Some.tag (41 ∷ []) in
    let is : get_or w.tags c.args.slot.target None ≡ Some c.in-Some.tag = c.in-Some.is in
    record {
      piece = piece;
      adds = adds_then c.put_naming.ensures c.put_again.ensures;
      reached = subst (λ (t : Option ℕ). Reached laws texts sheet t w c.args.slot.target piece w) (sym is) (refl, refl);
    }

pub returns-in-None : goal.returns-in-None
returns-in-None g c =
    let laws = g.K.Kind.laws in
    let texts = g.V.Vocabulary.texts in
    let w : Progress = c.args.progress.now in
    let sheet = held c.args.self.now in
    let piece : List ℕ = opened laws texts sheet w.next c.args.slot.target in
    let is : get_or w.tags c.args.slot.target None ≡ None = c.in-None.is in
    record {
      piece = piece;
      adds = adds_then c.put_naming.ensures c.open_place.ensures.adds;
      reached = subst (λ (t : Option ℕ). Reached laws texts sheet t w c.args.slot.target piece c.open_place.new.progress) (sym is) (refl, c.open_place.ensures.state);
    }
