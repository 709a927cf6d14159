use Rattle.std.proofs.Common.{◌≡◌, ℕ, ◌<◌, Bool, cond, [], ◌∷◌, ◌++◌, length, get_or, take, drop, sym, ap, ◌∙◌, arith}
use Rattle.std.proofs.lemmas.List.{get_or-map}
use Rattle.kinds.specs.Laws.{loaded}
use Rattle.records.specs.Tables.{first_at, count_at}
use Rattle.records.specs.Sheets.{kind_of}
use Rattle.records.proofs.Reading.{kind_read}
use Rattle.vocabulary.specs.Texts.{bytes}
use Rattle.showing.specs.Shown.{hashed, tagged}
use Rattle.showing.specs.Source.{held}
use Rattle.showing.specs.Writing.{marked}
use Rattle.showing.proofs.Putting.{adds_as}
use Rattle.showing.proofs.Stepping.{entered_as, block_read, marked_then}
use Rattle.showing.proofs.source.Source.open_place.Goals as goal

pub returns-clause-state : goal.returns-clause-state
returns-clause-state g c =
    let p : ℕ = c.args.p in
    let ps = c.args.self.now.tables.places.now in
    let ss = c.args.self.now.tables.slots.now in
    let place = get_or ps p c.index-self-p.result in
    let inside : p < length ps = c.requires.within in
    let first : place.before ≡ first_at ps p = sym (get_or-map (λ r. r.before) ps p c.index-self-p.result 0 inside) in
    let count : place.count ≡ count_at ps p = sym (get_or-map (λ r. r.count) ps p c.index-self-p.result 0 inside) in
    entered_as ((λ i. take (count i) (drop (first i) ss)) ∙ block_read g.V.Vocabulary.texts c.args.self.now p) c.has_tag-tagged.ensures (c.enter.ensures ss)

pub returns-clause-adds : goal.returns-clause-adds
returns-clause-adds g c =
    let laws = g.K.Kind.laws in
    let n : ℕ = c.args.progress.now.next in
    let p : ℕ = c.args.p in
    let ps = c.args.self.now.tables.places.now in
    let sheet = held c.args.self.now in
    let tag : marked c.then_some-tag.result ≡ cond (tagged sheet p) (hashed n (32 ∷ [])) [] =
    ap marked c.then_some-tag.ensures ∙ marked_then c.has_tag-tagged.result n ∙ ap (λ (b : Bool). cond b (hashed n (32 ∷ [])) []) c.has_tag-tagged.ensures in
    let kind : loaded laws (get_or ps p c.index-self-p.result).kind ≡ kind_of laws sheet p =
    ap (λ f. loaded laws f) (sym (get_or-map (λ r. r.kind) ps p c.index-self-p.result (g.K.Kind.form g.K.Kind.top) (omega (arith, c.requires.within)))) ∙ sym (kind_read laws ps p) in
    adds_as (λ i. 40 ∷ (tag i ++ bytes (g.V.Vocabulary.texts (kind i)))) c.put_opening.ensures
