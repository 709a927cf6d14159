use Rattle.std.proofs.Common.{◌≡◌, ◌<◌, ◌≤◌, min, List, length, sym, refl, ◌∙◌, subst, inl, inr, arith}
use Rattle.records.specs.declared.PlaceRecord.{PlaceRecord}
use Rattle.records.specs.declared.SlotRecord.{SlotRecord}
use Rattle.records.specs.Sheets.{sheet_of}
use Rattle.sheets.specs.Checks.{IsSheet}
use Rattle.sheets.specs.Shown.{shown_places, shown_slots}
use Rattle.showing.specs.Shown.{tags}
use Rattle.showing.proofs.Answering.{not_nothing, tags_are, never_deep, wrote_of, too_long, not_too_long, written}
use Rattle.showing.proofs.Walking.{one_text}
use Rattle.showing.proofs.show.Goals as goal
use Rattle.showing.proofs.show.Goals.{then-length-gt-MOST_BYTES-via-then-length-gt-MOST_BYTES, then-length-gt-MOST_BYTES-via-else-length-gt-MOST_BYTES+then-length-out}

pub returns-then-is_empty : goal.returns-then-is_empty
returns-then-is_empty g c = record {
  answer = inl (c.if-is_empty.ensures, refl);
  leaves = refl;
  single = one_text g.K.Kind.laws g.V.Vocabulary.texts (sheet_of g.K.Kind.laws (shown_places c.args.sheet.now) (shown_slots c.args.sheet.now));
}

pub new-source-requires : goal.new-source-requires
new-source-requires g c =
    let sheet : IsSheet (shown_places c.args.sheet.now) (shown_slots c.args.sheet.now) = c.if-is_empty.ensures in
    let ep = sym c.tables.ensures.places in
    let es = sym c.tables.ensures.slots in
    subst (λ (l : List SlotRecord). IsSheet c.tables.result.places.now l) es (subst (λ (l : List (PlaceRecord g.row.K-Form.Denot)). IsSheet l (shown_slots c.args.sheet.now)) ep sheet)

pub returns-then-count_tags-gt-MOST_TAGS : goal.returns-then-count_tags-gt-MOST_TAGS
returns-then-count_tags-gt-MOST_TAGS g c =
    let laws = g.K.Kind.laws in
    let texts = g.V.Vocabulary.texts in
    let view = c.args.sheet.now in
    let s = sheet_of laws (shown_places view) (shown_slots view) in
    let n : c.count_tags.result ≡ tags s = c.count_tags.ensures ∙ tags_are laws texts (c.new-source.ensures.places ∙ c.tables.ensures.places) (c.new-source.ensures.slots ∙ c.tables.ensures.slots) in
    record {
      answer = inr (not_nothing view c.if-is_empty.ensures, inl (omega (arith, c.if-count_tags-gt-MOST_TAGS.true), refl));
      leaves = refl;
      single = one_text laws texts s;
    }

pub returns-then-length-gt-MOST_BYTES : goal.returns-then-length-gt-MOST_BYTES
returns-then-length-gt-MOST_BYTES g c =
    let laws = g.K.Kind.laws in
    let texts = g.V.Vocabulary.texts in
    let view = c.args.sheet.now in
    let s = sheet_of laws (shown_places view) (shown_slots view) in
    let sheet : IsSheet (shown_places view) (shown_slots view) = c.if-is_empty.ensures in
    let ep = c.new-source.ensures.places ∙ c.tables.ensures.places in
    let es = c.new-source.ensures.slots ∙ c.tables.ensures.slots in
    let n : c.count_tags.result ≡ tags s = c.count_tags.ensures ∙ tags_are laws texts ep es in
    let measured = wrote_of laws texts ep es c.write-length.ensures in
    let long : min 60000 (length c.args.out.now) < c.write-length.result =
    elim c.then-length-gt-MOST_BYTES.branch [
      | then-length-gt-MOST_BYTES-via-then-length-gt-MOST_BYTES w ↦ omega (arith, w.if-length-gt-MOST_BYTES.true)
      | then-length-gt-MOST_BYTES-via-else-length-gt-MOST_BYTES+then-length-out w ↦ omega (arith, w.if-length-out.true)
    ] in
    record {
      answer = inr (not_nothing view sheet, inr ((λ h. omega (arith, c.if-count_tags-gt-MOST_TAGS.false)), inr (never_deep laws texts (shown_places view) (shown_slots view) sheet, inl (too_long laws texts s _ _ c.args.out.now c.write-length.result measured long, refl))));
      leaves = refl;
      single = one_text laws texts s;
    }

pub returns : goal.returns
returns g c =
    let laws = g.K.Kind.laws in
    let texts = g.V.Vocabulary.texts in
    let view = c.args.sheet.now in
    let s = sheet_of laws (shown_places view) (shown_slots view) in
    let sheet : IsSheet (shown_places view) (shown_slots view) = c.if-is_empty.ensures in
    let ep = c.new-source.ensures.places ∙ c.tables.ensures.places in
    let es = c.new-source.ensures.slots ∙ c.tables.ensures.slots in
    let n : c.count_tags.result ≡ tags s = c.count_tags.ensures ∙ tags_are laws texts ep es in
    let measured = wrote_of laws texts ep es c.write-length.ensures in
    let done = wrote_of laws texts ep es c.write.ensures in
    let most : c.write-length.result ≤ 60000 = omega (arith, c.if-length-gt-MOST_BYTES.false) in
    let fits : c.write-length.result ≤ length c.args.out.now = omega (arith, c.if-length-out.false) in
    record {
      answer = inr (not_nothing view sheet, inr ((λ h. omega (arith, c.if-count_tags-gt-MOST_TAGS.false)), inr (never_deep laws texts (shown_places view) (shown_slots view) sheet, inr (not_too_long laws texts s _ _ c.args.out.now c.write-length.result measured most fits, refl))));
      leaves = written laws texts s _ _ c.args.out.now c.write.new.out c.write-length.result c.write.result measured most fits done;
      single = one_text laws texts s;
    }
