use Rattle.std.proofs.Common.{◌≡◌, ◌+◌, ◌∙◌, eqb, position, length, take, ap, rules, tests}
use Rattle.std.specs.Option.{option_map_or}
use Rattle.std.proofs.lemmas.Iterator.{YieldsList-from_slice}
use Rattle.std.proofs.lemmas.Iterator.Search.{position_from_yields_List}
use Rattle.lines.specs.Reading.{past_line, Feeds}
use Rattle.lines.proofs.Held.{newline_ended, newline_used, newline_front, line_fed}
use Rattle.lines.proofs.Runs.{so_far_fed}
use Rattle.lines.proofs.reader.Lines.feed.Goals as goal

pub returns : goal.returns
returns c =
    let s = c.args.self.now in
    let piece = c.args.piece.now in
    let begins = c.begin.ensures in
    let appends = c.append.ensures in
    let place : c.position-newline.result ≡ position (λ b. eqb b 10) piece =
    position_from_yields_List (λ b. eqb b 10) _ _ c.position-newline.result c.position-newline.ensures.ran (YieldsList-from_slice piece cc) (λ x b q k. search (rules, tests)) in
    let mapped : c.map_or.result ≡ option_map_or (λ n. n + 1) c.position-newline.result (length piece) = search rules in
    let ends = c.is_some-self.ensures ∙ newline_ended piece _ place in
    let feeds : Feeds s piece _ _ =
    record {
      ended = ends;
      used = mapped ∙ newline_used piece _ place;
      line = line_fed s _ c.append.new.self piece _ begins.kept begins.line appends.line (ap (λ n. take n piece) c.unwrap_or-end.ensures ∙ newline_front piece _ place);
      over = ends;
      kept =
          record {
            loan = appends.kept.loan ∙ begins.kept.loan;
            room = appends.kept.room ∙ begins.kept.room;
            untouched = appends.kept.untouched ∙ ap (past_line c.append.new.self.len) begins.bytes;
          };
    } in
    record { answer = feeds; within = search rules; onward = search rules; lasting = so_far_fed _ _ _ _ feeds }
