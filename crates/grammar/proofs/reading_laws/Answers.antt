use Rattle.grammar.proofs.Right.{accepts, refuses}
use Rattle.grammar.proofs.ByRules.{by_rules, end_by_rules}
use Rattle.grammar.proofs.Least.{refuses_least, accepts_others}
use Rattle.grammar.proofs.Points.{points}
use Rattle.grammar.proofs.Ranges.{range_is_no_kind}
use Rattle.grammar.proofs.reading_laws.Goals as goal

pub returns : goal.returns
returns g c =
    record {
      accepts = accepts;
      others = accepts_others;
      least = refuses_least;
      points = points;
      grammar = refuses;
      ranges = range_is_no_kind;
      rules = by_rules;
      end = end_by_rules;
    }
