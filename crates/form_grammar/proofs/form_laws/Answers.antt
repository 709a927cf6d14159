use Rattle.form_grammar.proofs.Right.{accepts, refuses}
use Rattle.form_grammar.proofs.ByRules.{by_rules, end_by_rules}
use Rattle.form_grammar.proofs.Least.{refuses_least, accepts_others}
use Rattle.form_grammar.proofs.Room.{kind_has_room}
use Rattle.form_grammar.proofs.form_laws.Goals as goal

pub returns : goal.returns
returns g c =
    record {
      accepts = accepts;
      others = accepts_others;
      least = refuses_least;
      grammar = refuses;
      rules = by_rules;
      end = end_by_rules;
      room = kind_has_room;
    }
