use Rattle.std.proofs.Common.{rules, arith}
use Rattle.faults.proofs.Remaining.{remaining}
use Rattle.faults.proofs.Fault.layer.Goals as goal

pub returns-in_default : goal.returns-in_default
returns-in_default g c = remaining _ (g.Self.Fault.layered c.args.self) (λ t. search rules) (λ j. search rules)

pub returns-in_default-2 : goal.returns-in_default-2
returns-in_default-2 g c = remaining _ (g.Self.Fault.layered c.args.self) (λ t. search rules) (λ j. search rules)

pub returns-in_default-3 : goal.returns-in_default-3
returns-in_default-3 g c = remaining _ (g.Self.Fault.layered c.args.self) (λ t. search rules) (λ j. search rules)
