use Rattle.std.proofs.Common.{rules}
use Rattle.std.specs.Slice.Iter.{iter_rest}
use Rattle.reading.proofs.Marking.{first_found}
use Rattle.reading.proofs.drafting.lookup.Lookup.first_undescribed.Goals as goal

pub returns : goal.returns
returns c =
    first_found c.args.self.now.described _ _ c.args.slots.now (λ a o q k. search rules) (λ x o q k. search rules) iter_rest c.iter.ensures.runs c.iter.result c.iter.ensures.rest _
    c.find_map.ensures.runs
