use Rattle.std.proofs.Common.{◌≡◌, ◌∙◌, subst, Some, Option}
use Rattle.names.specs.declared.spelling.Spelling.{Spelling}
use Rattle.names.specs.Spellings.{spelt, SpeltAs}
use Rattle.showing.proofs.Putting.{adds_then, adds_as}
use Rattle.showing.proofs.writing.Output.put_naming.Goals as goal

pub returns : goal.returns
returns c =
    let named : SpeltAs c.args.name (Some c.unwrap-spelling.result) = subst (λ (o : Option Spelling). SpeltAs c.args.name o) c.unwrap-spelling.ensures c.spelling.ensures.spelt in
    let is : c.as_bytes.result.now ≡ spelt c.args.name = c.as_bytes.ensures ∙ named in
    adds_then c.put.ensures (adds_then (adds_as is c.put_all.ensures) c.put-2.ensures)
