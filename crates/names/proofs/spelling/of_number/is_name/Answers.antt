use Rattle.std.proofs.Common.{ℕ, is_some, Some, None, Decides, Option, refl}
use Rattle.std.proofs.lemmas.Bool.{false≢true}
use Rattle.std.proofs.lemmas.Bool.Decides.{Decides-at}
use Rattle.names.specs.declared.spelling.Spelling.{Spelling}
use Rattle.names.specs.Names.{IsName}
use Rattle.names.specs.Spellings.{shown, Spells}
use Rattle.names.proofs.spelling.of_number.is_name.Goals as goal

-- a number is a name's exactly if it has a spelling
decides_spells : (n : ℕ) (o : Option Spelling) → Spells n o → Decides (is_some o) (IsName n)
decides_spells n (Some s) h = (λ _. record { bytes = shown s; name = h.0; numbered = h.1 }, λ _. refl)
decides_spells n None h = (λ e. absurd (false≢true e), λ is. absurd (h is))

pub returns : goal.returns
returns c =
    Decides-at c.is_some.result (is_some c.spelling.result) c.is_some.ensures (decides_spells c.args.number c.spelling.result c.spelling.ensures.answer)
