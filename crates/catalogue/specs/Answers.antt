-- How an answer of the meet is printed.
use Rattle.std.specs.Prelude.{ℕ, List, Some, None, codes, Option}
use Rattle.kinds.specs.declared.catalogue.Catalogue.{Catalogue}
use Rattle.kinds.specs.Catalogue.{word}

abbrev pub answer : Option Catalogue → List ℕ
answer (Some k) = word k
answer None = codes "none"
