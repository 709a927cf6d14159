-- The names of a path.
use Rattle.std.specs.Prelude.{ℕ, List, take}
use Rattle.reading.specs.declared.path.Path.{Path}

-- the numbers of its names
abbrev pub named : Path → List ℕ
named p = take p.len p.names
