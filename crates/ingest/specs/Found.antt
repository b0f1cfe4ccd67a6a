-- The leaves that were found. Assumes nothing.
use Rattle.std.specs.Prelude.{ℕ, List, take}
use Rattle.ingest.specs.declared.leaves.Leaves.{Leaves}

abbrev pub found : Leaves → List ℕ
found l = take l.count l.numbers
