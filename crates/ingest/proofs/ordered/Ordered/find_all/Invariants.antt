use Rattle.std.proofs.Common.{◌≡◌}
use Rattle.ingest.specs.Found.{found}
use Rattle.ingest.specs.Table.{leaves_of}
use Rattle.ingest.specs.Walks.{run_of}
use Rattle.ingest.proofs.ordered.Ordered.find_all.Given as goal

abbrev pub invariant-loop-column : goal.invariant-loop-column
invariant-loop-column l = found l.leaves ≡ run_of (leaves_of l.self.records.now) 0 l.column
