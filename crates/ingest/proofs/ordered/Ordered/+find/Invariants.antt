use Rattle.std.proofs.Common.{◌≡◌, ◌-◌, ◌++◌, length}
use Rattle.ingest.specs.Found.{found}
use Rattle.ingest.specs.Table.{leaves_of}
use Rattle.ingest.specs.Walks.{run_of}
use Rattle.ingest.proofs.ordered.Ordered.+find.Given as goal

abbrev pub decreases-find : goal.decreases-find
decreases-find l = length l.self.now.records.now - l.record

abbrev pub invariant-loop-part : goal.invariant-loop-part
invariant-loop-part l = found l.leaves ≡ found l.initial.leaves ++ run_of (leaves_of l.self.records.now) l.from l.part
