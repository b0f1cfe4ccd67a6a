use Rattle.std.proofs.Common.{◌-◌, length, Ok}
use Rattle.ingest.specs.Table.{leaves_of}
use Rattle.ingest.specs.Walks.{run_of, Tries}
use Rattle.ingest.proofs.ordered.Ordered.+try_fold.Given as goal

abbrev pub decreases-try_fold : goal.decreases-try_fold
decreases-try_fold g l = length l.self.now.records.now - l.from

abbrev pub invariant-loop-part : goal.invariant-loop-part
invariant-loop-part g l = Tries (goal.F-post g l.step) l.self.records.now l.fn.start (run_of (leaves_of l.self.records.now) l.from l.part) (Ok l.folded)
