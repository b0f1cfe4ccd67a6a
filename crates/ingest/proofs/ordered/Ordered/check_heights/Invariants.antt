use Rattle.ring.specs.Checks.{Passed}
use Rattle.ingest.specs.Asked.{overflow_checks}
use Rattle.ingest.proofs.ordered.Ordered.check_heights.Given as goal

abbrev pub invariant-loop-column : goal.invariant-loop-column
invariant-loop-column l = Passed (overflow_checks l.self.records.now l.column)
