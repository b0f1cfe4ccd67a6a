use Rattle.std.proofs.Common.{◌≡◌, ℕ, ◌<◌, get_or}
use Rattle.ingest.specs.Table.{height_of}
use Rattle.ingest.proofs.ordered.Ordered.put_heights.Given as goal

abbrev pub invariant-loop-column : goal.invariant-loop-column
invariant-loop-column l = (y : ℕ) → y < l.column → get_or l.height-items y 0 ≡ height_of l.self.records.now y
