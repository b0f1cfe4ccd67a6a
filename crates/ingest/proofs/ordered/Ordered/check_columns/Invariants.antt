use Rattle.std.specs.List.{range_with_len, flat_map}
use Rattle.ring.specs.Checks.{Passed}
use Rattle.layout.specs.Layout.{shape}
use Rattle.layout.specs.Shape.{height}
use Rattle.ingest.specs.Reading.{one_checks}
use Rattle.ingest.proofs.ordered.Ordered.check_columns.Given as goal

abbrev pub invariant-loop-column : goal.invariant-loop-column
invariant-loop-column l = Passed (flat_map (λ y. one_checks l.self.records.now l.extent.cells l.extent.words y (height (shape l.layout) y)) (range_with_len 0 l.column))
