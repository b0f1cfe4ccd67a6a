use Rattle.std.proofs.Common.{◌≡◌, ◌+◌, ◌-◌, map, sum}
use Rattle.std.specs.List.{range_with_len}
use Rattle.layout.specs.Layout.{shape}
use Rattle.layout.specs.Shape.{height, start, area, capacity}
use Rattle.ingest.specs.declared.record.ConversionPass.{ConversionPass}
use Rattle.ingest.specs.Charges.{charged_of, charge}
use Rattle.ingest.specs.Table.{pass_of}
use Rattle.ingest.proofs.ordered.Ordered.charge.Given as goal

abbrev pub invariant-loop-column : goal.invariant-loop-column
invariant-loop-column l =
    ((p : ConversionPass) → charged_of l.report p ≡ sum (map (λ y. charge p (pass_of l.self.records.now y) (height (shape l.layout) y)) (range_with_len 0 l.column)))
    × (l.report.shared + l.report.copied + l.report.gathered + l.report.widened ≡ start (shape l.layout) l.column)
    × (l.report.envelope ≡ capacity (shape l.layout) - area (shape l.layout))
