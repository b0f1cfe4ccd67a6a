use Rattle.std.proofs.Common.{map, length}
use Rattle.layout.specs.Layout.{shape}
use Rattle.selector.specs.Selector.{Columns}
use Rattle.selector.proofs.fitted.FittedPoint.fill_columns.Given as goal

abbrev pub invariant-loop-y : goal.invariant-loop-y
invariant-loop-y g l =
    let v = g.R.Ring.value in
    Columns g.R.Ring.ops (shape l.self.layout.now) (length l.yielded) (map v l.self.row.now) (map v l.self.column.now) (map v l.cells)
