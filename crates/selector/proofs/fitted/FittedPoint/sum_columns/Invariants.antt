use Rattle.std.proofs.Common.{◌≡◌, map, length}
use Rattle.layout.specs.Layout.{shape}
use Rattle.selector.specs.Sums.{sum_to}
use Rattle.selector.proofs.Selectors.{share}
use Rattle.selector.proofs.fitted.FittedPoint.sum_columns.Given as goal

abbrev pub invariant-loop-y : goal.invariant-loop-y
invariant-loop-y g l =
    let K = g.R.Ring.ops in
    let v = g.R.Ring.value in
    v l.sum ≡ sum_to K (length l.yielded) (share K g.met.R.Ring.lawful (shape l.self.layout.now) (map v l.self.row.now) (map v l.self.column.now) (map v l.dense))
