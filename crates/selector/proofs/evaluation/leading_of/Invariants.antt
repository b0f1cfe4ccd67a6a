use Rattle.std.proofs.Common.{◌≡◌, map}
use Rattle.selector.specs.Layers.{leading_to}
use Rattle.selector.proofs.evaluation.leading_of.Given as goal

abbrev pub invariant-loop-x : goal.invariant-loop-x
invariant-loop-x g l = g.R.Ring.value l.product ≡ leading_to g.R.Ring.ops (map g.R.Ring.value l.row) l.x-index
