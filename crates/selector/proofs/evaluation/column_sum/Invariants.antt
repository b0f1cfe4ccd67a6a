use Rattle.std.proofs.Common.{◌≡◌, Bool, map}
use Rattle.selector.specs.Layers.{state_at}
use Rattle.selector.proofs.Runs.{at_layer}
use Rattle.selector.proofs.evaluation.column_sum.Given as goal

abbrev pub invariant-loop-layer : goal.invariant-loop-layer
invariant-loop-layer g l =
    let K = g.R.Ring.ops in
    let v = g.R.Ring.value in
    (carry less : Bool) → state_at K v l.states carry less ≡ at_layer K g.met.R.Ring.lawful (map v l.row) (map v l.dense) l.start l.end l.layer carry less
