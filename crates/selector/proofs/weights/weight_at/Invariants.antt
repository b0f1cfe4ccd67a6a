use Rattle.std.proofs.Common.{◌≡◌, map, length}
use Rattle.selector.specs.Weights.{eq}
use Rattle.selector.proofs.Fronts.{above}
use Rattle.selector.proofs.weights.weight_at.Given as goal

-- what is multiplied so far, by the weight of the coordinates that are left
abbrev pub invariant-loop-layer : goal.invariant-loop-layer
invariant-loop-layer g l =
    let K = g.R.Ring.ops in
    let point = map g.R.Ring.value l.point in
    K.times (g.R.Ring.value l.product) (above K g.met.R.Ring.lawful point l.index (length l.yielded)) ≡ eq K point l.index
