use Rattle.std.proofs.Common.{◌≡◌, ◌+◌, ◌-◌, ◌/◌, ◌^◌, map, get_or, drop}
use Rattle.selector.proofs.Filled.{Filled}
use Rattle.selector.proofs.weights.weigh.Given as goal

abbrev pub invariant-loop-k : goal.invariant-loop-k
invariant-loop-k g l =
    Filled g.R.Ring.ops g.met.R.Ring.lawful (get_or (map g.R.Ring.value l.initial.buffer) 0 g.R.Ring.ops.nought) (map g.R.Ring.value l.point) l.k ((l.count - 1) / 2 ^ (l.width - l.k) + 1) (map g.R.Ring.value l.buffer)
    × (drop l.count l.buffer ≡ drop l.count l.initial.buffer)
