use Rattle.std.proofs.Common.{◌≡◌, ◌*◌, map, drop}
use Rattle.selector.proofs.Spreads.{Half}
use Rattle.selector.proofs.weights.spread_pairs.Given as goal

abbrev pub invariant-loop-i : goal.invariant-loop-i
invariant-loop-i g l =
    Half g.R.Ring.ops g.met.R.Ring.lawful (g.R.Ring.value l.x) l.i l.half (map g.R.Ring.value l.initial.buffer) (map g.R.Ring.value l.buffer)
    × (drop (2 * l.half) l.buffer ≡ drop (2 * l.half) l.initial.buffer)
