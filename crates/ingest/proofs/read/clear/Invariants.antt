use Rattle.std.proofs.Common.{◌≡◌, ℕ, ◌<◌, map, get_or}
use Rattle.ingest.proofs.read.clear.Given as goal

abbrev pub invariant-loop-cell : goal.invariant-loop-cell
invariant-loop-cell g l = (k : ℕ) → k < l.cell-index → get_or (map g.R.Ring.value l.out) k g.R.Ring.ops.nought ≡ g.R.Ring.ops.nought
