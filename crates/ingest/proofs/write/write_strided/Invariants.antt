use Rattle.std.proofs.Common.{◌≡◌, ℕ, ◌+◌, ◌*◌, ◌<◌, map, get_or}
use Rattle.ingest.proofs.write.write_strided.Given as goal

abbrev pub invariant-loop-row : goal.invariant-loop-row
invariant-loop-row g l = (k : ℕ) → k < l.row → get_or (map g.R.Ring.value l.out) k g.R.Ring.ops.nought ≡ get_or (map g.R.Ring.value l.cells) (l.place + (l.first + k * l.stride)) g.R.Ring.ops.nought
