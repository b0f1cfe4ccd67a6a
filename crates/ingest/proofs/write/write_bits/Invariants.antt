use Rattle.std.proofs.Common.{◌≡◌, ℕ, ◌<◌, cond, map, get_or}
use Rattle.ingest.specs.Rows.{bit_at}
use Rattle.ingest.proofs.write.write_bits.Given as goal

abbrev pub invariant-loop-row : goal.invariant-loop-row
invariant-loop-row g l = (k : ℕ) → k < l.row → get_or (map g.R.Ring.value l.out) k g.R.Ring.ops.nought ≡ cond (bit_at l.words l.place k) g.R.Ring.ops.one g.R.Ring.ops.nought
