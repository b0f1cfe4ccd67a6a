use Rattle.std.proofs.Common.{◌+◌, ◌/◌, ◌%◌, ◌^◌, cond, eqb, get_or, ap, ◌∙◌, arith}
use Rattle.std.proofs.lemmas.Nat.{and_mask}
use Rattle.ingest.proofs.Written.{row_more}
use Rattle.ingest.specs.Rows.{bit_at}
use Rattle.ingest.proofs.write.write_bits.Goals as goal

pub loop-row-preserved : goal.loop-row-preserved
loop-row-preserved g c =
    row_more g.R.Ring.value (λ k. cond (bit_at c.args.words.now c.args.place k) g.R.Ring.ops.one g.R.Ring.ops.nought) g.R.Ring.ops.nought c.loop-row.out c.loop-row.row c.from_bool.result (omega arith)
    (c.from_bool.ensures ∙ ap (λ n. cond (eqb n 1) g.R.Ring.ops.one g.R.Ring.ops.nought) (and_mask (get_or c.args.words.now (c.args.place + c.loop-row.row / 64) 0 / 2 ^ (c.loop-row.row % 64)) 1))
    c.loop-row.invariant
