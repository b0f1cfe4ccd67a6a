use Rattle.std.proofs.Common.{map, length, replicate, sym, ◌∙◌, arith}
use Rattle.std.proofs.lemmas.List.{ext_get_or, get_or-replicate, length-map, length-replicate}
use Rattle.ingest.proofs.Written.{row_more}
use Rattle.ingest.proofs.read.clear.Goals as goal

pub loop-cell-preserved : goal.loop-cell-preserved
loop-cell-preserved g c =
    row_more g.R.Ring.value (λ k. g.R.Ring.ops.nought) g.R.Ring.ops.nought c.loop-cell.out c.loop-cell.cell-index c.zero.result (omega arith) c.zero.ensures c.loop-cell.invariant

pub returns : goal.returns
returns g c =
    let nought = g.R.Ring.ops.nought in
    let n = length c.args.out.now in
    let long = length-map c.loop-cell.out g.R.Ring.value in
    ext_get_or nought (map g.R.Ring.value c.loop-cell.out) (replicate n nought) (omega (arith, length-replicate n nought))
    (λ i h. c.loop-cell.invariant i (omega arith) ∙ sym (get_or-replicate n i nought nought (omega arith)))
