use Rattle.std.proofs.Common.{◌+◌, ◌*◌, map, length, get_or, sym, ap, ◌∙◌, arith}
use Rattle.std.proofs.lemmas.List.{get_or-map}
use Rattle.ingest.proofs.Written.{row_more, row_le}
use Rattle.ingest.proofs.write.write_strided.Goals as goal

pub loop-row-preserved : goal.loop-row-preserved
loop-row-preserved g c =
    let le = row_le c.loop-row.row (length c.args.out.now) c.args.stride (omega arith) in
    let last = c.requires (omega arith) in
    row_more g.R.Ring.value (λ k. get_or (map g.R.Ring.value c.args.cells.now) (c.args.place + (c.args.first + k * c.args.stride)) g.R.Ring.ops.nought) g.R.Ring.ops.nought c.loop-row.out c.loop-row.row c.index-cells-place.result (omega arith)
    (ap g.R.Ring.value c.index-cells-place.is ∙ sym (get_or-map g.R.Ring.value c.args.cells.now (c.args.place + (c.args.first + c.loop-row.row * c.args.stride)) c.index-cells-place.result g.R.Ring.ops.nought (omega arith)))
    c.loop-row.invariant
