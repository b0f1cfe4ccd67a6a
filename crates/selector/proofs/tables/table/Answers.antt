use Rattle.std.proofs.Common.{map, drop, ap, arith, length-take}
use Rattle.std.proofs.lemmas.List.{map-append, length-map}
use Rattle.layout.specs.Layout.{shape}
use Rattle.layout.specs.Shape.{capacity}
use Rattle.selector.proofs.Places.{table_front}
use Rattle.selector.proofs.tables.table.Goals as goal

pub returns-clause-cells : goal.returns-clause-cells
returns-clause-cells g c =
    let v = g.R.Ring.value in
    let fitted = c.in_ok-fitted.fitted in
    let told = c.in_ok-fitted.ensures in
    let cells = c.write_table.new.cells in
    rw (map-append v cells (drop c.dense_capacity.result c.args.buffer.now), ← told.layout, ← told.row, ← told.column)
    (table_front g.R.Ring.ops (shape fitted.layout.now) (map v fitted.row.now) (map v fitted.column.now) (map v cells) (map v (drop c.dense_capacity.result c.args.buffer.now)) c.write_table.ensures.lawful (omega (arith, length-map cells v, simp length-take at c.write_table.auto.cells, c.dense_capacity.ensures, ap (λ l. capacity (shape l)) told.layout, c.in_ok-check_room.ensures.room)) c.write_table.ensures.table)
