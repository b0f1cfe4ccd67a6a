use Rattle.std.proofs.Common.{map, subst}
use Rattle.selector.specs.Selector.{Table}
use Rattle.export.proofs.selecting.table_of.Goals as goal

pub returns-clause-cells : goal.returns-clause-cells
returns-clause-cells g c =
    subst
    (λ S. Table g.R.Ring.ops S (map g.R.Ring.value c.args.point.now.row.now) (map g.R.Ring.value c.args.point.now.column.now) (map g.R.Ring.value c.table.new.buffer))
    c.in_ok-layout.ensures.shape
    c.in_ok-table.ensures.cells
