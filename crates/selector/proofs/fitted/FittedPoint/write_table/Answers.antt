use Rattle.std.proofs.Common.{◌+◌, ◌-◌, ◌∙◌, arith, length-take, length-drop}
use Rattle.layout.specs.Layout.{shape}
use Rattle.layout.specs.Shape.{start, columns, area}
use Rattle.layout.proofs.Shapes.{start_more, area-start}
use Rattle.selector.proofs.Places.{start_mono, map_below, map_in}
use Rattle.selector.proofs.fitted.FittedPoint.write_table.Goals as goal

pub returns : goal.returns
returns g c =
    let K = g.R.Ring.ops in
    let v = g.R.Ring.value in
    let S = shape c.args.self.now.layout.now in
    let lawful = c.fill_columns.ensures.lawful in
    let room = lawful.covered in
    record {
      table = record {
        live = λ y r inside short.
            let next = start_more S y inside in
            let last = start_mono S (y + 1) (columns S) (omega arith) (omega arith) in
            map_below v _ _ c.fill_columns.new.cells c.blank.new.cells (omega arith) (start S y + r) K.nought (omega (arith, area-start S)) ∙ c.fill_columns.ensures.live y r inside short;
        padding = λ i from to.
            map_in v _ _ c.fill_columns.new.cells c.blank.new.cells (omega arith) (i - area S) i K.nought (omega arith) (omega (arith, simp (length-take, length-drop) at c.blank.auto.cells)) ∙ c.blank.ensures (i - area S) (simp (length-take, length-drop) (omega arith));
      };
      lawful = lawful;
    }
