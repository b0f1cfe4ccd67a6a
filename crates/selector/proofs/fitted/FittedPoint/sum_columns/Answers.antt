use Rattle.std.proofs.Common.{◌≡◌, ◌+◌, ◌^◌, map, length, sym, ap, ◌∙◌, ap₂, add-one, arith}
use Rattle.std.proofs.lemmas.Iterator.Consumers.{YieldsList-turn, YieldsList-end}
use Rattle.std.proofs.lemmas.List.{length-map, length_push}
use Rattle.layout.specs.Layout.{shape}
use Rattle.layout.specs.Shape.{start, columns}
use Rattle.selector.specs.Layers.{column_sum}
use Rattle.selector.specs.Sums.{sum_to}
use Rattle.selector.proofs.Places.{Column, column_of, yields_intervals, length-intervals}
use Rattle.selector.proofs.Runs.{leading_take}
use Rattle.selector.proofs.Selectors.{share, selector_shares, extends}
use Rattle.selector.proofs.fitted.FittedPoint.sum_columns.Goals as goal
use Rattle.selector.proofs.fitted.FittedPoint.sum_columns.Goals.{In-Some}
use Rattle.selector.proofs.fitted.FittedPoint.sum_columns.Given.{Over}

-- the column of a turn
turn : (g : Over) (c : In-Some g) → (c.in-Some.y ≡ length c.loop-y.yielded) × Column (shape c.args.self.now.layout.now) c.in-Some.y c.in-Some.start.now c.in-Some.end.now
turn g c =
    let b = c.cumulative_heights-boundaries in
    column_of (shape c.args.self.now.layout.now) (length c.loop-y.yielded) (c.in-Some.y, (c.in-Some.start.now, c.in-Some.end.now)) b.result.now b.ensures.lawful b.ensures.value
    (YieldsList-turn (yields_intervals b.result.now c.into_iter-y-iterator.ensures.into_iter_gives c.enumerate-y-items.ensures.source c.enumerate-y-items.ensures.count c.zip.ensures.first c.iter.ensures.rest c.zip.ensures.second.0) c.loop-y.yielded _ c.loop-y.yielded_by _ c.next.new.self (c.in-Some.y, (c.in-Some.start, c.in-Some.end)) c.in-Some.is c.next.ensures.steps)

pub column_sum-rows-requires : goal.column_sum-rows-requires
column_sum-rows-requires g c =
    let col = (turn g (goal.at.column_sum-rows-requires g c).In-Some).1 in
    let fit = c.cumulative_heights-boundaries.ensures.lawful.dense_fit in
    record {
      few = omega arith;
      ordered = col.ordered;
      inside = omega (arith, col.within, ap (λ n. 2 ^ n) c.requires.dense);
      tall = omega (arith, col.tall, ap (λ n. 2 ^ n) c.args.self.now.names_rows);
      leading = c.leading_of-leading.ensures ∙ leading_take g.R.Ring.ops g.R.Ring.value c.args.self.now.row.now c.saturating_sub-above.result _ (omega arith) c.saturating_sub-above.ensures;
    }

pub weight_at-requires-clause-within : goal.weight_at-requires-clause-within
weight_at-requires-clause-within g c =
    let col = (turn g (goal.at.weight_at-requires-clause-within g c).In-Some).1 in
    omega (arith, col.inside, c.args.self.now.names_columns)

pub loop-y-preserved : goal.loop-y-preserved
loop-y-preserved g c =
    let K = g.R.Ring.ops in
    let L = g.met.R.Ring.lawful in
    let v = g.R.Ring.value in
    let S = shape c.args.self.now.layout.now in
    let row = map v c.args.self.now.row.now in
    let column = map v c.args.self.now.column.now in
    let dense = map v c.args.dense.now in
    let here = turn g (goal.at.loop-y-preserved g c).In-Some in
    let col = here.1 in
    let part : v c.column_sum-rows.result ≡ column_sum K row dense (start S c.in-Some.y) (start S (c.in-Some.y + 1)) = c.column_sum-rows.ensures ∙ ap₂ (column_sum K row dense) col.from col.to in
    c.plus-sum.ensures
    ∙ ap₂ K.plus c.loop-y.invariant (c.times.ensures ∙ ap₂ K.times c.weight_at.ensures part ∙ ap (share K L S row column dense) here.0)
    ∙ ap (λ n. sum_to K n (share K L S row column dense)) (sym (length_push c.loop-y.yielded _ ∙ add-one _))

pub returns : goal.returns
returns g c =
    let K = g.R.Ring.ops in
    let L = g.met.R.Ring.lawful in
    let v = g.R.Ring.value in
    let S = shape c.args.self.now.layout.now in
    let row = map v c.args.self.now.row.now in
    let column = map v c.args.self.now.column.now in
    let dense = map v c.args.dense.now in
    let b = c.cumulative_heights-boundaries in
    let end = YieldsList-end (yields_intervals b.result.now c.into_iter-y-iterator.ensures.into_iter_gives c.enumerate-y-items.ensures.source c.enumerate-y-items.ensures.count c.zip.ensures.first c.iter.ensures.rest c.zip.ensures.second.0) c.loop-y.yielded _ c.loop-y.yielded_by _ c.next.new.self c.in-None.is c.next.ensures.steps in
    let all : length c.loop-y.yielded ≡ columns S = end.1 ∙ length-intervals S b.result.now b.ensures.value in
    record {
      sum = c.loop-y.invariant ∙ ap (λ n. sum_to K n (share K L S row column dense)) all ∙ selector_shares K L S row column dense;
      extends = extends K L S row column dense b.ensures.lawful (length-map c.args.dense.now v ∙ c.requires.dense);
    }
