use Rattle.std.proofs.Common.{◌≡◌, ◌^◌, map, length, ap, ◌∙◌, arith}
use Rattle.std.proofs.lemmas.Iterator.Consumers.{YieldsList-turn, YieldsList-end}
use Rattle.std.proofs.lemmas.List.{length_push}
use Rattle.layout.specs.Layout.{shape}
use Rattle.layout.specs.Shape.{columns}
use Rattle.selector.proofs.Places.{Column, column_of, columns_more, yields_intervals, length-intervals}
use Rattle.selector.proofs.fitted.FittedPoint.fill_columns.Goals as goal
use Rattle.selector.proofs.fitted.FittedPoint.fill_columns.Goals.{In-Some}
use Rattle.selector.proofs.fitted.FittedPoint.fill_columns.Given.{Over}

-- the column of a turn
turn : (g : Over) (c : In-Some g) → (c.in-Some.y ≡ length c.loop-y.yielded) × Column (shape c.args.self.now.layout.now) c.in-Some.y c.in-Some.start.now c.in-Some.end.now
turn g c =
    let b = c.cumulative_heights-boundaries in
    column_of (shape c.args.self.now.layout.now) (length c.loop-y.yielded) (c.in-Some.y, (c.in-Some.start.now, c.in-Some.end.now)) b.result.now b.ensures.lawful b.ensures.value
    (YieldsList-turn (yields_intervals b.result.now c.into_iter-y-iterator.ensures.into_iter_gives c.enumerate-y-items.ensures.source c.enumerate-y-items.ensures.count c.zip.ensures.first c.iter.ensures.rest c.zip.ensures.second.0) c.loop-y.yielded _ c.loop-y.yielded_by _ c.next.new.self (c.in-Some.y, (c.in-Some.start, c.in-Some.end)) c.in-Some.is c.next.ensures.steps)

pub weight_at-weight-requires-clause-within : goal.weight_at-weight-requires-clause-within
weight_at-weight-requires-clause-within g c =
    let col = (turn g (goal.at.weight_at-weight-requires-clause-within g c).In-Some).1 in
    omega (arith, col.inside, c.args.self.now.names_columns)

pub fill_column-requires : goal.fill_column-requires
fill_column-requires g c =
    let col = (turn g (goal.at.fill_column-requires g c).In-Some).1 in
    record { ordered = col.ordered; room = omega (arith, col.within); tall = omega (arith, col.tall, ap (λ n. 2 ^ n) c.args.self.now.names_rows) }

pub loop-y-preserved : goal.loop-y-preserved
loop-y-preserved g c =
    let v = g.R.Ring.value in
    let here = turn g (goal.at.loop-y-preserved g c).In-Some in
    let push = length_push c.loop-y.yielded (c.in-Some.y, (c.in-Some.start, c.in-Some.end)) in
    λ z r below short. columns_more g.R.Ring.ops (shape c.args.self.now.layout.now) (map v c.args.self.now.row.now) (map v c.args.self.now.column.now) c.in-Some.y c.in-Some.start.now c.in-Some.end.now (map v c.loop-y.cells) (map v c.fill_column.new.cells) (v c.weight_at-weight.result) here.1 c.weight_at-weight.ensures (λ x q h k. c.loop-y.invariant x q (omega (arith, here.0)) k) c.fill_column.ensures.low c.fill_column.ensures.weights z r (omega (arith, push, here.0)) short

pub returns : goal.returns
returns g c =
    let S = shape c.args.self.now.layout.now in
    let b = c.cumulative_heights-boundaries in
    let end = YieldsList-end (yields_intervals b.result.now c.into_iter-y-iterator.ensures.into_iter_gives c.enumerate-y-items.ensures.source c.enumerate-y-items.ensures.count c.zip.ensures.first c.iter.ensures.rest c.zip.ensures.second.0) c.loop-y.yielded _ c.loop-y.yielded_by _ c.next.new.self c.in-None.is c.next.ensures.steps in
    let all : length c.loop-y.yielded ≡ columns S = end.1 ∙ length-intervals S b.result.now b.ensures.value in
    record {
      live = λ y r h k. c.loop-y.invariant y r (omega arith) k;
      lawful = b.ensures.lawful;
    }
