use Rattle.std.proofs.Common.{◌≡◌, ◌+◌, take, sum, sym, refl, ap, ◌∙◌, arith}
use Rattle.std.proofs.lemmas.List.Sums.{sum_by_more, sum_by-take-le}
use Rattle.layout.specs.Shape.{max_columns}
use Rattle.layout.proofs.Shapes.{zeros}
use Rattle.layout.proofs.build.boundaries_of.Goals as goal

pub loop-column-init : goal.loop-column-init
loop-column-init c =
    (refl, refl, (λ y h. let e : y ≡ 0 = omega arith in zeros (max_columns + 1) y ∙ sym (ap (λ z. sum (take z c.args.heights.now)) e)), (λ y h. zeros (max_columns + 1) y))

pub overflow_add-area : goal.overflow_add-area
overflow_add-area c =
    let hs = c.args.heights.now in
    omega (arith, sum_by_more (λ x. x) hs c.loop-column.column 0 c.loop-column-test.true, sum_by-take-le (λ x. x) hs (c.loop-column.column + 1))
