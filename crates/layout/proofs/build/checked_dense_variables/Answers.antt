use Rattle.std.proofs.Common.{Err, sym, ap, ◌∙◌}
use Rattle.std.proofs.lemmas.Result.{err_from_is_err_and}
use Rattle.layout.proofs.Plans.{refused_heights, dense-decides}
use Rattle.layout.proofs.build.checked_dense_variables.Goals as goal

pub returns-in_err-area : goal.returns-in_err-area
returns-in_err-area c =
    let p = err_from_is_err_and c.from_residual-in_err-area.result c.from_residual-in_err-area.ensures.1 in
    let counts = sym c.check_counts.ensures ∙ c.in_ok-check_counts.was in
    let heights = sym c.area_of.ensures ∙ c.in_err-area.was in
    p.1 ∙ ap Err p.2 ∙ sym (refused_heights c.args.row_variables c.args.heights.now c.args.minimum _ _ counts heights)

pub returns : goal.returns
returns c =
    let counts = sym c.check_counts.ensures ∙ c.in_ok-check_counts.was in
    let heights = sym c.area_of.ensures ∙ c.in_ok-area.was in
    c.dense_for.ensures ∙ sym (dense-decides c.args.row_variables c.args.heights.now c.args.minimum _ counts heights)
