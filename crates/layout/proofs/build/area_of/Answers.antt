use Rattle.std.proofs.Common.{◌≡◌, length, Ok, Err, sum, sym, ap, ◌∙◌, subst, arith}
use Rattle.std.specs.List.{range_with_len, flat_map}
use Rattle.std.proofs.lemmas.Nat.{one_shl}
use Rattle.std.proofs.lemmas.List.{take_all}
use Rattle.std.proofs.lemmas.Result.{err_from_is_err_and}
use Rattle.std.proofs.lemmas.List.Sums.{sum_by_more}
use Rattle.ring.specs.Checks.{Passed}
use Rattle.layout.specs.Plan.{column_checks, height_checks}
use Rattle.layout.proofs.Plans.{too_tall, too_much, column-passed}
use Rattle.ring.proofs.Verdicts.{verdict_all}
use Rattle.layout.proofs.build.area_of.Goals as goal

pub returns-then-height-maximum : goal.returns-then-height-maximum
returns-then-height-maximum c =
    let maximum = one_shl c.args.row_variables 64 c.requires in
    rw maximum (sym (too_tall c.args.row_variables c.args.heights.now c.loop-column.column c.loop-column-test.true c.loop-column.invariant.1 _ (omega (arith, maximum))))

pub returns-in_err-area : goal.returns-in_err-area
returns-in_err-area c =
    let maximum = one_shl c.args.row_variables 64 c.requires in
    let more = sum_by_more (λ x. x) c.args.heights.now c.loop-column.column 0 c.loop-column-test.true in
    let full = rw c.in_err-area.ensures.ok_part at c.checked_add.ensures in
    let fault = rw c.in_err-area.ensures.ok_part at c.in_err-area.ensures.value in
    let p = err_from_is_err_and c.from_residual.result c.from_residual.ensures.1 in
    p.1 ∙ ap Err p.2 ∙ fault
    ∙ sym (too_much c.args.row_variables c.args.heights.now c.loop-column.column c.loop-column-test.true c.loop-column.invariant.1 _ (omega (arith, maximum)) (grind (arith, more, full)))

pub loop-column-preserved : goal.loop-column-preserved
loop-column-preserved c =
    let maximum = one_shl c.args.row_variables 64 c.requires in
    let more = sum_by_more (λ x. x) c.args.heights.now c.loop-column.column 0 c.loop-column-test.true in
    let told = rw c.in_ok-area.ensures.ok_part at c.checked_add.ensures in
    (omega arith, column-passed c.args.row_variables c.args.heights.now c.loop-column.column c.loop-column-test.true c.loop-column.invariant.1 (omega (arith, maximum)) (omega arith))

pub returns : goal.returns
returns c =
    let hs = c.args.heights.now in
    let all = ap sum (take_all c.loop-column.column hs c.loop-column-test.false) in
    let end : c.loop-column.column ≡ length hs = omega arith in
    ap Ok (c.loop-column.invariant.0 ∙ all)
    ∙ sym (verdict_all (height_checks c.args.row_variables hs) (sum hs) (subst (λ n. Passed (flat_map (column_checks c.args.row_variables hs) (range_with_len 0 n))) end c.loop-column.invariant.1))
