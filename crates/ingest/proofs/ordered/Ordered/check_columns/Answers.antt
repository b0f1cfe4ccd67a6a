use Rattle.std.proofs.Common.{◌≡◌, ℕ, List, Err, sym, ap, ◌∙◌, subst, arith}
use Rattle.std.specs.List.{range_with_len, flat_map}
use Rattle.std.proofs.lemmas.Result.{err_from_is_err_and}
use Rattle.ring.specs.Checks.{Check, Passed, verdict}
use Rattle.ring.proofs.Verdicts.{fails-at, passed_more, passed_from_ok, verdict_all}
use Rattle.layout.specs.Layout.{shape}
use Rattle.layout.specs.Shape.{columns, height}
use Rattle.ingest.specs.declared.fault.JaggedIngestError.{JaggedIngestError}
use Rattle.ingest.specs.Reading.{one_checks}
use Rattle.ingest.proofs.Passings.{expected_is}
use Rattle.ingest.proofs.ordered.Ordered.check_columns.Goals as goal

pub returns-in_err-check_column : goal.returns-in_err-check_column
returns-in_err-check_column c =
    let S = shape c.args.layout.now in
    let t = c.args.self.now.records.now in
    let i = c.loop-column.column in
    let f : ℕ → List (Check JaggedIngestError) = λ y. one_checks t c.args.extent.cells c.args.extent.words y (height S y) in
    let p = err_from_is_err_and c.from_residual.result c.from_residual.ensures.1 in
    let same = expected_is S i c.unwrap-expected.result (omega (arith, c.requires)) (sym c.column_height.ensures ∙ c.unwrap-expected.ensures) in
    let here = ap (λ e. verdict (one_checks t c.args.extent.cells c.args.extent.words i e) tt) (sym same) ∙ sym c.check_column.ensures ∙ c.in_err-check_column.was in
    p.1 ∙ ap Err p.2 ∙ sym (fails-at f (columns S) i tt tt _ (omega (arith, c.requires)) c.loop-column.invariant here)

pub loop-column-preserved : goal.loop-column-preserved
loop-column-preserved c =
    let S = shape c.args.layout.now in
    let t = c.args.self.now.records.now in
    let i = c.loop-column.column in
    let f : ℕ → List (Check JaggedIngestError) = λ y. one_checks t c.args.extent.cells c.args.extent.words y (height S y) in
    let same = expected_is S i c.unwrap-expected.result (omega (arith, c.requires)) (sym c.column_height.ensures ∙ c.unwrap-expected.ensures) in
    let here = ap (λ e. verdict (one_checks t c.args.extent.cells c.args.extent.words i e) tt) (sym same) ∙ sym c.check_column.ensures ∙ c.in_ok-check_column.was in
    passed_more f i c.loop-column.invariant (passed_from_ok (f i) tt tt here)

pub returns : goal.returns
returns c =
    let S = shape c.args.layout.now in
    let t = c.args.self.now.records.now in
    let i = c.loop-column.column in
    let f : ℕ → List (Check JaggedIngestError) = λ y. one_checks t c.args.extent.cells c.args.extent.words y (height S y) in
    let end : i ≡ columns S = omega (arith, c.requires) in
    sym (verdict_all (flat_map f (range_with_len 0 (columns S))) tt (subst (λ n. Passed (flat_map f (range_with_len 0 n))) end c.loop-column.invariant))
