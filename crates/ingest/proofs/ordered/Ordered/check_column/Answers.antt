use Rattle.std.proofs.Common.{Err, sym, ap, ◌∙◌}
use Rattle.std.proofs.lemmas.Result.{err_from_is_err_and}
use Rattle.std.proofs.lemmas.Bool.{cond-false, eq-eqb, not_from_true}
use Rattle.ring.proofs.Verdicts.{passed_from_ok, verdict_all}
use Rattle.ingest.specs.declared.fault.JaggedIngestError.TheVariants.{ColumnHeightOverflow}
use Rattle.ingest.specs.Leaves.{checks_at}
use Rattle.ingest.specs.Table.{height_of}
use Rattle.ingest.proofs.Passings.{up_passed, up_refused}
use Rattle.ingest.proofs.Told.{fitting_ok}
use Rattle.ingest.proofs.ordered.Ordered.check_column.Goals as goal

pub returns-in_err-check_leaves : goal.returns-in_err-check_leaves
returns-in_err-check_leaves c =
    let t = c.args.self.now.records.now in
    let q = err_from_is_err_and c.from_residual-in_err-check_leaves.result c.from_residual-in_err-check_leaves.ensures.1 in
    let high = fitting_ok (ColumnHeightOverflow c.args.column) (height_of t c.args.column) c.in_ok-actual.actual (sym c.height_of.ensures ∙ c.in_ok-actual.was) in
    let same = not_from_true _ (eq-eqb (height_of t c.args.column) c.args.expected (sym high.1 ∙ c.if-actual-expected.false)) in
    q.1 ∙ ap Err q.2
    ∙ sym (cond-false _ _ _ high.0 ∙ cond-false _ _ _ same ∙ up_refused (checks_at c.args.extent.cells c.args.extent.words c.args.column t c.args.column) _ (sym c.check_leaves.ensures ∙ c.in_err-check_leaves.was))

pub returns : goal.returns
returns c =
    let t = c.args.self.now.records.now in
    let high = fitting_ok (ColumnHeightOverflow c.args.column) (height_of t c.args.column) c.in_ok-actual.actual (sym c.height_of.ensures ∙ c.in_ok-actual.was) in
    let same = not_from_true _ (eq-eqb (height_of t c.args.column) c.args.expected (sym high.1 ∙ c.if-actual-expected.false)) in
    let leaves = checks_at c.args.extent.cells c.args.extent.words c.args.column t c.args.column in
    let passed = passed_from_ok leaves tt _ (sym c.check_leaves.ensures ∙ c.in_ok-check_leaves.was) in
    sym (cond-false _ _ _ high.0 ∙ cond-false _ _ _ same ∙ verdict_all _ tt (up_passed leaves passed))
