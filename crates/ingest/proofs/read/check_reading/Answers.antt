use Rattle.std.proofs.Common.{◌≡◌, Err, sym, ap, ◌∙◌, arith}
use Rattle.std.proofs.lemmas.Result.{err_from_is_err_and}
use Rattle.std.proofs.lemmas.Bool.{cond-true, cond-false, lt-ltb, le-ltb}
use Rattle.ring.specs.Checks.{verdict}
use Rattle.ring.proofs.Verdicts.{passed_from_ok, verdict-passed, verdict_refused}
use Rattle.layout.specs.Layout.{shape}
use Rattle.layout.specs.Shape.{columns, capacity}
use Rattle.ingest.specs.declared.fault.JaggedIngestError.TheVariants.{BufferTooShort}
use Rattle.ingest.specs.Charges.{outcome}
use Rattle.ingest.specs.Reading.{columns_checks}
use Rattle.ingest.specs.Vector.{buffer_checks}
use Rattle.ingest.proofs.Passings.{read_goes}
use Rattle.ingest.proofs.Told.{in_order}
use Rattle.ingest.proofs.read.check_reading.Goals as goal

pub returns-in_err-check_columns-clause-answer : goal.returns-in_err-check_columns-clause-answer
returns-in_err-check_columns-clause-answer c =
    let S = shape c.args.layout.now in
    let t = c.args.table.now in
    let n = c.args.extent.cells in
    let m = c.args.extent.words in
    let same : c.args.sources ≡ columns S = omega arith in
    let goes = read_goes S t c.args.sources n m c.args.room same (in_order t c.args.sources c.check.result c.in_ok-ordered.ordered c.check.ensures.answer c.in_ok-ordered.was) in
    let told = ap (λ r. verdict (columns_checks S r n m) tt) (sym c.in_ok-ordered.ensures.same.0) ∙ sym c.check_columns.ensures in
    let q = err_from_is_err_and c.from_residual-in_err-check_columns.result c.from_residual-in_err-check_columns.ensures.1 in
    ap outcome q.1 ∙ ap Err q.2 ∙ sym (goes ∙ verdict_refused (columns_checks S t n m) (buffer_checks S c.args.room) tt tt _ (told ∙ c.in_err-check_columns.was))

pub returns-then-room-required-clause-answer : goal.returns-then-room-required-clause-answer
returns-then-room-required-clause-answer c =
    let S = shape c.args.layout.now in
    let t = c.args.table.now in
    let n = c.args.extent.cells in
    let m = c.args.extent.words in
    let same : c.args.sources ≡ columns S = omega arith in
    let goes = read_goes S t c.args.sources n m c.args.room same (in_order t c.args.sources c.check.result c.in_ok-ordered.ordered c.check.ensures.answer c.in_ok-ordered.was) in
    let told = ap (λ r. verdict (columns_checks S r n m) tt) (sym c.in_ok-ordered.ensures.same.0) ∙ sym c.check_columns.ensures in
    let passed = passed_from_ok (columns_checks S t n m) tt _ (told ∙ c.in_ok-check_columns.was) in
    ap (λ k. Err (BufferTooShort k c.args.room)) c.dense_capacity-required.ensures
    ∙ sym (goes ∙ verdict-passed (columns_checks S t n m) (buffer_checks S c.args.room) tt passed ∙ cond-true _ _ _ (lt-ltb c.args.room (capacity S) (omega arith)))

pub returns-clause-answer : goal.returns-clause-answer
returns-clause-answer c =
    let S = shape c.args.layout.now in
    let t = c.args.table.now in
    let n = c.args.extent.cells in
    let m = c.args.extent.words in
    let same : c.args.sources ≡ columns S = omega arith in
    let goes = read_goes S t c.args.sources n m c.args.room same (in_order t c.args.sources c.check.result c.in_ok-ordered.ordered c.check.ensures.answer c.in_ok-ordered.was) in
    let told = ap (λ r. verdict (columns_checks S r n m) tt) (sym c.in_ok-ordered.ensures.same.0) ∙ sym c.check_columns.ensures in
    let passed = passed_from_ok (columns_checks S t n m) tt _ (told ∙ c.in_ok-check_columns.was) in
    sym (goes ∙ verdict-passed (columns_checks S t n m) (buffer_checks S c.args.room) tt passed ∙ cond-false _ _ _ (le-ltb c.args.room (capacity S) (omega arith)))
