use Rattle.std.proofs.Common.{[], ◌∷◌, map, Err, sym, ap, ◌∙◌, arith}
use Rattle.std.proofs.lemmas.Result.{err_from_is_err_and}
use Rattle.std.proofs.lemmas.Bool.{cond-true, cond-false, lt-ltb, le-ltb}
use Rattle.ring.specs.Checks.{verdict}
use Rattle.ring.proofs.Verdicts.{passed_from_ok, verdict-passed, verdict_refused}
use Rattle.ingest.specs.declared.fault.JaggedIngestError.TheVariants.{BufferTooShort, ColumnHeightOverflow}
use Rattle.ingest.specs.Asked.{room_check}
use Rattle.ingest.specs.Charges.{outcome}
use Rattle.ingest.specs.Leaves.{checks_at}
use Rattle.ingest.specs.Reading.{passed_up_check}
use Rattle.ingest.specs.Table.{height_of}
use Rattle.ingest.proofs.Passings.{up_passed, up_refused}
use Rattle.ingest.proofs.Pieces.{piece_goes}
use Rattle.ingest.proofs.Told.{fitting_ok, in_order}
use Rattle.ingest.proofs.Walks.{fitting}
use Rattle.ingest.proofs.piece.check_piece.Goals as goal

pub returns-in_err-check_leaves-clause-answer : goal.returns-in_err-check_leaves-clause-answer
returns-in_err-check_leaves-clause-answer c =
    let t = c.args.table.now in
    let n = c.args.extent.cells in
    let m = c.args.extent.words in
    let leaves = checks_at n m c.args.column t 0 in
    let same = c.in_ok-ordered.ensures.same.0 in
    let high = fitting_ok (ColumnHeightOverflow c.args.column) (height_of t 0) c.in_ok-rows.rows (ap (λ r. fitting (ColumnHeightOverflow c.args.column) (height_of r 0)) (sym same) ∙ sym c.height_of.ensures ∙ c.in_ok-rows.was) in
    let goes = piece_goes t c.args.column n m c.args.room (in_order t 1 c.check.result c.in_ok-ordered.ordered c.check.ensures.answer c.in_ok-ordered.was) high.0 in
    let told = ap (λ r. verdict (checks_at n m c.args.column r 0) tt) (sym same) ∙ sym c.check_leaves.ensures in
    let q = err_from_is_err_and c.from_residual-in_err-check_leaves.result c.from_residual-in_err-check_leaves.ensures.1 in
    ap outcome q.1 ∙ ap Err q.2 ∙ sym (goes ∙ verdict_refused (map passed_up_check leaves) (room_check (height_of t 0) c.args.room ∷ []) tt tt _ (up_refused leaves _ (told ∙ c.in_err-check_leaves.was)))

pub returns-then-room-rows-clause-answer : goal.returns-then-room-rows-clause-answer
returns-then-room-rows-clause-answer c =
    let t = c.args.table.now in
    let n = c.args.extent.cells in
    let m = c.args.extent.words in
    let leaves = checks_at n m c.args.column t 0 in
    let same = c.in_ok-ordered.ensures.same.0 in
    let high = fitting_ok (ColumnHeightOverflow c.args.column) (height_of t 0) c.in_ok-rows.rows (ap (λ r. fitting (ColumnHeightOverflow c.args.column) (height_of r 0)) (sym same) ∙ sym c.height_of.ensures ∙ c.in_ok-rows.was) in
    let goes = piece_goes t c.args.column n m c.args.room (in_order t 1 c.check.result c.in_ok-ordered.ordered c.check.ensures.answer c.in_ok-ordered.was) high.0 in
    let told = ap (λ r. verdict (checks_at n m c.args.column r 0) tt) (sym same) ∙ sym c.check_leaves.ensures in
    let passed = up_passed leaves (passed_from_ok leaves tt _ (told ∙ c.in_ok-check_leaves.was)) in
    ap (λ k. Err (BufferTooShort k c.args.room)) high.1 ∙ sym (goes ∙ verdict-passed (map passed_up_check leaves) (room_check (height_of t 0) c.args.room ∷ []) tt passed ∙ cond-true _ _ _ (lt-ltb c.args.room (height_of t 0) (omega (arith, high.1))))

pub returns-clause-answer : goal.returns-clause-answer
returns-clause-answer c =
    let t = c.args.table.now in
    let n = c.args.extent.cells in
    let m = c.args.extent.words in
    let leaves = checks_at n m c.args.column t 0 in
    let same = c.in_ok-ordered.ensures.same.0 in
    let high = fitting_ok (ColumnHeightOverflow c.args.column) (height_of t 0) c.in_ok-rows.rows (ap (λ r. fitting (ColumnHeightOverflow c.args.column) (height_of r 0)) (sym same) ∙ sym c.height_of.ensures ∙ c.in_ok-rows.was) in
    let goes = piece_goes t c.args.column n m c.args.room (in_order t 1 c.check.result c.in_ok-ordered.ordered c.check.ensures.answer c.in_ok-ordered.was) high.0 in
    let told = ap (λ r. verdict (checks_at n m c.args.column r 0) tt) (sym same) ∙ sym c.check_leaves.ensures in
    let passed = up_passed leaves (passed_from_ok leaves tt _ (told ∙ c.in_ok-check_leaves.was)) in
    sym (goes ∙ verdict-passed (map passed_up_check leaves) (room_check (height_of t 0) c.args.room ∷ []) tt passed ∙ cond-false _ _ _ (le-ltb c.args.room (height_of t 0) (omega (arith, high.1))))
