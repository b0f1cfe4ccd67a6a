use Rattle.std.proofs.Common.{map, length, Err, sym, refl, ap, ◌∙◌, subst, arith, rules}
use Rattle.std.proofs.lemmas.Result.{MatchResult-from_err, err_from_is_err_and, IfOk-from_err}
use Rattle.ring.specs.Bytes.{over}
use Rattle.ring.specs.Checks.{verdict}
use Rattle.ring.proofs.Verdicts.{verdict_all, verdict_err}
use Rattle.ingest.specs.declared.fault.JaggedIngestError.TheVariants.{ColumnHeightOverflow}
use Rattle.ingest.specs.Charges.{outcome}
use Rattle.ingest.specs.Cuts.{RowLaws}
use Rattle.ingest.specs.Found.{found}
use Rattle.ingest.specs.Piece.{piece_checks}
use Rattle.ingest.specs.Table.{height_of}
use Rattle.ingest.proofs.Cuts.{piece_by_cuts, piece_by_rows, row_laws}
use Rattle.ingest.proofs.Pieces.{brought}
use Rattle.ingest.proofs.Walks.{fits, fitting}
use Rattle.ingest.proofs.piece.write_piece.Goals as goal

pub returns-in_err-ordered : goal.returns-in_err-ordered
returns-in_err-ordered g c =
    let t = c.args.table.now in
    let n = length c.args.cells.now in
    let room = length c.args.out.now in
    let q = err_from_is_err_and c.from_residual.result c.from_residual.ensures.1 in
    let told = ap (λ i. verdict (piece_checks t c.args.column i (length c.args.words.now) room) tt) (sym c.extent.ensures.cells) ∙ ap (λ i. verdict (piece_checks t c.args.column c.extent.result.cells i room) tt) (sym c.extent.ensures.words) ∙ sym c.check_piece.ensures.answer in
    record {
      answer = q.1 ∙ ap Err q.2 ∙ sym (verdict_err (piece_checks t c.args.column n (length c.args.words.now) room) (height_of t 0) tt _ (told ∙ ap outcome c.in_err-ordered.was));
      written = MatchResult-from_err c.from_residual.result _ _ c.from_residual.ensures.0 (λ y. refl);
      kept = refl;
      same = IfOk-from_err c.from_residual.result _ c.from_residual.ensures.0;
      cuts = IfOk-from_err c.from_residual.result _ c.from_residual.ensures.0;
      laws = IfOk-from_err c.from_residual.result _ c.from_residual.ensures.0;
    }

pub write_leaves-requires : goal.write_leaves-requires
write_leaves-requires g c =
    let o = c.in_ok-ordered.ordered in
    let piece = brought g.R.Ring.ops (map g.R.Ring.value c.args.cells.now) c.args.words.now c.args.table.now o.records.now (found c.find_all.new.leaves) c.args.column (length c.args.cells.now) (length c.args.words.now) c.extent.result.cells c.extent.result.words (length c.args.out.now) o.sources c.check_piece.result o c.check_piece.ensures.answer c.in_ok-ordered.was c.in_ok-ordered.ensures.same.0 c.in_ok-ordered.ensures.same.1 c.extent.ensures.cells c.extent.ensures.words c.find_all.ensures in
    record { sits = piece.sits; room = omega (arith, piece.tall, piece.fits) }

pub returns : goal.returns
returns g c =
    let t = c.args.table.now in
    let words = c.args.words.now in
    let cells = map g.R.Ring.value c.args.cells.now in
    let old = map g.R.Ring.value c.args.out.now in
    let out = map g.R.Ring.value c.write_leaves.new.out in
    let o = c.in_ok-ordered.ordered in
    let piece = brought g.R.Ring.ops cells words t o.records.now (found c.find_all.new.leaves) c.args.column (length c.args.cells.now) (length words) c.extent.result.cells c.extent.result.words (length c.args.out.now) o.sources c.check_piece.result o c.check_piece.ensures.answer c.in_ok-ordered.was c.in_ok-ordered.ensures.same.0 c.in_ok-ordered.ensures.same.1 c.extent.ensures.cells c.extent.ensures.words c.find_all.ensures in
    let wrote = c.write_leaves.ensures.written ∙ ap (λ l. over l old) piece.rows_are in
    let told = c.write_leaves.ensures.told ∙ piece.tall in
    let high = ap (λ u. fitting (ColumnHeightOverflow c.args.column) (height_of u 0)) c.in_ok-ordered.ensures.same.0 ∙ fits (ColumnHeightOverflow c.args.column) (height_of t 0) (omega (arith, piece.fits)) in
    let by_rows = piece_by_rows g.R.Ring.ops cells words t old out wrote in
    let cuts = piece_by_cuts g.R.Ring.ops cells words t old out by_rows in
    let laws = subst (RowLaws g.R.Ring.ops cells words) c.in_ok-ordered.ensures.same.0 (row_laws g.R.Ring.ops cells words o.records.now o.sound) in
    record {
      answer = search (rules, told, high) ∙ sym (verdict_all (piece_checks t c.args.column (length c.args.cells.now) (length words) (length c.args.out.now)) (height_of t 0) piece.passed);
      written = search (rules, wrote, high);
      same = search (rules, by_rows, high);
      cuts = search (rules, cuts, high);
      laws = search (rules, laws, high);
      kept = c.write_leaves.ensures.kept (height_of t 0) (omega (arith, c.write_leaves.ensures.told, piece.tall));
    }
