use Rattle.std.proofs.Common.{◌≡◌, ◌-◌, ◌≤◌, map, length, take, drop, replicate, Err, sym, refl, ap, ◌∙◌, subst, arith, rules}
use Rattle.std.proofs.lemmas.List.{length-drop, length-map, length-replicate, length-take-le}
use Rattle.std.proofs.lemmas.Slice.{drop-put_mid}
use Rattle.std.proofs.lemmas.Result.{MatchResult-from_err, err_from_is_err_and, IfOk-from_err}
use Rattle.ring.specs.Bytes.{over}
use Rattle.ring.specs.Checks.{verdict}
use Rattle.layout.specs.Layout.{shape}
use Rattle.layout.specs.Shape.{columns, area, capacity}
use Rattle.layout.proofs.Shapes.{all_lawful}
use Rattle.ingest.specs.Charges.{outcome}
use Rattle.ingest.specs.Cuts.{RowLaws}
use Rattle.ingest.specs.Found.{found}
use Rattle.ingest.specs.Reading.{ColumnsReport, RowsPlaced, read_checks}
use Rattle.ingest.specs.Rows.{rows_of}
use Rattle.ingest.specs.Walks.{run_of}
use Rattle.ingest.proofs.Cuts.{columns_by_cuts, columns_by_rows, row_laws}
use Rattle.ingest.proofs.Placed.{Ready, heights_count, ready}
use Rattle.ingest.proofs.Written.{leaf_more}
use Rattle.ingest.proofs.read.read_columns.Given.{Over}
use Rattle.ingest.proofs.read.read_columns.Goals as goal
use Rattle.ingest.proofs.read.read_columns.Goals.{After-find_all}

-- what is known once every check has passed and the leaves are found
given : (g : Over) (c : After-find_all g) → Ready g.R.Ring.ops (map g.R.Ring.value c.args.cells.now) c.args.words.now (shape c.args.layout.now) c.args.table.now c.in_ok-ordered.ordered.records.now (found c.find_all.new.leaves) c.args.sources (length c.args.cells.now) (length c.args.words.now) (length c.args.buffer.now)
given g c =
    let S = shape c.args.layout.now in
    let o = c.in_ok-ordered.ordered in
    ready g.R.Ring.ops (map g.R.Ring.value c.args.cells.now) c.args.words.now S c.args.table.now o.records.now (found c.find_all.new.leaves) c.args.sources (length c.args.cells.now) (length c.args.words.now) c.extent.result.cells c.extent.result.words (length c.args.buffer.now) o.sources c.check_reading.result o c.check_reading.ensures.answer c.in_ok-ordered.was c.in_ok-ordered.ensures.same.0 c.in_ok-ordered.ensures.same.1 c.extent.ensures.cells c.extent.ensures.words c.find_all.ensures

pub returns-in_err-ordered : goal.returns-in_err-ordered
returns-in_err-ordered g c =
    let S = shape c.args.layout.now in
    let t = c.args.table.now in
    let b = length c.args.buffer.now in
    let q = err_from_is_err_and c.from_residual.result c.from_residual.ensures.1 in
    let told = ap (λ i. verdict (read_checks S t c.args.sources i (length c.args.words.now) b) tt) (sym c.extent.ensures.cells) ∙ ap (λ i. verdict (read_checks S t c.args.sources c.extent.result.cells i b) tt) (sym c.extent.ensures.words) ∙ sym c.check_reading.ensures.answer in
    record {
      answer = ap outcome q.1 ∙ ap Err q.2 ∙ sym (told ∙ ap outcome c.in_err-ordered.was);
      written = MatchResult-from_err c.from_residual.result _ _ c.from_residual.ensures.0 (λ y. refl);
      kept = refl;
      placed = IfOk-from_err c.from_residual.result _ c.from_residual.ensures.0;
      same = IfOk-from_err c.from_residual.result _ c.from_residual.ensures.0;
      cuts = IfOk-from_err c.from_residual.result _ c.from_residual.ensures.0;
      laws = IfOk-from_err c.from_residual.result _ c.from_residual.ensures.0;
      report = IfOk-from_err c.from_residual.result _ c.from_residual.ensures.0;
      heights = heights_count g.R.Ring.ops (map g.R.Ring.value c.args.cells.now) c.args.words.now t;
    }

pub write_leaves-area-requires : goal.write_leaves-area-requires
write_leaves-area-requires g c =
    let reading = given g (goal.at.write_leaves-area-requires g c).After-find_all in
    let law = all_lawful c.args.layout.now in
    record { sits = reading.sits; room = omega (arith, ap length reading.rows_are, reading.fill, reading.ok.room, law.covered) }

pub offset_bounds-buffer-area : goal.offset_bounds-buffer-area
offset_bounds-buffer-area g c =
    let reading = given g (goal.at.offset_bounds-buffer-area g c).After-find_all in
    let law = all_lawful c.args.layout.now in
    let start = c.write_leaves-area.ensures.told ∙ ap length reading.rows_are ∙ reading.fill in
    let h : c.write_leaves-area.result ≤ length c.write_leaves-area.new.out = omega (arith, reading.ok.room, law.covered) in
    search rules

pub slice_bounds-clear-count : goal.slice_bounds-clear-count
slice_bounds-clear-count g c =
    let reading = given g (goal.at.slice_bounds-clear-count g c).After-find_all in
    let law = all_lawful c.args.layout.now in
    let start = c.write_leaves-area.ensures.told ∙ ap length reading.rows_are ∙ reading.fill in
    let h : c.write_leaves-area.result ≤ c.dense_capacity.result = omega (arith, law.covered) in
    search rules

pub slice_bounds-clear-start : goal.slice_bounds-clear-start
slice_bounds-clear-start g c =
    let reading = given g (goal.at.slice_bounds-clear-start g c).After-find_all in
    let law = all_lawful c.args.layout.now in
    let start = c.write_leaves-area.ensures.told ∙ ap length reading.rows_are ∙ reading.fill in
    let h : c.write_leaves-area.result ≤ c.dense_capacity.result = omega (arith, law.covered) in
    search rules

pub slice_bounds-clear-end : goal.slice_bounds-clear-end
slice_bounds-clear-end g c =
    let reading = given g (goal.at.slice_bounds-clear-end g c).After-find_all in
    let law = all_lawful c.args.layout.now in
    let start = c.write_leaves-area.ensures.told ∙ ap length reading.rows_are ∙ reading.fill in
    let h : c.dense_capacity.result ≤ length c.write_leaves-area.new.out = omega (arith, reading.ok.room) in
    search rules

pub returns : goal.returns
returns g c =
    let S = shape c.args.layout.now in
    let o = c.in_ok-ordered.ordered in
    let reading = given g (goal.at.returns g c).After-find_all in
    let law = all_lawful c.args.layout.now in
    let start = c.write_leaves-area.ensures.told ∙ ap length reading.rows_are ∙ reading.fill in
    let t = c.args.table.now in
    let words = c.args.words.now in
    let f = g.R.Ring.value in
    let cells = map f c.args.cells.now in
    let nought = g.R.Ring.ops.nought in
    let old = map f c.args.buffer.now in
    let wrote = c.write_leaves-area.new.out in
    let at = c.write_leaves-area.result in
    let k = c.dense_capacity.result - at in
    let before = run_of (rows_of g.R.Ring.ops cells words t) 0 (columns S) in
    let here = replicate (capacity S - area S) nought in
    let size : k ≡ capacity S - area S = omega arith in
    let wide : length (take k (drop at wrote)) ≡ k = length-take-le k (drop at wrote) (omega (arith, length-drop at wrote, reading.ok.room, law.covered)) in
    let cleared = c.clear.ensures ∙ ap (λ x. replicate x nought) (wide ∙ size) in
    let last-long : length c.clear.new.out ≡ k = sym (length-map c.clear.new.out f) ∙ ap length cleared ∙ length-replicate (capacity S - area S) nought ∙ sym size in
    let written = leaf_more f wrote c.clear.new.out before here old at k (c.write_leaves-area.ensures.written ∙ ap (λ l. over l old) reading.rows_are) cleared (start ∙ sym reading.fill) (size ∙ sym (length-replicate (capacity S - area S) nought)) in
    let by_rows = columns_by_rows g.R.Ring.ops cells words t old _ S reading.ok.present written in
    record {
      answer = sym (ap (λ i. verdict (read_checks S t c.args.sources i (length words) (length c.args.buffer.now)) tt) (sym c.extent.ensures.cells) ∙ ap (λ i. verdict (read_checks S t c.args.sources c.extent.result.cells i (length c.args.buffer.now)) tt) (sym c.extent.ensures.words) ∙ sym c.check_reading.ensures.answer ∙ ap outcome c.in_ok-ordered.was);
      written = written;
      placed = subst (RowsPlaced g.R.Ring.ops S cells words t) (sym written) (reading.placed old);
      kept = drop-put_mid at k wrote c.clear.new.out (capacity S) (omega (arith, law.covered)) (omega (arith, reading.ok.room, law.covered)) last-long ∙ c.write_leaves-area.ensures.kept (capacity S) (omega (arith, law.covered));
      report = subst (λ u. ColumnsReport S u c.charge.result) c.in_ok-ordered.ensures.same.0 c.charge.ensures;
      same = by_rows;
      cuts = columns_by_cuts g.R.Ring.ops cells words t old _ S by_rows;
      laws = subst (RowLaws g.R.Ring.ops cells words) c.in_ok-ordered.ensures.same.0 (row_laws g.R.Ring.ops cells words o.records.now o.sound);
      heights = heights_count g.R.Ring.ops cells words t;
    }
