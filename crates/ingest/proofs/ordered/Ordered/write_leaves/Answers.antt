use Rattle.std.proofs.Common.{◌≡◌, ◌+◌, ◌-◌, ◌<◌, ◌≤◌, map, length, get_or, take, sym, ap, ◌∙◌, arith, rules}
use Rattle.std.proofs.lemmas.List.{length-append, length-map}
use Rattle.std.proofs.lemmas.Slice.{drop-put_mid}
use Rattle.ring.specs.Bytes.{over}
use Rattle.ingest.specs.Found.{found}
use Rattle.ingest.specs.Order.{record_at}
use Rattle.ingest.specs.Rows.{leaf_rows, found_rows}
use Rattle.ingest.specs.Table.{leaf_height}
use Rattle.ingest.proofs.Written.{found_more, leaf_ends, leaf_more, leaf_rows_long}
use Rattle.ingest.proofs.ordered.Ordered.write_leaves.Goals as goal

pub overflow_add-at : goal.overflow_add-at
overflow_add-at g c =
    let t = c.args.self.now.records.now in
    let k = c.loop-record.record-index in
    let same = c.as_slice-record-items.ensures in
    let high = c.own_height-rows.ensures ∙ ap (λ l. leaf_height (record_at t (get_or l k 0))) same in
    let ends : c.loop-record.at + c.own_height-rows.result ≤ length c.loop-record.out = leaf_ends g.R.Ring.ops (map g.R.Ring.value c.args.block.now.cells.now) c.args.block.now.words.now t (found c.args.leaves.now) k (omega (arith, ap length same)) c.loop-record.at c.own_height-rows.result (length c.loop-record.out) c.loop-record.invariant.told high (omega (arith, c.requires.room)) in
    omega arith

pub slice_bounds-write_leaf-end : goal.slice_bounds-write_leaf-end
slice_bounds-write_leaf-end g c =
    let t = c.args.self.now.records.now in
    let k = c.loop-record.record-index in
    let same = c.as_slice-record-items.ensures in
    let high = c.own_height-rows.ensures ∙ ap (λ l. leaf_height (record_at t (get_or l k 0))) same in
    let ends : c.loop-record.at + c.own_height-rows.result ≤ length c.loop-record.out = leaf_ends g.R.Ring.ops (map g.R.Ring.value c.args.block.now.cells.now) c.args.block.now.words.now t (found c.args.leaves.now) k (omega (arith, ap length same)) c.loop-record.at c.own_height-rows.result (length c.loop-record.out) c.loop-record.invariant.told high (omega (arith, c.requires.room)) in
    search rules

pub loop-record-preserved : goal.loop-record-preserved
loop-record-preserved g c =
    let t = c.args.self.now.records.now in
    let cells = map g.R.Ring.value c.args.block.now.cells.now in
    let words = c.args.block.now.words.now in
    let ns = found c.args.leaves.now in
    let k = c.loop-record.record-index in
    let same = c.as_slice-record-items.ensures in
    let within : k < length ns = omega (arith, ap length same) in
    let f = g.R.Ring.value in
    let xs = c.loop-record.out in
    let ys = c.write_leaf.new.out in
    let at = c.loop-record.at in
    let rows = c.own_height-rows.result in
    let old = map f c.args.out.now in
    let before = found_rows g.R.Ring.ops cells words t (take k ns) in
    let here = leaf_rows g.R.Ring.ops cells words (record_at t (get_or ns k 0)) in
    let more = found_more g.R.Ring.ops cells words t ns k within in
    let high = c.own_height-rows.ensures ∙ ap (λ l. leaf_height (record_at t (get_or l k 0))) same in
    let tall = leaf_rows_long g.R.Ring.ops cells words t (record_at t (get_or ns k 0)) in
    let ends = leaf_ends g.R.Ring.ops cells words t ns k within at rows (length xs) c.loop-record.invariant.told high (omega (arith, c.requires.room)) in
    let wide : (at + rows) - at ≡ rows = omega arith in
    let wrote = c.write_leaf.ensures ∙ ap (λ l. leaf_rows g.R.Ring.ops cells words (record_at t (get_or l k 0))) same in
    let long : length ys ≡ rows = sym (length-map ys f) ∙ ap length wrote ∙ tall ∙ sym high in
    record {
      told = omega (arith, c.loop-record.invariant.told, ap length more, length-append before here, tall, high);
      written = leaf_more f xs ys before here old at _ c.loop-record.invariant.written wrote c.loop-record.invariant.told (wide ∙ high ∙ sym tall) ∙ ap (λ l. over l old) (sym more);
      kept = λ n past. drop-put_mid at _ xs ys n (omega arith) (omega (arith, ends)) (long ∙ sym wide) ∙ c.loop-record.invariant.kept n (omega arith);
    }
