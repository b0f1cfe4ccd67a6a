use Rattle.std.proofs.Common.{◌≡◌, ◌+◌, ◌-◌, ◌*◌, cond, map, length, get_or, take, drop, sym, ap, ◌∙◌, subst, arith}
use Rattle.ingest.specs.Rows.{bit_at, leaf_rows, Within}
use Rattle.ingest.specs.Table.{leaf_height}
use Rattle.ingest.proofs.Written.{dense_rows, rows_from}
use Rattle.ingest.proofs.block.Block.write_leaf.Goals as goal

pub returns-in-Dense : goal.returns-in-Dense
returns-in-Dense g c =
    let cells = map g.R.Ring.value c.args.self.now.cells.now in
    let within = subst (Within (length c.args.self.now.cells.now) (length c.args.self.now.words.now)) c.in-Dense.is c.requires.within in
    let e : (c.in-Dense.place + c.in-Dense.height) - c.in-Dense.place ≡ c.in-Dense.height = omega arith in
    dense_rows g.R.Ring.value g.R.Ring.ops.nought c.args.self.now.cells.now _ c.in-Dense.place c.in-Dense.height within (c.copy_from_slice.ensures.after ∙ ap (λ n. take n (drop c.in-Dense.place c.args.self.now.cells.now)) e)
    ∙ sym (ap (leaf_rows g.R.Ring.ops cells c.args.self.now.words.now) c.in-Dense.is)

pub returns-in-Interleaved : goal.returns-in-Interleaved
returns-in-Interleaved g c =
    let cells = map g.R.Ring.value c.args.self.now.cells.now in
    let long : length c.args.out.now ≡ c.in-Interleaved.height = c.requires.long ∙ ap leaf_height c.in-Interleaved.is in
    rows_from g.R.Ring.value (λ r. get_or cells (c.in-Interleaved.place + (c.in-Interleaved.first + r * c.in-Interleaved.stride)) g.R.Ring.ops.nought) g.R.Ring.ops.nought c.write_strided.new.out c.in-Interleaved.height (omega arith) (λ k h. c.write_strided.ensures k (omega arith))
    ∙ sym (ap (leaf_rows g.R.Ring.ops cells c.args.self.now.words.now) c.in-Interleaved.is)

pub returns-in-Bits : goal.returns-in-Bits
returns-in-Bits g c =
    let cells = map g.R.Ring.value c.args.self.now.cells.now in
    let long : length c.args.out.now ≡ c.in-Bits.height = c.requires.long ∙ ap leaf_height c.in-Bits.is in
    rows_from g.R.Ring.value (λ r. cond (bit_at c.args.self.now.words.now c.in-Bits.place r) g.R.Ring.ops.one g.R.Ring.ops.nought) g.R.Ring.ops.nought c.write_bits.new.out c.in-Bits.height (omega arith) (λ k h. c.write_bits.ensures k (omega arith))
    ∙ sym (ap (leaf_rows g.R.Ring.ops cells c.args.self.now.words.now) c.in-Bits.is)

pub returns-in-Chunked : goal.returns-in-Chunked
returns-in-Chunked g c =
    let cells = map g.R.Ring.value c.args.self.now.cells.now in
    let long = c.requires.long ∙ ap leaf_height c.in-Chunked.is in
    rows_from g.R.Ring.value (λ r. g.R.Ring.ops.nought) g.R.Ring.ops.nought c.args.out.now 0 long (λ k h. absurd (omega arith))
    ∙ sym (ap (leaf_rows g.R.Ring.ops cells c.args.self.now.words.now) c.in-Chunked.is)
