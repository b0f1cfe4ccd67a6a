use Rattle.std.proofs.Common.{◌≡◌, ℕ, ◌≤◌, map, length, take, drop}
use Rattle.ring.specs.Bytes.{over}
use Rattle.ingest.specs.Found.{found}
use Rattle.ingest.specs.Rows.{found_rows}
use Rattle.ingest.proofs.ordered.Ordered.write_leaves.Given as goal

abbrev pub invariant-loop-record : goal.invariant-loop-record
invariant-loop-record g l = record {
  told : l.at ≡ length (found_rows g.R.Ring.ops (map g.R.Ring.value l.block.cells.now) l.block.words.now l.self.records.now (take l.record-index (found l.leaves)));
  written : map g.R.Ring.value l.out ≡ over (found_rows g.R.Ring.ops (map g.R.Ring.value l.block.cells.now) l.block.words.now l.self.records.now (take l.record-index (found l.leaves))) (map g.R.Ring.value l.initial.out);
  kept : (n : ℕ) → l.at ≤ n → drop n l.out ≡ drop n l.initial.out;
}
