use Rattle.std.proofs.Common.{length, ap, arith}
use Rattle.ingest.specs.Table.{leaves_of}
use Rattle.ingest.proofs.Yields.{leaves_long, run_le}
use Rattle.ingest.proofs.ordered.Ordered.find_all.Goals as goal

pub find-requires-clause-room : goal.find-requires-clause-room
find-requires-clause-room c =
    let o = c.args.self.now in
    let y = c.loop-column.column in
    omega (arith, ap length c.loop-column.invariant, o.few, run_le (leaves_of o.records.now) 0 o.sources y y (omega arith) (omega arith) (omega (arith, leaves_long o.records.now, o.present)))
