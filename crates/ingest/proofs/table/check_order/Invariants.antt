use Rattle.std.proofs.Common.{◌≡◌, drop}
use Rattle.ingest.specs.Order.{wrong_from}
use Rattle.ingest.proofs.table.check_order.Given as goal

abbrev pub invariant-loop-record : goal.invariant-loop-record
invariant-loop-record l = wrong_from l.record l.next (drop l.record l.table) ≡ wrong_from 0 l.sources l.table
