use Rattle.std.proofs.Common.{◌≡◌, ◌-◌, ◌^◌, ◌<◌, length, take, drop, sum}
use Rattle.ingest.specs.Table.{heights_of}
use Rattle.ingest.proofs.ordered.Ordered.+height_of.Given as goal

abbrev pub decreases-height_of : goal.decreases-height_of
decreases-height_of l = length l.self.now.records.now - l.record

abbrev pub invariant-loop-part : goal.invariant-loop-part
invariant-loop-part l = (l.total < 2 ^ 64) × (l.total ≡ sum (take l.part (drop l.from (heights_of l.self.records.now))))
