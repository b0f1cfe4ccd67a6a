use Rattle.std.proofs.Common.{◌≡◌, length, map, take}
use Rattle.export.specs.Entries.{record_of}
use Rattle.export.proofs.entry.Records.fill.Given as goal

abbrev pub invariant-loop-place : goal.invariant-loop-place
invariant-loop-place l = (l.self.count ≡ l.count) × (length l.self.records ≡ 4097) × (take l.place l.self.records ≡ map record_of (take l.place l.entries))
