use Rattle.std.proofs.Common.{◌≡◌, cond, ◌==◌, length, Ok}
use Rattle.ring.specs.Checks.{verdict}
use Rattle.layout.specs.Layout.{shape}
use Rattle.ingest.specs.Reading.{read_checks}
use Rattle.export.specs.Entries.{table_of}
use Rattle.export.proofs.reading.read_rounds.Given as goal

abbrev pub invariant-loop-round : goal.invariant-loop-round
invariant-loop-round g l = l.outcome ≡ cond (l.round == 0) (Ok tt) (verdict (read_checks (shape l.layout) (table_of l.entries) (length l.heights) (length l.cells) (length l.words) (length l.buffer)) tt)
