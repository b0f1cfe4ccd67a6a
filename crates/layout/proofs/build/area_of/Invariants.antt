use Rattle.std.proofs.Common.{◌≡◌, take, sum}
use Rattle.std.specs.List.{range_with_len, flat_map}
use Rattle.ring.specs.Checks.{Passed}
use Rattle.layout.specs.Plan.{column_checks}
use Rattle.layout.proofs.build.area_of.Given as goal

abbrev pub invariant-loop-column : goal.invariant-loop-column
invariant-loop-column l =
    (l.area ≡ sum (take l.column l.heights))
    × Passed (flat_map (column_checks l.row_variables l.heights) (range_with_len 0 l.column))
