use Rattle.std.proofs.Common.{◌≡◌, ℕ, ◌+◌, ◌<◌, ◌≤◌, length, get_or, take, sum}
use Rattle.layout.specs.Shape.{max_columns}
use Rattle.layout.proofs.build.boundaries_of.Given as goal

abbrev pub invariant-loop-column : goal.invariant-loop-column
invariant-loop-column l =
    (l.area ≡ sum (take l.column l.heights))
    × (length l.boundaries ≡ max_columns + 1)
    × ((y : ℕ) → y ≤ l.column → get_or l.boundaries y 0 ≡ sum (take y l.heights))
    × ((y : ℕ) → l.column < y → get_or l.boundaries y 0 ≡ 0)
