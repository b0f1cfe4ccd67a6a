-- What is checked of an asked layout, in order, and the shape that it is given. Assumes nothing.
use Rattle.std.specs.Prelude.{ℕ, ◌+◌, ◌^◌, max, not, List, [], ◌∷◌, ◌++◌, length, take, sum, ◌==◌, nat_le, nat_lt, slice_index}
use Rattle.std.specs.List.{range_with_len, flat_map}
use Rattle.ring.specs.Checks.{Check, when}
use Rattle.layout.specs.declared.error.JaggedLayoutError.{JaggedLayoutError}
use Rattle.layout.specs.declared.error.JaggedLayoutError.TheVariants.{NoColumns, ColumnCountNotPowerOfTwo, TooManyColumns, RowVariablesOverflow, HeightExceedsRowBound, AreaOverflow, DenseAreaOverflow, DenseVariablesOverflow}
use Rattle.layout.specs.Powers.{power_of_two, covering}
use Rattle.layout.specs.Shape.{Shape, max_columns}

-- what is checked of the two counts
abbrev pub count_checks : ℕ → ℕ → List (Check JaggedLayoutError)
count_checks rows columns =
    when (columns == 0) NoColumns
    ∷ when (not (power_of_two columns)) (ColumnCountNotPowerOfTwo columns)
    ∷ when (nat_lt max_columns columns) (TooManyColumns columns max_columns)
    ∷ when (nat_le 64 rows) (RowVariablesOverflow rows)
    ∷ []

-- what is checked of column y: its height, and the heights up to it added up
abbrev pub column_checks : ℕ → List ℕ → ℕ → List (Check JaggedLayoutError)
column_checks rows heights y =
    when (nat_lt (2 ^ rows) (slice_index heights y)) (HeightExceedsRowBound y (slice_index heights y) (2 ^ rows))
    ∷ when (nat_le (2 ^ 64) (sum (take (y + 1) heights))) (AreaOverflow y)
    ∷ []

-- the same of each column in turn
abbrev pub height_checks : ℕ → List ℕ → List (Check JaggedLayoutError)
height_checks rows heights = flat_map (column_checks rows heights) (range_with_len 0 (length heights))

-- the least number of variables that cover the area, or the asked minimum if larger
abbrev pub dense_for : ℕ → ℕ → ℕ
dense_for area minimum = max (covering (max area 1)) minimum

-- what is checked of the area
abbrev pub dense_checks : ℕ → ℕ → List (Check JaggedLayoutError)
dense_checks area minimum =
    when (nat_lt (2 ^ 63) area) (DenseAreaOverflow area)
    ∷ when (nat_le 64 (dense_for area minimum)) (DenseVariablesOverflow (dense_for area minimum))
    ∷ []

-- all that is checked, in order
abbrev pub checks : ℕ → List ℕ → ℕ → List (Check JaggedLayoutError)
checks rows heights minimum =
    count_checks rows (length heights) ++ (height_checks rows heights ++ dense_checks (sum heights) minimum)

-- the shape that is asked for
abbrev pub planned : ℕ → List ℕ → ℕ → Shape
planned rows heights minimum = record { rows = rows; dense = dense_for (sum heights) minimum; heights = heights }
