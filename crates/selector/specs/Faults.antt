-- What the selector's calls check, in order, and the numbers of their faults. Assumes nothing.
use Rattle.std.specs.Prelude.{ℕ, not, List, [], ◌∷◌, ◌++◌, ◌==◌, nat_lt}
use Rattle.std.specs.Int.Count.{count_trailing_zeros}
use Rattle.ring.specs.Checks.{Check, when}
use Rattle.layout.specs.Shape.{Shape, columns, capacity}
use Rattle.selector.specs.declared.error.JaggedError.{JaggedError}
use Rattle.selector.specs.declared.error.JaggedError.TheVariants.{RowPointWidthMismatch, ColumnPointWidthMismatch, DensePointWidthMismatch, BufferTooShort}

abbrev pub fault_number : JaggedError → ℕ
fault_number (BufferTooShort required available) = 18
fault_number (RowPointWidthMismatch expected actual) = 24
fault_number (ColumnPointWidthMismatch expected actual) = 25
fault_number (DensePointWidthMismatch expected actual) = 26

-- the number of column variables: the trailing zero bits of the column count
abbrev pub column_variables : Shape → ℕ
column_variables S = count_trailing_zeros 64 (columns S)

-- what is checked of a point's two widths
abbrev pub point_checks : Shape → ℕ → ℕ → List (Check JaggedError)
point_checks S row column =
    when (not (row == S.rows)) (RowPointWidthMismatch S.rows row)
    ∷ when (not (column == column_variables S)) (ColumnPointWidthMismatch (column_variables S) column)
    ∷ []

-- what is checked of a buffer that takes an envelope or a table
abbrev pub room_checks : Shape → ℕ → List (Check JaggedError)
room_checks S cells = when (nat_lt cells (capacity S)) (BufferTooShort (capacity S) cells) ∷ []

abbrev pub table_checks : Shape → ℕ → ℕ → ℕ → List (Check JaggedError)
table_checks S row column cells = point_checks S row column ++ room_checks S cells

-- what is checked of a dense point's width
abbrev pub dense_checks : Shape → ℕ → List (Check JaggedError)
dense_checks S dense = when (not (dense == S.dense)) (DensePointWidthMismatch S.dense dense) ∷ []

abbrev pub evaluate_checks : Shape → ℕ → ℕ → ℕ → List (Check JaggedError)
evaluate_checks S row column dense = point_checks S row column ++ dense_checks S dense
