-- A layout and its faults in words: each number in decimal, after its name. Assumes nothing.
use Rattle.std.specs.Prelude.{ℕ, List, [], ◌∷◌, ◌++◌, codes, decimal}
use Rattle.std.specs.Int.Count.{count_trailing_zeros}
use Rattle.ring.specs.Texts.{entry, field}
use Rattle.layout.specs.declared.error.JaggedLayoutError.{JaggedLayoutError}
use Rattle.layout.specs.declared.error.JaggedLayoutError.TheVariants.{NoColumns, ColumnCountNotPowerOfTwo, TooManyColumns, RowVariablesOverflow, HeightExceedsRowBound, AreaOverflow, DenseAreaOverflow, DenseVariablesOverflow, BufferTooShort, NoSuchColumn}
use Rattle.layout.specs.Shape.{Shape, columns, area, capacity, boundaries}

-- numbers in decimal, with commas between them
abbrev pub commas : List ℕ → List ℕ
commas [] = []
commas (n ∷ []) = decimal n
commas (n ∷ m ∷ ns) = decimal n ++ (codes "," ++ commas (m ∷ ns))

-- the name and the fields of a fault
abbrev pub layout_fault_fields : JaggedLayoutError → List ℕ
layout_fault_fields NoColumns = codes "NoColumns"
layout_fault_fields (ColumnCountNotPowerOfTwo columns) = codes "ColumnCountNotPowerOfTwo" ++ (field "columns" (decimal columns))
layout_fault_fields (TooManyColumns columns maximum) = codes "TooManyColumns" ++ (field "columns" (decimal columns) ++ field "maximum" (decimal maximum))
layout_fault_fields (RowVariablesOverflow variables) = codes "RowVariablesOverflow" ++ (field "variables" (decimal variables))
layout_fault_fields (HeightExceedsRowBound column height maximum) = codes "HeightExceedsRowBound" ++ (field "column" (decimal column) ++ (field "height" (decimal height) ++ field "maximum" (decimal maximum)))
layout_fault_fields (AreaOverflow column) = codes "AreaOverflow" ++ (field "column" (decimal column))
layout_fault_fields (DenseAreaOverflow area) = codes "DenseAreaOverflow" ++ (field "area" (decimal area))
layout_fault_fields (DenseVariablesOverflow variables) = codes "DenseVariablesOverflow" ++ (field "variables" (decimal variables))
layout_fault_fields (BufferTooShort required available) = codes "BufferTooShort" ++ (field "required" (decimal required) ++ field "available" (decimal available))
layout_fault_fields (NoSuchColumn column columns) = codes "NoSuchColumn" ++ (field "column" (decimal column) ++ field "columns" (decimal columns))

-- everything that a layout tells of itself
abbrev pub variable_fields : Shape → List ℕ
variable_fields S = entry "row_variables" (decimal S.rows) ++ (field "column_variables" (decimal (count_trailing_zeros 64 (columns S))) ++ field "dense_variables" (decimal S.dense))

abbrev pub size_fields : Shape → List ℕ
size_fields S = entry "num_columns" (decimal (columns S)) ++ (field "area" (decimal (area S)) ++ field "dense_capacity" (decimal (capacity S)))

abbrev pub layout_text : Shape → List ℕ
layout_text S = variable_fields S ++ (codes " " ++ (size_fields S ++ field "cumulative_heights" (commas (boundaries S))))
