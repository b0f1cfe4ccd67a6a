-- The number of each fault of a layout. Assumes nothing.
use Rattle.std.specs.Prelude.{ℕ}
use Rattle.layout.specs.declared.error.JaggedLayoutError.{JaggedLayoutError}
use Rattle.layout.specs.declared.error.JaggedLayoutError.TheVariants.{NoColumns, ColumnCountNotPowerOfTwo, TooManyColumns, RowVariablesOverflow, HeightExceedsRowBound, AreaOverflow, DenseAreaOverflow, DenseVariablesOverflow, BufferTooShort, NoSuchColumn}

abbrev pub fault_number : JaggedLayoutError → ℕ
fault_number NoColumns = 1
fault_number (ColumnCountNotPowerOfTwo columns) = 2
fault_number (TooManyColumns columns maximum) = 3
fault_number (RowVariablesOverflow variables) = 4
fault_number (HeightExceedsRowBound column height maximum) = 5
fault_number (AreaOverflow column) = 6
fault_number (DenseAreaOverflow area) = 7
fault_number (DenseVariablesOverflow variables) = 8
fault_number (BufferTooShort required available) = 18
fault_number (NoSuchColumn column columns) = 20
