-- The text of the selector's faults. Assumes nothing.
use Rattle.std.specs.Prelude.{ℕ, List, ◌++◌, codes, decimal}
use Rattle.ring.specs.Texts.{field}
use Rattle.selector.specs.declared.error.JaggedError.{JaggedError}
use Rattle.selector.specs.declared.error.JaggedError.TheVariants.{RowPointWidthMismatch, ColumnPointWidthMismatch, DensePointWidthMismatch, BufferTooShort}

-- the name and the fields
abbrev pub selector_fault_fields : JaggedError → List ℕ
selector_fault_fields (RowPointWidthMismatch expected actual) = codes "RowPointWidthMismatch" ++ (field "expected" (decimal expected) ++ field "actual" (decimal actual))
selector_fault_fields (ColumnPointWidthMismatch expected actual) = codes "ColumnPointWidthMismatch" ++ (field "expected" (decimal expected) ++ field "actual" (decimal actual))
selector_fault_fields (DensePointWidthMismatch expected actual) = codes "DensePointWidthMismatch" ++ (field "expected" (decimal expected) ++ field "actual" (decimal actual))
selector_fault_fields (BufferTooShort required available) = codes "BufferTooShort" ++ (field "required" (decimal required) ++ field "available" (decimal available))
