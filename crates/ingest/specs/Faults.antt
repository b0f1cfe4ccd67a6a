-- The number of each fault, and a leaf's fault as a reading passes it up. Assumes nothing.
use Rattle.std.specs.Prelude.{ℕ}
use Rattle.ingest.specs.declared.fault.JaggedIngestError.{JaggedIngestError}
use Rattle.ingest.specs.declared.fault.JaggedIngestError.TheVariants as whole
use Rattle.ingest.specs.declared.fault.LeafError.{LeafError}
use Rattle.ingest.specs.declared.fault.LeafError.TheVariants as own

abbrev pub leaf_number : LeafError → ℕ
leaf_number (own.ZeroStride column) = 12
leaf_number (own.StrideOutOfRange column required available) = 13
leaf_number (own.PackedWordsTooShort column required available) = 14
leaf_number (own.PlaceOutsideBlock column record-number) = 16

abbrev pub fault_number : JaggedIngestError → ℕ
fault_number (whole.CommittedVectorTooShort required available) = 9
fault_number (whole.ColumnCountMismatch expected actual) = 10
fault_number (whole.ColumnHeightMismatch column expected actual) = 11
fault_number (whole.ZeroStride column) = 12
fault_number (whole.StrideOutOfRange column required available) = 13
fault_number (whole.PackedWordsTooShort column required available) = 14
fault_number (whole.TableOutOfOrder record-number) = 15
fault_number (whole.PlaceOutsideBlock column record-number) = 16
fault_number (whole.ColumnHeightOverflow column) = 17
fault_number (whole.BufferTooShort required available) = 18
fault_number (whole.NoSuchColumn column columns) = 20

-- the same fault with the same fields
abbrev pub passed_up : LeafError → JaggedIngestError
passed_up (own.ZeroStride column) = whole.ZeroStride column
passed_up (own.StrideOutOfRange column required available) = whole.StrideOutOfRange column required available
passed_up (own.PackedWordsTooShort column required available) = whole.PackedWordsTooShort column required available
passed_up (own.PlaceOutsideBlock column record-number) = whole.PlaceOutsideBlock column record-number
