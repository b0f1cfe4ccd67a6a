-- The texts of faults, passes and reports. Assumes nothing.
use Rattle.std.specs.Prelude.{ℕ, ◌+◌, cond, ◌&&◌, List, ◌++◌, codes, decimal, ◌==◌}
use Rattle.ring.specs.Texts.{entry, field}
use Rattle.ingest.specs.declared.account.IngestReport.{IngestReport}
use Rattle.ingest.specs.declared.fault.JaggedIngestError.{JaggedIngestError}
use Rattle.ingest.specs.declared.fault.JaggedIngestError.TheVariants.{CommittedVectorTooShort, ColumnCountMismatch, ColumnHeightMismatch, ZeroStride, StrideOutOfRange, PackedWordsTooShort, TableOutOfOrder, PlaceOutsideBlock, ColumnHeightOverflow, BufferTooShort, NoSuchColumn}
use Rattle.ingest.specs.declared.record.ConversionPass.{ConversionPass}
use Rattle.ingest.specs.declared.record.ConversionPass.TheVariants.{Shared, Copied, Gathered, Widened}
use Rattle.ingest.specs.Charges.{charged_of}

-- a fault of one column's source
abbrev pub OfSource : JaggedIngestError → Type 0
OfSource (CommittedVectorTooShort required available) = ⊥
OfSource (ColumnCountMismatch expected actual) = ⊥
OfSource (ColumnHeightMismatch column expected actual) = Unit {0}
OfSource (ZeroStride column) = Unit {0}
OfSource (StrideOutOfRange column required available) = Unit {0}
OfSource (PackedWordsTooShort column required available) = Unit {0}
OfSource (TableOutOfOrder number) = ⊥
OfSource (PlaceOutsideBlock column number) = Unit {0}
OfSource (ColumnHeightOverflow column) = Unit {0}
OfSource (BufferTooShort required available) = ⊥
OfSource (NoSuchColumn column columns) = ⊥

-- the name and the fields of a fault
abbrev pub ingest_fault_fields : JaggedIngestError → List ℕ
ingest_fault_fields (CommittedVectorTooShort required available) = codes "CommittedVectorTooShort" ++ (field "required" (decimal required) ++ field "available" (decimal available))
ingest_fault_fields (ColumnCountMismatch expected actual) = codes "ColumnCountMismatch" ++ (field "expected" (decimal expected) ++ field "actual" (decimal actual))
ingest_fault_fields (ColumnHeightMismatch column expected actual) = codes "ColumnHeightMismatch" ++ (field "column" (decimal column) ++ (field "expected" (decimal expected) ++ field "actual" (decimal actual)))
ingest_fault_fields (ZeroStride column) = codes "ZeroStride" ++ field "column" (decimal column)
ingest_fault_fields (StrideOutOfRange column required available) = codes "StrideOutOfRange" ++ (field "column" (decimal column) ++ (field "required" (decimal required) ++ field "available" (decimal available)))
ingest_fault_fields (PackedWordsTooShort column required available) = codes "PackedWordsTooShort" ++ (field "column" (decimal column) ++ (field "required" (decimal required) ++ field "available" (decimal available)))
ingest_fault_fields (TableOutOfOrder number) = codes "TableOutOfOrder" ++ field "record" (decimal number)
ingest_fault_fields (PlaceOutsideBlock column number) = codes "PlaceOutsideBlock" ++ (field "column" (decimal column) ++ field "record" (decimal number))
ingest_fault_fields (ColumnHeightOverflow column) = codes "ColumnHeightOverflow" ++ field "column" (decimal column)
ingest_fault_fields (BufferTooShort required available) = codes "BufferTooShort" ++ (field "required" (decimal required) ++ field "available" (decimal available))
ingest_fault_fields (NoSuchColumn column columns) = codes "NoSuchColumn" ++ (field "column" (decimal column) ++ field "columns" (decimal columns))

-- a fault's name alone
abbrev pub fault_name : JaggedIngestError → List ℕ
fault_name (CommittedVectorTooShort required available) = codes "CommittedVectorTooShort"
fault_name (ColumnCountMismatch expected actual) = codes "ColumnCountMismatch"
fault_name (ColumnHeightMismatch column expected actual) = codes "ColumnHeightMismatch"
fault_name (ZeroStride column) = codes "ZeroStride"
fault_name (StrideOutOfRange column required available) = codes "StrideOutOfRange"
fault_name (PackedWordsTooShort column required available) = codes "PackedWordsTooShort"
fault_name (TableOutOfOrder number) = codes "TableOutOfOrder"
fault_name (PlaceOutsideBlock column number) = codes "PlaceOutsideBlock"
fault_name (ColumnHeightOverflow column) = codes "ColumnHeightOverflow"
fault_name (BufferTooShort required available) = codes "BufferTooShort"
fault_name (NoSuchColumn column columns) = codes "NoSuchColumn"

-- a pass goes by its name
abbrev pub pass_name : ConversionPass → List ℕ
pass_name Shared = codes "Shared"
pass_name Copied = codes "Copied"
pass_name Gathered = codes "Gathered"
pass_name Widened = codes "Widened"

-- a report, from the rows that each pass is charged and the cells of padding
module _ (charged : ConversionPass → ℕ) (envelope : ℕ) where
  -- the rows of all columns
  abbrev pub live : ℕ
  live = charged Shared + charged Copied + charged Gathered + charged Widened

  -- the rows that a conversion had to touch
  abbrev pub converted : ℕ
  converted = charged Copied + charged Gathered + charged Widened

  abbrev pub charge_fields : List ℕ
  charge_fields = entry "shared" (decimal (charged Shared)) ++ (field "copied" (decimal (charged Copied)) ++ (field "gathered" (decimal (charged Gathered)) ++ field "widened" (decimal (charged Widened))))

  abbrev pub total_fields : List ℕ
  total_fields = entry "live" (decimal live) ++ (field "converted" (decimal converted) ++ (field "envelope" (decimal envelope) ++ field "reads_no_cell" (cond (converted == 0 && envelope == 0) (codes "true") (codes "false"))))

  unfoldable pub report_fields : List ℕ
  report_fields = codes " " ++ (charge_fields ++ (codes " " ++ total_fields))

-- the same without the blank in front
abbrev pub report_text : IngestReport → List ℕ
report_text report = charge_fields (charged_of report) report.envelope ++ (codes " " ++ total_fields (charged_of report) report.envelope)
