-- What is checked where columns are read, in order, and what the dense vector and the report then hold. Assumes nothing.
use Rattle.std.specs.Prelude.{◌≡◌, ℕ, ◌+◌, ◌-◌, ◌<◌, not, List, ◌∷◌, ◌++◌, map, length, take, replicate, sum, ◌==◌, slice_index_or}
use Rattle.std.specs.List.{range_with_len, flat_map}
use Rattle.ring.specs.Checks.{Check, when}
use Rattle.ring.specs.Operations.{Operations}
use Rattle.layout.specs.Shape.{Shape, columns, height, start, area, capacity}
use Rattle.ingest.specs.declared.account.IngestReport.{IngestReport}
use Rattle.ingest.specs.declared.fault.JaggedIngestError.{JaggedIngestError}
use Rattle.ingest.specs.declared.fault.JaggedIngestError.TheVariants.{ColumnCountMismatch, ColumnHeightMismatch}
use Rattle.ingest.specs.declared.fault.LeafError.{LeafError}
use Rattle.ingest.specs.declared.record.ConversionPass.{ConversionPass}
use Rattle.ingest.specs.declared.record.Record.{Record}
use Rattle.ingest.specs.Asked.{overflow_check}
use Rattle.ingest.specs.Charges.{charged_of, charge}
use Rattle.ingest.specs.Faults.{passed_up}
use Rattle.ingest.specs.Leaves.{checks_at}
use Rattle.ingest.specs.Order.{order_check}
use Rattle.ingest.specs.Rows.{rows_of, rows_at}
use Rattle.ingest.specs.Table.{flat, height_of, pass_of}
use Rattle.ingest.specs.Vector.{buffer_checks}

-- a leaf's check, whose fault a reading passes up
abbrev pub passed_up_check : Check LeafError → Check JaggedIngestError
passed_up_check c = when c.fails (passed_up c.fault)

-- of a column that is to have so many rows: its height, then its leaves in the order of their rows
abbrev pub one_checks : List Record → ℕ → ℕ → ℕ → ℕ → List (Check JaggedIngestError)
one_checks table cells words column expected =
    overflow_check table column
    ∷ when (not (height_of table column == expected)) (ColumnHeightMismatch column expected (height_of table column))
    ∷ map passed_up_check (checks_at cells words column table column)

-- of each column of the layout in turn
abbrev pub columns_checks : Shape → List Record → ℕ → ℕ → List (Check JaggedIngestError)
columns_checks S table cells words = flat_map (λ y. one_checks table cells words y (height S y)) (range_with_len 0 (columns S))

-- all that is checked, in order
abbrev pub read_checks : Shape → List Record → ℕ → ℕ → ℕ → ℕ → List (Check JaggedIngestError)
read_checks S table sources cells words buffer =
    when (not (sources == columns S)) (ColumnCountMismatch (columns S) sources)
    ∷ order_check table sources
    ∷ (columns_checks S table cells words ++ buffer_checks S buffer)

-- the dense vector: the rows of each column in turn, then zero up to the capacity
abbrev pub assembled : (K : Operations) → Shape → List K.Value → List ℕ → List Record → List K.Value
assembled K S cells words table = flat (take (columns S) (rows_of K cells words table)) ++ replicate (capacity S - area S) K.nought

-- row k of column y lies at the start of the column, plus k
abbrev pub RowsPlaced : (K : Operations) → Shape → List K.Value → List ℕ → List Record → List K.Value → Type 0
RowsPlaced K S cells words table out =
    (y k : ℕ) → y < columns S → k < height S y → slice_index_or out (start S y + k) K.nought ≡ slice_index_or (rows_at K cells words table y) k K.nought

-- each column is charged whole to its pass, and the padding is what the capacity has past the area
abbrev pub ColumnsReport : Shape → List Record → IngestReport → Type 0
ColumnsReport S table report =
    ((p : ConversionPass) → charged_of report p ≡ sum (map (λ y. charge p (pass_of table y) (height S y)) (range_with_len 0 (columns S))))
    × (report.envelope ≡ capacity S - area S)

-- a height is the number of rows
abbrev pub HeightsCountRows : (K : Operations) → List K.Value → List ℕ → List Record → Type 0
HeightsCountRows K cells words table = (i : ℕ) → length (rows_at K cells words table i) ≡ height_of table i
