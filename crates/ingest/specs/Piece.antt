-- What is checked of a piece, a table whose first record alone is a column. Assumes nothing.
use Rattle.std.specs.Prelude.{ℕ, ◌^◌, List, [], ◌∷◌, ◌++◌, map, nat_le}
use Rattle.ring.specs.Checks.{Check, when}
use Rattle.ingest.specs.declared.fault.JaggedIngestError.{JaggedIngestError}
use Rattle.ingest.specs.declared.fault.JaggedIngestError.TheVariants.{ColumnHeightOverflow}
use Rattle.ingest.specs.declared.record.Record.{Record}
use Rattle.ingest.specs.Asked.{room_check}
use Rattle.ingest.specs.Leaves.{checks_at}
use Rattle.ingest.specs.Order.{order_check}
use Rattle.ingest.specs.Reading.{passed_up_check}
use Rattle.ingest.specs.Table.{height_of}

-- the piece's height is no machine index; the column is the one that the piece is for
abbrev pub tall_check : List Record → ℕ → Check JaggedIngestError
tall_check table column = when (nat_le (2 ^ 64) (height_of table 0)) (ColumnHeightOverflow column)

abbrev pub piece_height_checks : List Record → ℕ → List (Check JaggedIngestError)
piece_height_checks table column = order_check table 1 ∷ tall_check table column ∷ []

-- then its leaves in the order of their rows, and the room for its rows
abbrev pub piece_checks : List Record → ℕ → ℕ → ℕ → ℕ → List (Check JaggedIngestError)
piece_checks table column cells words room =
    piece_height_checks table column ++ (map passed_up_check (checks_at cells words column table 0) ++ (room_check (height_of table 0) room ∷ []))
