-- What is checked where a table is asked alone, in order. Assumes nothing.
use Rattle.std.specs.Prelude.{ℕ, ◌^◌, List, [], ◌∷◌, ◌++◌, nat_le, nat_lt}
use Rattle.std.specs.List.{range_with_len, flat_map}
use Rattle.ring.specs.Checks.{Check, when}
use Rattle.ingest.specs.declared.fault.JaggedIngestError.{JaggedIngestError}
use Rattle.ingest.specs.declared.fault.JaggedIngestError.TheVariants.{NoSuchColumn, ColumnHeightOverflow, BufferTooShort}
use Rattle.ingest.specs.declared.record.Record.{Record}
use Rattle.ingest.specs.Order.{order_check}
use Rattle.ingest.specs.Table.{height_of}

abbrev pub column_check : ℕ → ℕ → Check JaggedIngestError
column_check sources column = when (nat_le sources column) (NoSuchColumn column sources)

-- the height is no machine index
abbrev pub overflow_check : List Record → ℕ → Check JaggedIngestError
overflow_check table column = when (nat_le (2 ^ 64) (height_of table column)) (ColumnHeightOverflow column)

abbrev pub height_checks : List Record → ℕ → ℕ → List (Check JaggedIngestError)
height_checks table sources column = column_check sources column ∷ order_check table sources ∷ overflow_check table column ∷ []

abbrev pub pass_checks : List Record → ℕ → ℕ → List (Check JaggedIngestError)
pass_checks table sources column = column_check sources column ∷ order_check table sources ∷ []

-- each column in turn
abbrev pub overflow_checks : List Record → ℕ → List (Check JaggedIngestError)
overflow_checks table sources = flat_map (λ column. overflow_check table column ∷ []) (range_with_len 0 sources)

abbrev pub room_check : ℕ → ℕ → Check JaggedIngestError
room_check required available = when (nat_lt available required) (BufferTooShort required available)

abbrev pub heights_checks : List Record → ℕ → ℕ → List (Check JaggedIngestError)
heights_checks table sources room = order_check table sources ∷ (overflow_checks table sources ++ (room_check sources room ∷ []))
