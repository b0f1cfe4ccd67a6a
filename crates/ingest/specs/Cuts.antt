-- Leaves cut and nested in other ways, with the same rows. Assumes nothing.
use Rattle.std.specs.Prelude.{◌≡◌, ℕ, ◌+◌, ◌*◌, ◌<◌, ◌≤◌, List, ◌∷◌, ◌++◌, map, length}
use Rattle.ring.specs.Bytes.{over}
use Rattle.ring.specs.Operations.{Operations}
use Rattle.layout.specs.Shape.{Shape, columns}
use Rattle.ingest.specs.declared.record.Record.{Record}
use Rattle.ingest.specs.declared.record.Record.TheVariants.{Dense, Interleaved, Bits}
use Rattle.ingest.specs.Order.{record_at}
use Rattle.ingest.specs.Parts.{LeavesByParts, RowsByParts}
use Rattle.ingest.specs.Reading.{assembled}
use Rattle.ingest.specs.Rows.{rows_at}
use Rattle.ingest.specs.Table.{leaves_at}

-- the leaves of record i in the order of their rows, however they are nested
abbrev pub leaf_records : List Record → ℕ → List Record
leaf_records table i = map (record_at table) (leaves_at table i)

-- a leaf of a + b rows is cut in two after a rows; bits are cut between two words
pub data Cut : Record → Record → Record → Type 0 where
  cut_dense : (place a b : ℕ) → Cut (Dense place (a + b)) (Dense place a) (Dense (place + a) b)
  cut_interleaved : (place len len-1 len-2 first stride a b : ℕ) → Cut (Interleaved place len first stride (a + b)) (Interleaved place len-1 first stride a) (Interleaved place len-2 (first + a * stride) stride b)
  cut_bits : (place count count-1 count-2 w b : ℕ) → Cut (Bits place count (w * 64 + b)) (Bits place count-1 (w * 64)) (Bits (place + w) count-2 b)

-- the second list has the leaves of the first, cut or joined any number of times
pub data Recut : List Record → List Record → Type 0 where
  recut_none : (leaves : List Record) → Recut leaves leaves
  recut_one : (before after : List Record) (whole front back : Record) → Cut whole front back → Recut (before ++ whole ∷ after) (before ++ front ∷ back ∷ after)
  recut_joined : (xs ys : List Record) → Recut xs ys → Recut ys xs
  recut_again : (xs ys zs : List Record) → Recut xs ys → Recut ys zs → Recut xs zs

module _ (K : Operations) where
  -- however the leaves of a record are cut and nested, its rows are the same
  abbrev pub CutsKeepRows : List K.Value → List ℕ → List Record → Type 0
  CutsKeepRows cells words table =
      (other : List Record) (i j : ℕ) → Recut (leaf_records table i) (leaf_records other j) → rows_at K cells words other j ≡ rows_at K cells words table i

  -- what holds of the rows of a table that is read
  pub record RowLaws (cells : List K.Value) (words : List ℕ) (table : List Record) : Type 0 where
    pub parts : RowsByParts K cells words table
    pub leaves : LeavesByParts table
    pub cuts : CutsKeepRows cells words table

  -- a piece of any other table and blocks, whose first record has the same rows, writes the same cells
  abbrev pub PieceByRows : List K.Value → List ℕ → List Record → List K.Value → List K.Value → Type 0
  PieceByRows cells words table old out =
      (cells-2 : List K.Value) (words-2 : List ℕ) (table-2 : List Record)
      → rows_at K cells-2 words-2 table-2 0 ≡ rows_at K cells words table 0
      → over (rows_at K cells-2 words-2 table-2 0) old ≡ out

  -- columns of any other table and blocks, with the same rows column by column, write the same cells
  abbrev pub ColumnsByRows : Shape → List K.Value → List ℕ → List Record → List K.Value → List K.Value → Type 0
  ColumnsByRows S cells words table old out =
      (cells-2 : List K.Value) (words-2 : List ℕ) (table-2 : List Record) → columns S ≤ length table-2
      → ((y : ℕ) → y < columns S → rows_at K cells-2 words-2 table-2 y ≡ rows_at K cells words table y)
      → over (assembled K S cells-2 words-2 table-2) old ≡ out

  -- finer cuts and deeper nesting of the same rows write the same cells: of a piece
  abbrev pub PieceByCuts : List K.Value → List ℕ → List Record → List K.Value → List K.Value → Type 0
  PieceByCuts cells words table old out =
      (other : List Record) → Recut (leaf_records table 0) (leaf_records other 0) → over (rows_at K cells words other 0) old ≡ out

  -- and of columns, each cut and nested in its own way
  abbrev pub ColumnsByCuts : Shape → List K.Value → List ℕ → List Record → List K.Value → List K.Value → Type 0
  ColumnsByCuts S cells words table old out =
      (other : List Record) → columns S ≤ length other
      → ((y : ℕ) → y < columns S → Recut (leaf_records table y) (leaf_records other y))
      → over (assembled K S cells words other) old ≡ out
