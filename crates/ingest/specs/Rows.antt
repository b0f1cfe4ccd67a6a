-- The rows of each record, read off the two blocks. Assumes nothing.
use Rattle.std.specs.Prelude.{ℕ, ◌+◌, ◌*◌, ◌/◌, ◌%◌, ◌^◌, ◌<◌, ◌≤◌, Bool, cond, List, [], map, length, ◌==◌, slice_index, slice_index_or}
use Rattle.std.specs.List.{range_with_len, flat_map}
use Rattle.ring.specs.Operations.{Operations}
use Rattle.ingest.specs.declared.record.Record.{Record}
use Rattle.ingest.specs.declared.record.Record.TheVariants.{Dense, Interleaved, Bits, Chunked}
use Rattle.ingest.specs.Leaves.{reach, words_for}
use Rattle.ingest.specs.Order.{record_at}
use Rattle.ingest.specs.Table.{yields, flat, leaf_height}

-- bit r of the words from this place on, sixty-four to a word, the lowest first
abbrev pub bit_at : List ℕ → ℕ → ℕ → Bool
bit_at words place r = slice_index words (place + r / 64) / 2 ^ (r % 64) % 2 == 1

module _ (K : Operations) (cells : List K.Value) (words : List ℕ) where
  -- row r of a leaf
  abbrev pub leaf_row : Record → ℕ → K.Value
  leaf_row (Dense place height) r = slice_index_or cells (place + r) K.nought
  leaf_row (Interleaved place len first stride height) r = slice_index_or cells (place + (first + r * stride)) K.nought
  leaf_row (Bits place count height) r = cond (bit_at words place r) K.one K.nought
  leaf_row (Chunked from count) r = K.nought

  -- as many as its height
  abbrev pub leaf_rows : Record → List K.Value
  leaf_rows r = map (leaf_row r) (range_with_len 0 (leaf_height r))

  -- the rows of leaves, given by their numbers, one leaf after the other
  abbrev pub found_rows : List Record → List ℕ → List K.Value
  found_rows table numbers = flat_map (λ n. leaf_rows (record_at table n)) numbers

  -- a chunk's rows are those of its parts, one after the other
  unfoldable pub rows_of : List Record → List (List K.Value)
  rows_of table = yields (λ _ r. leaf_rows r) flat 0 table

  abbrev pub rows_at : List Record → ℕ → List K.Value
  rows_at table i = slice_index_or (rows_of table) i []

-- a leaf's rows lie in blocks of so many cells and words
abbrev pub Within : ℕ → ℕ → Record → Type 0
Within cells words (Dense place height) = place + height ≤ cells
Within cells words (Interleaved place len first stride height) = (place + len ≤ cells) × (0 < height → reach first stride height ≤ len)
Within cells words (Bits place count height) = (place + count ≤ words) × (words_for height ≤ count)
Within cells words (Chunked from count) = Unit {0}

-- record n of a table is present, and its rows lie in such blocks
abbrev pub Sits : ℕ → ℕ → List Record → ℕ → Type 0
Sits cells words table n = (n < length table) × Within cells words (record_at table n)
