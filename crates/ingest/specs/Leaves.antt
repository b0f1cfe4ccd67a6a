-- What is checked of a leaf, in order, against the lengths of the two blocks. Sums and products are those of whole numbers. Assumes nothing.
use Rattle.std.specs.Prelude.{ℕ, ◌+◌, ◌-◌, ◌*◌, ◌/◌, ◌%◌, min, ◌&&◌, List, [], ◌∷◌, ◌==◌, nat_lt, slice_index_or}
use Rattle.ring.specs.Checks.{Check, when}
use Rattle.ring.specs.Coefficients.{told}
use Rattle.ingest.specs.declared.fault.LeafError.{LeafError}
use Rattle.ingest.specs.declared.fault.LeafError.TheVariants.{ZeroStride, StrideOutOfRange, PackedWordsTooShort, PlaceOutsideBlock}
use Rattle.ingest.specs.declared.record.Record.{Record}
use Rattle.ingest.specs.declared.record.Record.TheVariants.{Dense, Interleaved, Bits, Chunked}
use Rattle.ingest.specs.Table.{yields, flat}

-- the cells up to the last row of a leaf that has rows
abbrev pub reach : ℕ → ℕ → ℕ → ℕ
reach first stride height = first + (height - 1) * stride + 1

-- the words that hold so many bits
abbrev pub words_for : ℕ → ℕ
words_for height = height / 64 + min 1 (height % 64)

-- a leaf of no rows has no stride to check
abbrev pub strided_checks : ℕ → ℕ → ℕ → ℕ → ℕ → List (Check LeafError)
strided_checks column available first stride height =
    when (nat_lt 0 height && stride == 0) (ZeroStride column)
    ∷ when (nat_lt 0 height && nat_lt available (reach first stride height)) (StrideOutOfRange column (told (reach first stride height)) available)
    ∷ []

abbrev pub packed_checks : ℕ → ℕ → ℕ → List (Check LeafError)
packed_checks column available height = when (nat_lt available (words_for height)) (PackedWordsTooShort column (words_for height) available) ∷ []

-- the end of a leaf's cells or words lies in its block
abbrev pub place_check : ℕ → ℕ → ℕ → ℕ → Check LeafError
place_check column number block end = when (nat_lt block end) (PlaceOutsideBlock column number)

-- of record i, a leaf of the column
abbrev pub leaf_checks : ℕ → ℕ → ℕ → ℕ → Record → List (Check LeafError)
leaf_checks cells words column i (Dense place height) = place_check column i cells (place + height) ∷ []
leaf_checks cells words column i (Interleaved place len first stride height) =
    place_check column i cells (place + len) ∷ strided_checks column len first stride height
leaf_checks cells words column i (Bits place count height) =
    place_check column i words (place + count) ∷ packed_checks column count height
leaf_checks cells words column i (Chunked from count) = []

-- of the leaves of each record, in the order of their rows
unfoldable pub checks_of : ℕ → ℕ → ℕ → List Record → List (List (Check LeafError))
checks_of cells words column table = yields (leaf_checks cells words column) flat 0 table

abbrev pub checks_at : ℕ → ℕ → ℕ → List Record → ℕ → List (Check LeafError)
checks_at cells words column table i = slice_index_or (checks_of cells words column table) i []
