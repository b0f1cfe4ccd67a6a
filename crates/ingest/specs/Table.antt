-- What the records of a table yield: heights, passes, leaves and rows, built from the end, since parts come later. Assumes nothing.
use Rattle.std.specs.Prelude.{◌≡◌, ℕ, ◌+◌, ◌-◌, ◌<◌, ◌≤◌, List, [], ◌∷◌, length, take, drop, fold, sum, slice_index, slice_index_or}
use Rattle.std.specs.List.{flat_map}
use Rattle.ingest.specs.declared.record.ConversionPass.{ConversionPass}
use Rattle.ingest.specs.declared.record.ConversionPass.TheVariants.{Copied, Gathered, Widened}
use Rattle.ingest.specs.declared.record.Record.{Record}
use Rattle.ingest.specs.declared.record.Record.TheVariants.{Dense, Interleaved, Bits, Chunked}
use Rattle.ingest.specs.Order.{record_at}
use Rattle.ingest.specs.Passes.{higher_of}

module _ {A : Type 0} (leaf : ℕ → Record → A) (chunk : List A → A) where
  -- what record i yields, where `later` is what each record after it yields: a chunk is made of its run
  abbrev pub yielded : ℕ → Record → List A → A
  yielded i (Dense place height) later = leaf i (Dense place height)
  yielded i (Interleaved place len first stride height) later = leaf i (Interleaved place len first stride height)
  yielded i (Bits place words height) later = leaf i (Bits place words height)
  yielded i (Chunked from count) later = chunk (take count (drop (from - (i + 1)) later))

  -- what each of these records yields, the first of them being record i
  abbrev pub yields : ℕ → List Record → List A
  yields i [] = []
  yields i (r ∷ rs) = yielded i r (yields (i + 1) rs) ∷ yields (i + 1) rs

-- the parts one after the other
abbrev pub flat : {A : Type 0} → List (List A) → List A
flat parts = flat_map (λ part. part) parts

-- every chunk's parts come after it, and are present
abbrev pub Sound : List Record → Type 0
Sound table = (i from count : ℕ) → i < length table → record_at table i ≡ Chunked from count → (i < from) × (from + count ≤ length table)

-- a leaf tells its height
abbrev pub leaf_height : Record → ℕ
leaf_height (Dense place height) = height
leaf_height (Interleaved place len first stride height) = height
leaf_height (Bits place words height) = height
leaf_height (Chunked from count) = 0

-- a chunk's height is the sum over its parts
unfoldable pub heights_of : List Record → List ℕ
heights_of table = yields (λ _ r. leaf_height r) sum 0 table

abbrev pub height_of : List Record → ℕ → ℕ
height_of table i = slice_index (heights_of table) i

abbrev pub leaf_pass : Record → ConversionPass
leaf_pass (Dense place height) = Copied
leaf_pass (Interleaved place len first stride height) = Gathered
leaf_pass (Bits place words height) = Widened
leaf_pass (Chunked from count) = Copied

-- the pass of the highest rank, Copied if there is none; no leaf's pass has a lower rank
abbrev pub highest : List ConversionPass → ConversionPass
highest passes = fold higher_of Copied passes

unfoldable pub passes_of : List Record → List ConversionPass
passes_of table = yields (λ _ r. leaf_pass r) highest 0 table

abbrev pub pass_of : List Record → ℕ → ConversionPass
pass_of table i = slice_index_or (passes_of table) i Copied

-- the numbers of the leaves, in the order of their rows
unfoldable pub leaves_of : List Record → List (List ℕ)
leaves_of table = yields (λ i _. i ∷ []) flat 0 table

abbrev pub leaves_at : List Record → ℕ → List ℕ
leaves_at table i = slice_index_or (leaves_of table) i []
