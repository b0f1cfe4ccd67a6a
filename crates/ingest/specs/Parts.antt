-- What a table tells of each record, by what it tells of the parts. Assumes nothing.
use Rattle.std.specs.Prelude.{◌≡◌, ℕ, ◌+◌, ◌<◌, ◌≤◌, ◌⊎◌, List, [], ◌∷◌, map, length, sum}
use Rattle.std.specs.List.{range_with_len}
use Rattle.ring.specs.Operations.{Operations}
use Rattle.ingest.specs.declared.record.ConversionPass.{ConversionPass}
use Rattle.ingest.specs.declared.record.ConversionPass.TheVariants.{Copied, Gathered, Widened}
use Rattle.ingest.specs.declared.record.Record.{Record}
use Rattle.ingest.specs.declared.record.Record.TheVariants.{Dense, Interleaved, Bits, Chunked}
use Rattle.ingest.specs.Order.{record_at}
use Rattle.ingest.specs.Passes.{rank_of}
use Rattle.ingest.specs.Rows.{leaf_rows, rows_at}
use Rattle.ingest.specs.Table.{flat, leaf_height, height_of, pass_of, leaves_at}

module _ {A : Type 0} (leaf : ℕ → Record → A) (chunk : List A → A) (told : ℕ → A) where
  -- a leaf has its own, and a chunk is made of what is told of the records of its run, in their order
  abbrev pub by_parts : ℕ → Record → A
  by_parts i (Dense place height) = leaf i (Dense place height)
  by_parts i (Interleaved place len first stride height) = leaf i (Interleaved place len first stride height)
  by_parts i (Bits place words height) = leaf i (Bits place words height)
  by_parts i (Chunked from count) = chunk (map told (range_with_len from count))

  abbrev pub ByParts : List Record → Type 0
  ByParts table = (i : ℕ) → i < length table → told i ≡ by_parts i (record_at table i)

-- a chunk's height is the sum over its parts
abbrev pub HeightsByParts : List Record → Type 0
HeightsByParts table = ByParts (λ _ r. leaf_height r) sum (height_of table) table

-- a chunk's leaves are those of its parts, one part after the other
abbrev pub LeavesByParts : List Record → Type 0
LeavesByParts table = ByParts (λ i _. i ∷ []) flat (leaves_at table) table

-- so are its rows
abbrev pub RowsByParts : (K : Operations) → List K.Value → List ℕ → List Record → Type 0
RowsByParts K cells words table = ByParts (λ _ r. leaf_rows K cells words r) flat (rows_at K cells words table) table

-- the pass of a run: that of one of its records, or Copied where it has none, and no record of it has a pass of a higher rank
pub record HighestPass (told : ℕ → ConversionPass) (from count : ℕ) (pass : ConversionPass) : Type 0 where
  pub one : ((count ≡ 0) × (pass ≡ Copied)) ⊎ ((p : ℕ) × ((from ≤ p) × (p < from + count) × (told p ≡ pass)))
  pub none_higher : (p : ℕ) → from ≤ p → p < from + count → rank_of (told p) ≤ rank_of pass

-- what a record's pass is
abbrev pub PassIs : (ℕ → ConversionPass) → Record → ConversionPass → Type 0
PassIs told (Dense place height) pass = pass ≡ Copied
PassIs told (Interleaved place len first stride height) pass = pass ≡ Gathered
PassIs told (Bits place words height) pass = pass ≡ Widened
PassIs told (Chunked from count) pass = HighestPass told from count pass

abbrev pub PassesByParts : List Record → Type 0
PassesByParts table = (i : ℕ) → i < length table → PassIs (pass_of table) (record_at table i) (pass_of table i)
