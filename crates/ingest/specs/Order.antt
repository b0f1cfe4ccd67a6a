-- Which record of a table is out of order. Assumes nothing.
use Rattle.std.specs.Prelude.{◌≡◌, ℕ, ◌+◌, ◌<◌, ◌≤◌, Bool, true, false, cond, not, ◌||◌, ◌⊎◌, List, [], ◌∷◌, length, take, is_some, Some, None, fold, Option, ◌==◌, nat_le, nat_lt, slice_index_or}
use Rattle.layout.specs.Powers.{Least}
use Rattle.std.specs.Option.{unwrap_or}
use Rattle.ring.specs.Checks.{Check, when}
use Rattle.ingest.specs.declared.fault.JaggedIngestError.{JaggedIngestError}
use Rattle.ingest.specs.declared.fault.JaggedIngestError.TheVariants.{TableOutOfOrder}
use Rattle.ingest.specs.declared.record.Record.{Record}
use Rattle.ingest.specs.declared.record.Record.TheVariants.{Dense, Interleaved, Bits, Chunked}

-- the most records that a table has
abbrev pub max_records : ℕ
max_records = 4096

-- record i of a table; one that is absent reads as a leaf of no rows
abbrev pub record_at : List Record → ℕ → Record
record_at table i = slice_index_or table i (Dense 0 0)

-- a chunk has to begin its run here
abbrev pub begins_at : ℕ → Record → Bool
begins_at next (Dense place height) = true
begins_at next (Interleaved place len first stride height) = true
begins_at next (Bits place words height) = true
begins_at next (Chunked from count) = from == next

-- where the next run begins after a record
abbrev pub run_end : ℕ → Record → ℕ
run_end next (Dense place height) = next
run_end next (Interleaved place len first stride height) = next
run_end next (Bits place words height) = next
run_end next (Chunked from count) = from + count

-- the first record that is out of order among those from i on, where runs have reached up to `next`
abbrev pub wrong_from : ℕ → ℕ → List Record → Option ℕ
wrong_from i next [] = cond (nat_lt i next) (Some i) None
wrong_from i next (r ∷ rs) =
    cond (nat_le next i || nat_le max_records i || not (begins_at next r)) (Some i) (wrong_from (i + 1) (run_end next r) rs)

-- the columns come first, and the runs follow them
abbrev pub wrong_record : List Record → ℕ → Option ℕ
wrong_record table sources = wrong_from 0 sources table

abbrev pub order_check : List Record → ℕ → Check JaggedIngestError
order_check table sources = when (is_some (wrong_record table sources)) (TableOutOfOrder (unwrap_or (wrong_record table sources) 0))

-- a chunk with record i in its run
abbrev pub InRun : Record → ℕ → Type 0
InRun (Dense place height) i = ⊥
InRun (Interleaved place len first stride height) i = ⊥
InRun (Bits place words height) i = ⊥
InRun (Chunked from count) i = (from ≤ i) × (i < from + count)

-- record i is in the run of a record that is present and stands before number k
abbrev pub InRunBefore : List Record → ℕ → ℕ → Type 0
InRunBefore table k i = (j : ℕ) × ((j < k) × (j < length table) × InRun (record_at table j) i)

-- where a chunk at record i has to begin its run: the end of the last run before it, or after the columns
abbrev pub next_at : List Record → ℕ → ℕ → ℕ
next_at table sources i = fold run_end sources (take i table)

-- a column, or in the run of a record that is present
abbrev pub Wanted : List Record → ℕ → ℕ → Type 0
Wanted table sources i = (i < sources) ⊎ InRunBefore table (length table) i

-- present, and a chunk whose run begins wrongly
abbrev pub BeginsWrongly : List Record → ℕ → ℕ → Type 0
BeginsWrongly table sources i = (i < length table) × (begins_at (next_at table sources i) (record_at table i) ≡ false)

-- present, and neither a column nor in an earlier record's run
abbrev pub Stray : List Record → ℕ → ℕ → Type 0
Stray table sources i = (i < length table) × (sources ≤ i) × (InRunBefore table i i → ⊥)

-- wanted but absent
abbrev pub Absent : List Record → ℕ → ℕ → Type 0
Absent table sources i = (length table ≤ i) × Wanted table sources i

-- the first number that no record may have, present or wanted
abbrev pub TooMany : List Record → ℕ → ℕ → Type 0
TooMany table sources i = (i ≡ max_records) × ((i < length table) ⊎ Wanted table sources i)

abbrev pub Wrong : List Record → ℕ → ℕ → Type 0
Wrong table sources i = BeginsWrongly table sources i ⊎ (Stray table sources i ⊎ (Absent table sources i ⊎ TooMany table sources i))

-- the lowest record that is wrong, or none where none is
abbrev pub LowestWrong : List Record → ℕ → Option ℕ → Type 0
LowestWrong table sources None = (i : ℕ) → Wrong table sources i → ⊥
LowestWrong table sources (Some i) = Least (Wrong table sources) i
