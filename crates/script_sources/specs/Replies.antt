-- What a line is answered: the text that is told, or none where the line is no call. Assumes nothing.
use Rattle.std.specs.Prelude.{◌≡◌, ℕ, ◌-◌, ◌%◌, List, [], ◌∷◌, ◌++◌, map, length, take, drop, Some, None, codes, decimal, MatchBool, sum, Option, Ok, Err, Result, MatchResult, ⊤, ◌==◌}
use Rattle.std.specs.List.{range_with_len}
use Rattle.ring.specs.Bytes.{over}
use Rattle.ring.specs.Checks.{verdict}
use Rattle.layout.specs.Shape.{Shape, columns, height as height_in, area, capacity}
use Rattle.ingest.specs.declared.fault.JaggedIngestError.{JaggedIngestError}
use Rattle.ingest.specs.declared.record.ConversionPass.TheVariants.{Shared}
use Rattle.ingest.specs.declared.record.Record.{Record}
use Rattle.ingest.specs.Asked.{height_checks, pass_checks, heights_checks}
use Rattle.ingest.specs.Charges.{charge}
use Rattle.ingest.specs.Order.{order_check}
use Rattle.ingest.specs.Piece.{piece_height_checks, piece_checks}
use Rattle.ingest.specs.Reading.{read_checks, assembled, RowsPlaced}
use Rattle.ingest.specs.Rows.{rows_at}
use Rattle.ingest.specs.Table.{height_of, heights_of, pass_of}
use Rattle.ingest.specs.Texts.{pass_name, report_fields}
use Rattle.ingest.specs.Vector.{vector_checks, buffer_checks}
use Rattle.script.specs.declared.call.Kind.{Kind}
use Rattle.script.specs.declared.call.Kind.TheVariants.{Residue, Word, PairResidue, PairWord, PairPairResidue, PairPairWord}
use Rattle.script.specs.Cells.{Numbered}
use Rattle.script.specs.Kits.{Kit, residue_kit, word_kit, pair_kit}
use Rattle.script.specs.Records.{field, commas, separated}
use Rattle.script.specs.Replies.{answered}
use Rattle.words.specs.declared.unsaid.Unsaid.TheVariants.{Nothing, NoMemory}
use Rattle.script_sources.specs.declared.refusal.Refusal.{Refusal}
use Rattle.script_sources.specs.declared.refusal.Refusal.TheVariants.{Unsaid, Fault}
use Rattle.script_sources.specs.Calls.{CellsSaid, read_columns, read_committed, witness_of_vector, witness_of_buffer, write_piece, Said, check_order, height, pass, heights, piece_height, at_kind}
use Rattle.script_sources.specs.Texts.{ingest_fault}

-- a table asked alone: the verdict of its checks, and what an accepted call answers
abbrev pub order_reply : List Record → ℕ → List ℕ
order_reply table sources = answered (λ _. []) ingest_fault (verdict {T = Unit {0}} (order_check table sources ∷ []) tt)

abbrev pub height_reply : List Record → ℕ → ℕ → List ℕ
height_reply table sources column = answered (λ h. field "height" (decimal h)) ingest_fault (verdict (height_checks table sources column) (height_of table column))

abbrev pub pass_reply : List Record → ℕ → ℕ → List ℕ
pass_reply table sources column = answered (λ p. field "pass" (pass_name p)) ingest_fault (verdict (pass_checks table sources column) (pass_of table column))

-- how many heights were written, and the whole buffer
abbrev pub heights_reply : List Record → ℕ → List ℕ → List ℕ
heights_reply table sources buffer = answered (λ n. field "written" (decimal n) ++ field "heights" (commas (over (take sources (heights_of table)) buffer))) ingest_fault (verdict (heights_checks table sources (length buffer)) sources)

abbrev pub piece_height_reply : List Record → ℕ → List ℕ
piece_height_reply table column = answered (λ h. field "height" (decimal h)) ingest_fault (verdict (piece_height_checks table column) (height_of table 0))

-- the report of columns: each is charged whole to its pass, and the padding is what the capacity has past the area
abbrev pub columns_fields : Shape → List Record → List ℕ
columns_fields S table = report_fields (λ p. sum (map (λ y. charge p (pass_of table y) (height_in S y)) (range_with_len 0 (columns S)))) (capacity S - area S)

-- the report of a committed vector: all is shared, and nothing pads it
abbrev pub committed_fields : Shape → List ℕ
committed_fields S = report_fields (λ p. charge p Shared (area S)) 0

abbrev pub committed_reply : Shape → ℕ → List ℕ
committed_reply S cells = answered (λ _. committed_fields S) ingest_fault (verdict {T = Unit {0}} (vector_checks S cells) tt)

module _ {E : Type 0} (K : Kit E) where
  abbrev pub cells_field : List E → List ℕ
  cells_field cells = field "cells" (separated K.text cells)

  -- the witness: the front of the cells, up to the capacity
  abbrev pub vector_reply : Shape → List E → List ℕ
  vector_reply S cells = answered (λ _. cells_field (take (capacity S) cells)) ingest_fault (verdict {T = Unit {0}} (vector_checks S (length cells)) tt)

  abbrev pub buffer_reply : Shape → List E → List ℕ
  buffer_reply S cells = answered (λ _. cells_field (take (capacity S) cells)) ingest_fault (verdict {T = Unit {0}} (buffer_checks S (length cells)) tt)

  -- of columns that were read: the values of the buffer, what it keeps, and where each row lies
  abbrev pub Read : Shape → List Record → List E → List ℕ → List E → List E → Type 0
  Read S table cells words buffer out =
      (map K.value out ≡ over (assembled K.ops S (map K.value cells) words table) (map K.value buffer))
      × (drop (capacity S) out ≡ drop (capacity S) buffer)
      × RowsPlaced K.ops S (map K.value cells) words table (map K.value out)

  -- of a piece that was written: the values of the buffer, and what it keeps
  abbrev pub Written : List Record → List E → List ℕ → List E → List E → Type 0
  Written table cells words buffer out =
      (map K.value out ≡ over (rows_at K.ops (map K.value cells) words table 0) (map K.value buffer))
      × (drop (height_of table 0) out ≡ drop (height_of table 0) buffer)

  -- the fault of a refused call; of an accepted one, fields and the whole buffer, of which something holds
  abbrev pub Buffered : {T : Type 0} → Result T JaggedIngestError → (T → List ℕ) → (List E → Type 0) → List ℕ → Type 0
  Buffered r fields Holds text = MatchResult r (λ x. (out : List E) × Holds out × (text ≡ codes "ok" ++ (fields x ++ cells_field out))) (λ f. text ≡ ingest_fault f)

  abbrev pub ReadReply : Shape → List Record → ℕ → List E → List ℕ → List E → List ℕ → Type 0
  ReadReply S table sources cells words buffer = Buffered (verdict {T = Unit {0}} (read_checks S table sources (length cells) (length words) (length buffer)) tt) (λ _. columns_fields S table) (Read S table cells words buffer)

  abbrev pub PieceReply : List Record → ℕ → List E → List ℕ → List E → List ℕ → Type 0
  PieceReply table column cells words buffer = Buffered (verdict (piece_checks table column (length cells) (length words) (length buffer)) (height_of table 0)) (λ h. field "height" (decimal h)) (Written table cells words buffer)

  module _ (told : Option (List ℕ)) where
    -- the cells of a list of numbers; the line is no call where the list ends amid an element
    abbrev pub Given : List ℕ → (List E → Type 0) → Type 0
    Given ns P = MatchBool (length ns % K.parts == 0) ((xs : List E) × Numbered K.parts K.numbered ns xs × P xs) (told ≡ None)

    -- a text is told, of which something holds
    abbrev pub Telling : (List ℕ → Type 0) → Type 0
    Telling P = (text : List ℕ) × (told ≡ Some text) × P text

    abbrev pub CellsReply : (List ℕ → Shape) → CellsSaid → Type 0
    CellsReply slots (read_columns name table sources cells words buffer) = Given cells (λ xs. Given buffer (λ bs. Telling (ReadReply (slots name) table sources xs words bs)))
    CellsReply slots (read_committed name cells) = Given cells (λ xs. told ≡ Some (committed_reply (slots name) (length xs)))
    CellsReply slots (witness_of_vector name cells) = Given cells (λ xs. told ≡ Some (vector_reply (slots name) xs))
    CellsReply slots (witness_of_buffer name cells) = Given cells (λ xs. told ≡ Some (buffer_reply (slots name) xs))
    CellsReply slots (write_piece table column cells words buffer) = Given cells (λ xs. Given buffer (λ bs. Telling (PieceReply table column xs words bs)))

-- the same at each kind
abbrev pub KindReply : Kind → (List ℕ → Shape) → CellsSaid → Option (List ℕ) → Type 0
KindReply Residue slots c told = CellsReply residue_kit told slots c
KindReply Word slots c told = CellsReply word_kit told slots c
KindReply PairResidue slots c told = CellsReply (pair_kit residue_kit) told slots c
KindReply PairWord slots c told = CellsReply (pair_kit word_kit) told slots c
KindReply PairPairResidue slots c told = CellsReply (pair_kit (pair_kit residue_kit)) told slots c
KindReply PairPairWord slots c told = CellsReply (pair_kit (pair_kit word_kit)) told slots c

-- what is told of a call, where the names hold these shapes
abbrev pub Reply : (List ℕ → Shape) → Said → Option (List ℕ) → Type 0
Reply slots (check_order table sources) told = told ≡ Some (order_reply table sources)
Reply slots (height table sources column) told = told ≡ Some (height_reply table sources column)
Reply slots (pass table sources column) told = told ≡ Some (pass_reply table sources column)
Reply slots (heights table sources buffer) told = told ≡ Some (heights_reply table sources buffer)
Reply slots (piece_height table column) told = told ≡ Some (piece_height_reply table column)
Reply slots (at_kind kind c) told = KindReply kind slots c told

-- nothing is told where the words say no call
abbrev pub Answered : (List ℕ → Shape) → Option Said → Option (List ℕ) → Type 0
Answered slots None told = told ≡ None
Answered slots (Some call) told = Reply slots call told

-- what holds of that which is told: an accepted call's text, a refused call's fault, or none; without memory nothing is promised
abbrev pub Tells : {T : Type 0} → (T → List ℕ) → (Option (List ℕ) → Type 0) → Result T Refusal → Type 0
Tells view Holds (Ok text) = Holds (Some (view text))
Tells view Holds (Err (Fault f)) = Holds (Some (ingest_fault f))
Tells view Holds (Err (Unsaid Nothing)) = Holds None
Tells view Holds (Err (Unsaid (NoMemory e))) = ⊤
