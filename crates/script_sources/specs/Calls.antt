-- What a line says of tables: which call, with what. Assumes nothing.
use Rattle.std.specs.Prelude.{ℕ, List, Some, None, vec_items, string_bytes, codes, Option}
use Rattle.std.specs.Option.{option_map}
use Rattle.ingest.specs.declared.record.Record.{Record}
use Rattle.words.specs.Arguments.{and, with, at, named, or}
use Rattle.words.specs.Words.{number_of, list_of, name_of}
use Rattle.script.specs.declared.call.Kind.{Kind}
use Rattle.script.specs.Calls.{kind_of}
use Rattle.script_sources.specs.declared.call.Call.{Call}
use Rattle.script_sources.specs.declared.call.Call.TheVariants as call
use Rattle.script_sources.specs.declared.call.CellsCall.{CellsCall}
use Rattle.script_sources.specs.declared.call.CellsCall.TheVariants as cells
use Rattle.script_sources.specs.Tables.{headed, table_of}

-- a call at a ring kind; a slot is given by its name, cells by the numbers of their elements
pub data CellsSaid : Type 0 where
  read_columns : List ℕ → List Record → ℕ → List ℕ → List ℕ → List ℕ → CellsSaid
  read_committed : List ℕ → List ℕ → CellsSaid
  witness_of_vector : List ℕ → List ℕ → CellsSaid
  witness_of_buffer : List ℕ → List ℕ → CellsSaid
  write_piece : List Record → ℕ → List ℕ → List ℕ → List ℕ → CellsSaid

-- a call
pub data Said : Type 0 where
  check_order : List Record → ℕ → Said
  height : List Record → ℕ → ℕ → Said
  pass : List Record → ℕ → ℕ → Said
  heights : List Record → ℕ → List ℕ → Said
  piece_height : List Record → ℕ → Said
  at_kind : Kind → CellsSaid → Said

abbrev pub cells_said : CellsCall → CellsSaid
cells_said (cells.ReadColumns name table sources block words buffer) = read_columns (string_bytes name) (vec_items table) sources (vec_items block) (vec_items words) (vec_items buffer)
cells_said (cells.ReadCommitted name block) = read_committed (string_bytes name) (vec_items block)
cells_said (cells.WitnessOfVector name block) = witness_of_vector (string_bytes name) (vec_items block)
cells_said (cells.WitnessOfBuffer name block) = witness_of_buffer (string_bytes name) (vec_items block)
cells_said (cells.WritePiece table column block words buffer) = write_piece (vec_items table) column (vec_items block) (vec_items words) (vec_items buffer)

abbrev pub said : Call → Said
said (call.CheckOrder table sources) = check_order (vec_items table) sources
said (call.Height table sources column) = height (vec_items table) sources column
said (call.Pass table sources column) = pass (vec_items table) sources column
said (call.Heights table sources buffer) = heights (vec_items table) sources (vec_items buffer)
said (call.PieceHeight table column) = piece_height (vec_items table) column
said (call.Cells kind c) = at_kind kind (cells_said c)

-- the arguments of each call
module _ (arguments : List (List ℕ)) where
  abbrev pub order_says : Option Said
  order_says = with 2 arguments (and (table_of (at arguments 0)) (λ table. and (number_of (at arguments 1)) (λ sources. Some (check_order table sources))))

  -- a table, its sources and a column
  abbrev pub column_says : Option (List Record × ℕ × ℕ)
  column_says = with 3 arguments (and (table_of (at arguments 0)) (λ table. and (number_of (at arguments 1)) (λ sources. and (number_of (at arguments 2)) (λ column. Some (table, sources, column)))))

  abbrev pub height_says : Option Said
  height_says = and column_says (λ p. Some (height p.0 p.1 p.2))

  abbrev pub pass_says : Option Said
  pass_says = and column_says (λ p. Some (pass p.0 p.1 p.2))

  abbrev pub heights_says : Option Said
  heights_says = with 3 arguments (and (table_of (at arguments 0)) (λ table. and (number_of (at arguments 1)) (λ sources. and (list_of (at arguments 2)) (λ buffer. Some (heights table sources buffer)))))

  abbrev pub piece_height_says : Option Said
  piece_height_says = with 2 arguments (and (table_of (at arguments 0)) (λ table. and (number_of (at arguments 1)) (λ column. Some (piece_height table column))))

  abbrev pub read_columns_says : Option CellsSaid
  read_columns_says = with 6 arguments (and (name_of (at arguments 0)) (λ name. and (table_of (at arguments 1)) (λ table. and (number_of (at arguments 2)) (λ sources. and (list_of (at arguments 3)) (λ cells. and (list_of (at arguments 4)) (λ words. and (list_of (at arguments 5)) (λ buffer. Some (read_columns name table sources cells words buffer))))))))

  -- a slot's name, and cells
  abbrev pub slot_says : Option (List ℕ × List ℕ)
  slot_says = with 2 arguments (and (name_of (at arguments 0)) (λ name. and (list_of (at arguments 1)) (λ cells. Some (name, cells))))

  abbrev pub read_committed_says : Option CellsSaid
  read_committed_says = and slot_says (λ p. Some (read_committed p.0 p.1))

  abbrev pub witness_of_vector_says : Option CellsSaid
  witness_of_vector_says = and slot_says (λ p. Some (witness_of_vector p.0 p.1))

  abbrev pub witness_of_buffer_says : Option CellsSaid
  witness_of_buffer_says = and slot_says (λ p. Some (witness_of_buffer p.0 p.1))

  abbrev pub write_piece_says : Option CellsSaid
  write_piece_says = with 5 arguments (and (table_of (at arguments 0)) (λ table. and (number_of (at arguments 1)) (λ column. and (list_of (at arguments 2)) (λ cells. and (list_of (at arguments 3)) (λ words. and (list_of (at arguments 4)) (λ buffer. Some (write_piece table column cells words buffer)))))))

-- the call of a first word and its arguments
abbrev pub table_says : List ℕ → List (List ℕ) → Option Said
table_says name arguments =
    named name (codes "check_order") (order_says arguments)
    (named name (codes "height") (height_says arguments)
    (named name (codes "pass") (pass_says arguments)
    (named name (codes "heights") (heights_says arguments)
    (named name (codes "piece_height") (piece_height_says arguments) None))))

abbrev pub cells_says : List ℕ → List (List ℕ) → Option CellsSaid
cells_says name arguments =
    named name (codes "read_columns") (read_columns_says arguments)
    (named name (codes "read_committed") (read_committed_says arguments)
    (named name (codes "witness_of_vector") (witness_of_vector_says arguments)
    (named name (codes "witness_of_buffer") (witness_of_buffer_says arguments)
    (named name (codes "write_piece") (write_piece_says arguments) None))))

-- a call at a ring kind has its kind first
abbrev pub kind_says : List ℕ → List ℕ → List (List ℕ) → Option Said
kind_says name word arguments = and (kind_of word) (λ kind. option_map (at_kind kind) (cells_says name arguments))

abbrev pub line_says : List ℕ → List (List ℕ) → Option Said
line_says name arguments = or (table_says name arguments) (headed (kind_says name) arguments)

-- the call that the words of a line say
unfoldable pub meaning : List (List ℕ) → Option Said
meaning words = headed line_says words
