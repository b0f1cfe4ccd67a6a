-- The records and tables that words say. Assumes nothing.
use Rattle.std.specs.Prelude.{ℕ, ◌^◌, cond, List, length, drop, Some, None, codes, Option, ◌==◌}
use Rattle.ingest.specs.declared.record.Record.{Record}
use Rattle.ingest.specs.declared.record.Record.TheVariants.{Dense, Interleaved, Bits, Chunked}
use Rattle.words.specs.declared.split.Mark.TheVariants.{Semicolon, Colon}
use Rattle.words.specs.Arguments.{and, with, at, named}
use Rattle.words.specs.Cuts.{pieces}
use Rattle.words.specs.Words.{number_of, run_by, list_by}

-- the most records that a table of a script has
abbrev pub max_table : ℕ
max_table = 2 ^ 16

-- the numbers of a record of each kind
module _ (fields : List (List ℕ)) where
  abbrev pub dense_says : Option Record
  dense_says = with 2 fields (and (number_of (at fields 0)) (λ place. and (number_of (at fields 1)) (λ height. Some (Dense place height))))

  abbrev pub interleaved_says : Option Record
  interleaved_says = with 5 fields (and (number_of (at fields 0)) (λ place. and (number_of (at fields 1)) (λ len. and (number_of (at fields 2)) (λ first. and (number_of (at fields 3)) (λ stride. and (number_of (at fields 4)) (λ height. Some (Interleaved place len first stride height)))))))

  abbrev pub bits_says : Option Record
  bits_says = with 3 fields (and (number_of (at fields 0)) (λ place. and (number_of (at fields 1)) (λ words. and (number_of (at fields 2)) (λ height. Some (Bits place words height)))))

  abbrev pub chunked_says : Option Record
  chunked_says = with 2 fields (and (number_of (at fields 0)) (λ from. and (number_of (at fields 1)) (λ count. Some (Chunked from count))))

-- a record's kind, then its numbers
abbrev pub fields_say : List ℕ → List (List ℕ) → Option Record
fields_say kind fields =
    named kind (codes "dense") (dense_says fields)
    (named kind (codes "interleaved") (interleaved_says fields)
    (named kind (codes "bits") (bits_says fields)
    (named kind (codes "chunked") (chunked_says fields) None)))

-- what a first word says with the words after it
abbrev pub headed : {B : Type 0} → (List ℕ → List (List ℕ) → Option B) → List (List ℕ) → Option B
headed says words = cond (length words == 0) None (says (at words 0) (drop 1 words))

-- the record that a word says: its parts have colons between them
unfoldable pub record_of : List ℕ → Option Record
record_of w = headed fields_say (pieces Colon w)

-- what an item of a table says: `r` is r once, `r*k` is r k times
abbrev pub run_of : List ℕ → Option (List Record)
run_of w = run_by record_of w

-- the table that a word says: items with semicolons between them, or a dash
abbrev pub table_of : List ℕ → Option (List Record)
table_of w = list_by run_of Semicolon max_table w
