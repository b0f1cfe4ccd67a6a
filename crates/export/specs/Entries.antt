-- Records as six numbers. Assumes nothing.
use Rattle.std.specs.Prelude.{cond, List, map, take, ◌==◌}
use Rattle.ingest.specs.declared.record.Record.{Record}
use Rattle.ingest.specs.declared.record.Record.TheVariants.{Dense, Interleaved, Bits, Chunked}
use Rattle.export.specs.declared.entry.Entry.{Entry}

-- the record that an entry stands for: 0 is dense, 1 interleaved, 2 bits, and any other kind chunked
abbrev pub record_of : Entry → Record
record_of e = cond (e.kind == 0) (Dense e.place e.height) (cond (e.kind == 1) (Interleaved e.place e.length e.first e.stride e.height) (cond (e.kind == 2) (Bits e.place e.length e.height) (Chunked e.place e.height)))

-- the table that a call's entries stand for: as many records as a table can have and one more, so that a longer table is refused as one
abbrev pub table_of : List Entry → List Record
table_of entries = map record_of (take 4097 entries)
