-- What is told of a refused call. Assumes nothing.
use Rattle.std.specs.Prelude.{ℕ, List}
use Rattle.ingest.specs.declared.fault.JaggedIngestError.{JaggedIngestError}
use Rattle.ingest.specs.Faults.{fault_number}
use Rattle.ingest.specs.Texts.{ingest_fault_fields}
use Rattle.script.specs.Records.{fault}

abbrev pub ingest_fault : JaggedIngestError → List ℕ
ingest_fault f = fault (fault_number f) (ingest_fault_fields f)
