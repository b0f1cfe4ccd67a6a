-- What a report charges to each pass, and what a reading is to be charged. Assumes nothing.
use Rattle.std.specs.Prelude.{◌≡◌, ℕ, cond, Ok, Err, Result, ◌==◌}
use Rattle.layout.specs.Shape.{Shape, area}
use Rattle.ingest.specs.declared.account.IngestReport.{IngestReport}
use Rattle.ingest.specs.declared.record.ConversionPass.{ConversionPass}
use Rattle.ingest.specs.declared.record.ConversionPass.TheVariants.{Shared, Copied, Gathered, Widened}
use Rattle.ingest.specs.Passes.{rank_of}

abbrev pub charged_of : IngestReport → ConversionPass → ℕ
charged_of report Shared = report.shared
charged_of report Copied = report.copied
charged_of report Gathered = report.gathered
charged_of report Widened = report.widened

-- what a column of this pass and so many rows adds to what p is charged
abbrev pub charge : ConversionPass → ConversionPass → ℕ → ℕ
charge p pass rows = cond (rank_of p == rank_of pass) rows 0

-- whether a call was accepted, whatever it then answers
abbrev pub outcome : {T E : Type 0} → Result T E → Result (Unit {0}) E
outcome (Ok x) = Ok tt
outcome (Err e) = Err e

-- a committed vector is charged to Shared, and nothing pads it
abbrev pub CommittedReport : Shape → IngestReport → Type 0
CommittedReport S report = ((p : ConversionPass) → charged_of report p ≡ charge p Shared (area S)) × (report.envelope ≡ 0)
