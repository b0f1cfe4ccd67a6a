use Rattle.std.proofs.Common.{subst}
use Rattle.ingest.specs.Parts.{PassesByParts}
use Rattle.ingest.proofs.Parts.{passes_by_parts}
use Rattle.ingest.proofs.table.pass.Goals as goal

pub returns-clause-highest : goal.returns-clause-highest
returns-clause-highest c =
    let ordered = c.in_ok-ordered.ordered in
    subst PassesByParts c.in_ok-ordered.ensures.same.0 (passes_by_parts ordered.records.now ordered.sound)
