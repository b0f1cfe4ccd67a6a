use Rattle.std.proofs.Common.{subst}
use Rattle.ingest.specs.Parts.{HeightsByParts}
use Rattle.ingest.proofs.Parts.{heights_by_parts}
use Rattle.ingest.proofs.Told.{on_ok_always}
use Rattle.ingest.proofs.table.height.Goals as goal

pub returns-clause-parts : goal.returns-clause-parts
returns-clause-parts c =
    let ordered = c.in_ok-ordered.ordered in
    on_ok_always _ (HeightsByParts c.args.table.now) (subst HeightsByParts c.in_ok-ordered.ensures.same.0 (heights_by_parts ordered.records.now ordered.sound))
