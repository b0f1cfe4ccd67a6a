use Rattle.std.proofs.Common.{rules}
use Rattle.ingest.proofs.Told.{checks_told}
use Rattle.ingest.proofs.ordered.Ordered.check_leaves.Goals as goal

pub returns : goal.returns
returns c = checks_told _ c.args.extent.cells c.args.extent.words c.args.column c.args.self.now.records.now c.args.record tt c.try_fold.result c.requires c.try_fold.ensures (λ a n m s. search rules)
