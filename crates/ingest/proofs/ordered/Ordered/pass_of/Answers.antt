use Rattle.std.proofs.Common.{rules}
use Rattle.ingest.proofs.Told.{pass_told}
use Rattle.ingest.proofs.ordered.Ordered.pass_of.Goals as goal

pub returns : goal.returns
returns c = pass_told _ c.args.self.now.records.now c.args.self.now.sound c.args.record c.try_fold-highest.result c.in-Ok.pass c.requires c.try_fold-highest.ensures c.in-Ok.is (λ a n m s. search rules)
