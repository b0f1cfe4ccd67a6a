use Rattle.std.proofs.Common.{lit<}
use Rattle.ring.specs.Kinds.{prime}
use Rattle.ring.specs.Remainders.{again}
use Rattle.ring.proofs.residue.Residue.new.Goals as goal

pub returns : goal.returns
returns c = again prime (lit< tt) c.args.number
