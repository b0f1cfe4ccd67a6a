use Rattle.std.proofs.Common.{◌∙◌, arith, lit<}
use Rattle.ring.specs.Kinds.{prime}
use Rattle.ring.specs.Remainders.{minus_of}
use Rattle.ring.proofs.residue.ResidueRing.minus.Goals as goal

pub returns : goal.returns
returns c = c.new.ensures ∙ minus_of prime (lit< tt) c.args.self.number c.args.other.number 3 (omega arith)
