use Rattle.std.proofs.Common.{◌∙◌, lit<}
use Rattle.ring.specs.Kinds.{prime}
use Rattle.ring.specs.Remainders.{times_of}
use Rattle.ring.proofs.residue.ResidueRing.times.Goals as goal

pub returns : goal.returns
returns c = c.new.ensures ∙ times_of prime (lit< tt) c.args.self.number c.args.other.number
