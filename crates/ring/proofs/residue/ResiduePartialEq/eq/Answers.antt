use Rattle.ring.specs.Kinds.{residue_value}
use Rattle.ring.specs.Remainders.{decides}
use Rattle.ring.proofs.residue.ResiduePartialEq.eq.Goals as goal

pub returns-clause-decided : goal.returns-clause-decided
returns-clause-decided c = decides (residue_value c.args.self.now) (residue_value c.args.other.now) _ _ c.number.ensures c.number-2.ensures
