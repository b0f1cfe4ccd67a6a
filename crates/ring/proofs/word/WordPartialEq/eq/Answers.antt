use Rattle.ring.specs.Kinds.{word_value}
use Rattle.ring.specs.Remainders.{decides}
use Rattle.ring.proofs.word.WordPartialEq.eq.Goals as goal

pub returns-clause-decided : goal.returns-clause-decided
returns-clause-decided c = decides (word_value c.args.self.now) (word_value c.args.other.now) _ _ c.number.ensures c.number-2.ensures
