use Rattle.std.proofs.Common.{◌∙◌, lit<}
use Rattle.ring.specs.Kinds.{wrap}
use Rattle.ring.specs.Remainders.{again, plus_of}
use Rattle.ring.proofs.word.WordRing.plus.Goals as goal

pub returns : goal.returns
returns c = again wrap (lit< tt) _ ∙ plus_of wrap (lit< tt) c.args.self.number c.args.other.number
