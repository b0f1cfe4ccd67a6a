use Rattle.std.proofs.Common.{arith, rules}
use Rattle.std.proofs.Output.{has_written_append, has_written_of_eq}
use Rattle.layout.proofs.Texts.{commas_all}
use Rattle.layout.proofs.text.CommasDisplay.fmt.Goals as goal

pub returns-clause-writes : goal.returns-clause-writes
returns-clause-writes g c plain ok =
    let first = c.in_ok-write.ensures.writes plain (search rules) in
    has_written_of_eq _ _ _ _ _ (commas_all c.args.self.now.0.now c.loop-number.number-index (omega arith) c.loop-number-test.false)
    (has_written_append _ _ _ _ _ _ first (c.loop-number.invariant first.plain))
