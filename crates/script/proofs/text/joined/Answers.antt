use Rattle.script.proofs.Writing.{commas_told}
use Rattle.script.proofs.text.joined.Goals as goal

pub returns : goal.returns
returns c = rw (commas_told c.args.numbers.now) at c.format.ensures.ok
