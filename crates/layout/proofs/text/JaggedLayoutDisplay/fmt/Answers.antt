use Rattle.std.proofs.Common.{sym, rules}
use Rattle.layout.proofs.text.JaggedLayoutDisplay.fmt.Goals as goal

pub returns-clause-writes : goal.returns-clause-writes
returns-clause-writes g c = rw (sym c.cumulative_heights.ensures.value) (search rules)
