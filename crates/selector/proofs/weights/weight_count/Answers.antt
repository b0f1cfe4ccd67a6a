use Rattle.std.proofs.Common.{arith, pow_mono}
use Rattle.selector.proofs.weights.weight_count.Goals as goal

pub returns-else-width-lt64 : goal.returns-else-width-lt64
returns-else-width-lt64 c = omega (arith, pow_mono {i = 64} {j = c.args.width} c.if-width-lt64.false)
