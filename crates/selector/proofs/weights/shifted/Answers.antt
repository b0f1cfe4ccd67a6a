use Rattle.std.proofs.Common.{sym, arith, pow_mono}
use native.Mathlib.Nat.{div-eq_of_lt}
use Rattle.selector.proofs.weights.shifted.Goals as goal

pub returns-else-bits-lt64 : goal.returns-else-bits-lt64
returns-else-bits-lt64 c = sym (div-eq_of_lt (omega (arith, pow_mono {i = 64} {j = c.args.bits} c.if-bits-lt64.false)))
