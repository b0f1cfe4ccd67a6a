use Rattle.std.proofs.Common.{refl, arith, rules}
use Rattle.layout.proofs.Shapes.{all_lawful, boundaries_are}
use Rattle.layout.proofs.geometry.JaggedLayout.cumulative_heights.Goals as goal

pub returns : goal.returns
returns c = record { value = (let e = boundaries_are c.args.self.now in search rules); lawful = all_lawful c.args.self.now; place = (refl, omega arith) }
