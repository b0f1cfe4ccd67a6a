use Rattle.std.proofs.Common.{arith}
use Rattle.std.proofs.lemmas.Bool.Decides.{nat_tests}
use Rattle.layout.proofs.Plans.{dense-found}
use Rattle.layout.proofs.build.dense_for.Goals as goal

pub returns-then-variables-ge64 : goal.returns-then-variables-ge64
returns-then-variables-ge64 c =
    let told = rw c.in_ok-capacity.ensures.ok_part at c.checked_next_power_of_two.ensures in
    let found = dense-found c.args.area c.args.minimum c.in_ok-capacity.capacity told.0.0 (omega arith) told.0.1 (omega arith) (omega arith) in
    grind (arith, nat_tests, found.0, found.1)

pub returns : goal.returns
returns c =
    let told = rw c.in_ok-capacity.ensures.ok_part at c.checked_next_power_of_two.ensures in
    let found = dense-found c.args.area c.args.minimum c.in_ok-capacity.capacity told.0.0 (omega arith) told.0.1 (omega arith) (omega arith) in
    grind (arith, nat_tests, found.0, found.1)
