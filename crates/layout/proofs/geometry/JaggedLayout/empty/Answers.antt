use Rattle.std.proofs.Common.{ℕ, ◌+◌, refl, arith, lit<, lit≤}
use lib.Count.{ones}
use Rattle.std.proofs.lemmas.List.{length-replicate}
use Rattle.std.proofs.lemmas.Bool.{eq-eqb}
use Rattle.layout.specs.Layout.{shape}
use Rattle.layout.specs.Shape.{max_columns}
use Rattle.layout.proofs.Powers.{ones_power}
use Rattle.layout.proofs.Shapes.{zeros}
use Rattle.layout.proofs.geometry.JaggedLayout.empty.Goals as goal

pub invariant_of-result : goal.invariant_of-result
invariant_of-result c = record {
  power = eq-eqb (ones 1) 1 (ones_power 0);
  few = lit≤ tt;
  rows = lit< tt;
  dense = lit< tt;
  long = length-replicate {A = ℕ} (max_columns + 1) 0;
  origin = refl;
  ascends = λ y h. omega (arith, zeros (max_columns + 1) y, zeros (max_columns + 1) (y + 1));
  bounded = λ y h. omega (arith, zeros (max_columns + 1) y, zeros (max_columns + 1) (y + 1));
  covered = lit≤ tt;
  blank = λ y h. zeros (max_columns + 1) y;
}

pub returns : goal.returns
unfolding shape
returns c = refl
