-- Whole numbers modulo m, for any m above zero: the residues and the words. Assumes nothing.
use Rattle.std.specs.Prelude.{ℕ, ◌+◌, ◌-◌, ◌*◌, ◌%◌, ◌<◌}
use Rattle.std.proofs.Common.{mod-lt}
use Rattle.ring.specs.Operations.{Operations}

-- a number below m
abbrev pub Below : ℕ → Type 0
Below m = (n : ℕ) × (n < m)

module _ (m : ℕ) (positive : 0 < m) where
  -- the remainder of n, which every number that differs from n by multiples of m has too
  abbrev pub remainder : ℕ → Below m
  remainder n = (n % m, mod-lt n positive)

  abbrev pub modular : Operations
  modular = record {
    Value = Below m;
    nought = remainder 0;
    one = remainder 1;
    plus = λ a b. remainder (a.0 + b.0);
    minus = λ a b. remainder (a.0 + (m - b.0));
    times = λ a b. remainder (a.0 * b.0);
  }
