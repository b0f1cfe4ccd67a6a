-- Sums and products of so many values of a ring. Assumes nothing.
use Rattle.std.specs.Prelude.{ℕ, zero, suc}
use Rattle.ring.specs.Operations.{Operations}

-- f 0 + f 1 + .. + f (n - 1)
abbrev pub sum_to : (K : Operations) → ℕ → (ℕ → K.Value) → K.Value
sum_to K zero f = K.nought
sum_to K (suc n) f = K.plus (sum_to K n f) (f n)

-- f 0 · f 1 · .. · f (n - 1)
abbrev pub product_to : (K : Operations) → ℕ → (ℕ → K.Value) → K.Value
product_to K zero f = K.one
product_to K (suc n) f = K.times (product_to K n f) (f n)
