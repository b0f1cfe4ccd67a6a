-- Elements a + b·u over a ring, where u·u is a given value of the ring; and pairs, where it is the one added eleven times. Assumes nothing.
use Rattle.std.specs.Prelude.{ℕ, zero, suc}
use Rattle.ring.specs.Operations.{Operations}

-- x + x + .. + x, n times
abbrev pub copies : (K : Operations) → ℕ → K.Value → K.Value
copies K zero x = K.nought
copies K (suc n) x = K.plus (copies K n x) x

-- (a, b) is a + b·u, and u·u = square
abbrev pub extension : (K : Operations) → K.Value → Operations
extension K square = record {
  Value = K.Value × K.Value;
  nought = (K.nought, K.nought);
  one = (K.one, K.nought);
  plus = λ x y. (K.plus x.0 y.0, K.plus x.1 y.1);
  minus = λ x y. (K.minus x.0 y.0, K.minus x.1 y.1);
  times = λ x y. (K.plus (K.times x.0 y.0) (K.times (K.times x.1 y.1) square), K.plus (K.times x.0 y.1) (K.times x.1 y.0));
}

-- pairs: u·u is the one below, added eleven times
abbrev pub pairs : Operations → Operations
pairs K = extension K (copies K 11 K.one)
