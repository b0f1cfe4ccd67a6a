-- The operations of a ring on values, and the laws that a ring keeps. Assumes nothing.
use Rattle.std.specs.Prelude.{◌≡◌}

pub record Operations : Type 1 where
  pub Value : Type 0
  pub nought : Value
  pub one : Value
  pub plus : Value → Value → Value
  pub minus : Value → Value → Value
  pub times : Value → Value → Value

pub record Laws (K : Operations) : Type 0 where
  pub plus_assoc : (a b c : K.Value) → K.plus (K.plus a b) c ≡ K.plus a (K.plus b c)
  pub plus_comm : (a b : K.Value) → K.plus a b ≡ K.plus b a
  pub plus-nought : (a : K.Value) → K.plus a K.nought ≡ a
  pub times_assoc : (a b c : K.Value) → K.times (K.times a b) c ≡ K.times a (K.times b c)
  pub times_comm : (a b : K.Value) → K.times a b ≡ K.times b a
  pub times-one : (a : K.Value) → K.times a K.one ≡ a
  pub minus_plus : (a b : K.Value) → K.plus (K.minus a b) b ≡ a
  pub times-plus : (a b c : K.Value) → K.times a (K.plus b c) ≡ K.plus (K.times a b) (K.times a c)
