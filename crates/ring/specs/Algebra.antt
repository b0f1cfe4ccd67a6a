-- What follows from the laws of a ring. Assumes nothing.
use Rattle.std.specs.Prelude.{◌≡◌, ℕ, zero, suc}
use Rattle.std.proofs.Common.{sym, ap, ◌∙◌}
use Rattle.ring.specs.Extension.{copies}
use Rattle.ring.specs.Operations.{Operations, Laws}

module _ (K : Operations) (L : Laws K) where
  pub nought-plus : (a : K.Value) → K.plus K.nought a ≡ a
  nought-plus a = L.plus_comm K.nought a ∙ L.plus-nought a

  pub one-times : (a : K.Value) → K.times K.one a ≡ a
  one-times a = L.times_comm K.one a ∙ L.times-one a

  pub plus_times : (a b c : K.Value) → K.times (K.plus a b) c ≡ K.plus (K.times a c) (K.times b c)
  plus_times a b c = L.times_comm (K.plus a b) c ∙ L.times-plus c a b ∙ ap (λ x. K.plus x (K.times c b)) (L.times_comm c a) ∙ ap (K.plus (K.times a c)) (L.times_comm c b)

  -- what is added on both sides goes
  pub plus_cancel : (a b x : K.Value) → K.plus a x ≡ K.plus b x → a ≡ b
  plus_cancel a b x same = sym (back a) ∙ ap (λ s. K.plus s (K.minus K.nought x)) same ∙ back b
    where
      opposite : K.plus x (K.minus K.nought x) ≡ K.nought
      opposite = L.plus_comm x (K.minus K.nought x) ∙ L.minus_plus K.nought x

      back : (c : K.Value) → K.plus (K.plus c x) (K.minus K.nought x) ≡ c
      back c = L.plus_assoc c x (K.minus K.nought x) ∙ ap (K.plus c) opposite ∙ L.plus-nought c

  pub times-nought : (a : K.Value) → K.times a K.nought ≡ K.nought
  times-nought a = plus_cancel (K.times a K.nought) K.nought (K.times a K.nought)
      (sym (L.times-plus a K.nought K.nought) ∙ ap (K.times a) (L.plus-nought K.nought) ∙ sym (nought-plus (K.times a K.nought)))

  pub nought-times : (a : K.Value) → K.times K.nought a ≡ K.nought
  nought-times a = L.times_comm K.nought a ∙ times-nought a

  -- a product with the one added n times
  pub times-copies : (n : ℕ) (a : K.Value) → K.times a (copies K n K.one) ≡ copies K n a
  times-copies zero a = times-nought a
  times-copies (suc n) a = L.times-plus a (copies K n K.one) K.one ∙ ap (λ x. K.plus x (K.times a K.one)) (times-copies n a) ∙ ap (K.plus (copies K n a)) (L.times-one a)
