-- Laws of sums. Assumes nothing.
use Rattle.std.proofs.Common.{◌≡◌, ℕ, zero, suc, ◌+◌, ◌-◌, ◌*◌, ◌<◌, ◌≤◌, cond, ltb, sym, refl, ap, ◌∙◌, ap₂, add-zero, add-suc, mul-zero, arith, le-ltb, lt-ltb}
use Rattle.ring.specs.Operations.{Operations, Laws}
use Rattle.ring.specs.Algebra.{nought-plus, times-nought}
use Rattle.selector.specs.Sums.{sum_to, product_to}

module _ (K : Operations) where
  pub sum_same : (n : ℕ) (f g : ℕ → K.Value) → ((i : ℕ) → i < n → f i ≡ g i) → sum_to K n f ≡ sum_to K n g
  sum_same zero f g same = refl
  sum_same (suc n) f g same = ap₂ K.plus (sum_same n f g (λ i h. same i (omega arith))) (same n (omega arith))

  pub product_same : (n : ℕ) (f g : ℕ → K.Value) → ((i : ℕ) → i < n → f i ≡ g i) → product_to K n f ≡ product_to K n g
  product_same zero f g same = refl
  product_same (suc n) f g same = ap₂ K.times (product_same n f g (λ i h. same i (omega arith))) (same n (omega arith))

module _ (K : Operations) (L : Laws K) where
  -- (a + b) + (c + d) = (a + c) + (b + d)
  pub plus-plus : (a b c d : K.Value) → K.plus (K.plus a b) (K.plus c d) ≡ K.plus (K.plus a c) (K.plus b d)
  plus-plus a b c d =
      L.plus_assoc a b (K.plus c d)
      ∙ ap (K.plus a) (sym (L.plus_assoc b c d) ∙ ap (λ x. K.plus x d) (L.plus_comm b c) ∙ L.plus_assoc c b d)
      ∙ sym (L.plus_assoc a c (K.plus b d))

  pub sum-plus : (n : ℕ) (f g : ℕ → K.Value) → sum_to K n (λ i. K.plus (f i) (g i)) ≡ K.plus (sum_to K n f) (sum_to K n g)
  sum-plus zero f g = sym (L.plus-nought K.nought)
  sum-plus (suc n) f g = ap (λ x. K.plus x (K.plus (f n) (g n))) (sum-plus n f g) ∙ plus-plus _ _ _ _

  pub sum-times : (n : ℕ) (a : K.Value) (f : ℕ → K.Value) → K.times a (sum_to K n f) ≡ sum_to K n (λ i. K.times a (f i))
  sum-times zero a f = times-nought K L a
  sum-times (suc n) a f = L.times-plus a (sum_to K n f) (f n) ∙ ap (λ x. K.plus x (K.times a (f n))) (sum-times n a f)

  pub sum_none : (n : ℕ) (f : ℕ → K.Value) → ((i : ℕ) → i < n → f i ≡ K.nought) → sum_to K n f ≡ K.nought
  sum_none zero f none = refl
  sum_none (suc n) f none = ap₂ K.plus (sum_none n f (λ i h. none i (omega arith))) (none n (omega arith)) ∙ L.plus-nought K.nought

  -- m terms, then n more
  pub sum_add : (m n : ℕ) (f : ℕ → K.Value) → sum_to K (m + n) f ≡ K.plus (sum_to K m f) (sum_to K n (λ i. f (m + i)))
  sum_add m zero f = ap (λ x. sum_to K x f) (add-zero m) ∙ sym (L.plus-nought (sum_to K m f))
  sum_add m (suc n) f =
      ap (λ x. sum_to K x f) (add-suc m n)
      ∙ ap (λ x. K.plus x (f (m + n))) (sum_add m n f)
      ∙ L.plus_assoc (sum_to K m f) (sum_to K n (λ i. f (m + i))) (f (m + n))

  -- the even places, then the odd ones
  pub sum_twice : (n : ℕ) (f : ℕ → K.Value) → sum_to K (2 * n) f ≡ K.plus (sum_to K n (λ i. f (2 * i))) (sum_to K n (λ i. f (2 * i + 1)))
  sum_twice zero f = ap (λ x. sum_to K x f) (mul-zero 2) ∙ sym (L.plus-nought K.nought)
  sum_twice (suc n) f =
      let two : 2 * suc n ≡ suc (suc (2 * n)) = omega arith in
      let one : suc (2 * n) ≡ 2 * n + 1 = omega arith in
      ap (λ x. sum_to K x f) two
      ∙ L.plus_assoc (sum_to K (2 * n) f) (f (2 * n)) (f (suc (2 * n)))
      ∙ ap₂ K.plus (sum_twice n f) (ap (λ x. K.plus (f (2 * n)) (f x)) one)
      ∙ plus-plus _ _ _ _

  -- terms that count only below h
  pub sum_below : (n h : ℕ) (f : ℕ → K.Value) → h ≤ n → sum_to K n (λ i. cond (ltb i h) (f i) K.nought) ≡ sum_to K h f
  sum_below n h f within =
      let split : n ≡ h + (n - h) = omega arith in
      ap (λ x. sum_to K x (λ i. cond (ltb i h) (f i) K.nought)) split
      ∙ sum_add h (n - h) (λ i. cond (ltb i h) (f i) K.nought)
      ∙ ap₂ K.plus
      (sum_same K h _ f (λ i less. ap (λ b. cond b (f i) K.nought) (lt-ltb i h less)))
      (sum_none (n - h) _ (λ i less. ap (λ b. cond b (f (h + i)) K.nought) (le-ltb (h + i) h (omega arith))))
      ∙ L.plus-nought (sum_to K h f)

  -- only the first term counts
  pub sum_first : (n : ℕ) (f : ℕ → K.Value) → 0 < n → ((i : ℕ) → 0 < i → i < n → f i ≡ K.nought) → sum_to K n f ≡ f 0
  sum_first zero f some rest = absurd (omega arith)
  sum_first (suc zero) f some rest = nought-plus K L (f 0)
  sum_first (suc (suc n)) f some rest =
      ap₂ K.plus (sum_first (suc n) f (omega arith) (λ i h k. rest i h (omega arith))) (rest (suc n) (omega arith) (omega arith)) ∙ L.plus-nought (f 0)

  -- a sum over places that lie one column after the other is the sum over the columns of the sums over their rows
  pub sum-columns : (start height : ℕ → ℕ) → start 0 ≡ 0 → (n : ℕ) → ((y : ℕ) → y < n → start (suc y) ≡ start y + height y) → (f : ℕ → K.Value) → sum_to K (start n) f ≡ sum_to K n (λ y. sum_to K (height y) (λ r. f (start y + r)))
  sum-columns start height origin zero next f = ap (λ x. sum_to K x f) origin
  sum-columns start height origin (suc n) next f =
      ap (λ x. sum_to K x f) (next n (omega arith))
      ∙ sum_add (start n) (height n) f
      ∙ ap (λ x. K.plus x (sum_to K (height n) (λ r. f (start n + r)))) (sum-columns start height origin n (λ y h. next y (omega arith)) f)
