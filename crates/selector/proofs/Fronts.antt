-- Laws of weights: a coordinate more at the low end, and a point read from its low end. Assumes nothing.
use Rattle.std.proofs.Common.{◌≡◌, ℕ, zero, suc, ◌+◌, ◌-◌, ◌/◌, ◌%◌, ◌^◌, ◌<◌, ◌≤◌, Bool, true, false, cond, eqb, ltb, List, length, get_or, sym, refl, ap, ◌∙◌, ap₂, div-one, pow-suc, add-one, arith, le-ltb, lt-ltb, ne_eqb, eqb-true}
use native.Mathlib.Nat.{pow-succ', div-div-eq-div-mul, div-eq_of_lt}
use borrow.Author.Tests.{eqb-false}
use Rattle.std.proofs.lemmas.Bool.Decides.{nat_tests}
use Rattle.ring.specs.Operations.{Operations, Laws}
use Rattle.ring.specs.Algebra.{one-times, nought-times}
use Rattle.selector.specs.Sums.{product_to}
use Rattle.selector.specs.Weights.{bit, factor, eq}
use Rattle.selector.specs.Automaton.{coordinate, upper}
use Rattle.selector.proofs.Sums.{product_same}

-- the weight of i by the first m coordinates of a point
abbrev pub front : (K : Operations) → List K.Value → ℕ → ℕ → K.Value
front K point m i = cond (ltb i (2 ^ m)) (product_to K m (λ j. factor K (bit (m - 1 - j) i) (get_or point j K.one))) K.nought

-- half of what is left above e bits is what is left above e + 1
pub half_left : (n e : ℕ) → n / 2 ^ suc e ≡ n / 2 ^ e / 2
half_left n e = ap (λ x. n / x) (pow-suc 2 e) ∙ sym (div-div-eq-div-mul n (2 ^ e) 2)

-- bit j + 1 of i is bit j of its half
bit_half : (j i : ℕ) → bit (suc j) i ≡ bit j (i / 2)
bit_half j i = ap (λ x. eqb (x % 2) 1) (ap (λ x. i / x) (pow-succ' 2 j) ∙ sym (div-div-eq-div-mul i 2 (2 ^ j)))

half_below : (m i : ℕ) → ltb i (2 ^ suc m) ≡ ltb (i / 2) (2 ^ m)
half_below m i = let two = pow-succ' 2 m in grind (arith, nat_tests)

zero_test : (n : ℕ) → eqb n 0 ≡ ltb n 1
zero_test n = grind (arith, nat_tests)

-- an odd number is not zero
odd_apart : (i : ℕ) → bit 0 i ≡ true → i ≡ 0 → ⊥
odd_apart i odd none = let one : i / 1 % 2 ≡ 1 = eqb-true (i / 1 % 2) 1 odd in omega (arith, div-one i)

-- an even number is zero exactly where its half is
even_half : (i : ℕ) → bit 0 i ≡ false → eqb (i / 2) 0 ≡ eqb i 0
even_half i even = let not-one : i / 1 % 2 ≡ 1 → ⊥ = eqb-false (i / 1 % 2) 1 even in grind (arith, nat_tests)

minus-nought : (K : Operations) (L : Laws K) (a : K.Value) → K.minus a K.nought ≡ a
minus-nought K L a = sym (L.plus-nought _) ∙ L.minus_plus a K.nought

module _ (K : Operations) (L : Laws K) (point : List K.Value) where
  -- one coordinate more: it goes with the lowest bit, and the others with the rest
  pub front_more : (m i : ℕ) → front K point (suc m) i ≡ K.times (front K point m (i / 2)) (factor K (bit 0 i) (get_or point m K.one))
  front_more m i =
      ap (λ b. cond b (K.times (product_to K m here) (here m)) K.nought) (half_below m i) ∙ go (ltb (i / 2) (2 ^ m))
    where
      here : ℕ → K.Value
      here j = factor K (bit (suc m - 1 - j) i) (get_or point j K.one)

      there : ℕ → K.Value
      there j = factor K (bit (m - 1 - j) (i / 2)) (get_or point j K.one)

      lower : (j : ℕ) → j < m → here j ≡ there j
      lower j h =
          let up : suc m - 1 - j ≡ suc (m - 1 - j) = omega arith in
          ap (λ b. factor K b (get_or point j K.one)) (ap (λ x. bit x i) up ∙ bit_half (m - 1 - j) i)

      lowest : here m ≡ factor K (bit 0 i) (get_or point m K.one)
      lowest = let none : suc m - 1 - m ≡ 0 = omega arith in ap (λ x. factor K (bit x i) (get_or point m K.one)) none

      go : (b : Bool) → cond b (K.times (product_to K m here) (here m)) K.nought ≡ K.times (cond b (product_to K m there) K.nought) (factor K (bit 0 i) (get_or point m K.one))
      go true = ap₂ K.times (product_same K m here there lower) lowest
      go false = sym (nought-times K L _)

  -- all coordinates of the first m on zero
  pub front_zero : (m : ℕ) → front K point (suc m) 0 ≡ K.times (front K point m 0) (K.minus K.one (get_or point m K.one))
  front_zero m = front_more m 0

  -- above a point only zero has a weight
  pub upper_none : (n k i : ℕ) → length point ≤ k → upper K (coordinate K point) k n i ≡ cond (eqb i 0) K.one K.nought
  upper_none zero k i past = refl
  upper_none (suc n) k i past =
      ap₂ (λ x y. K.times (factor K (bit 0 i) x) y) (ap (λ b. cond b (get_or point (length point - 1 - k) K.one) K.nought) (le-ltb k (length point) past)) (upper_none n (suc k) (i / 2) (omega arith))
      ∙ go (bit 0 i) refl
    where
      go : (b : Bool) → bit 0 i ≡ b → K.times (factor K b K.nought) (cond (eqb (i / 2) 0) K.one K.nought) ≡ cond (eqb i 0) K.one K.nought
      go true odd = nought-times K L _ ∙ sym (ap (λ b. cond b K.one K.nought) (ne_eqb i 0 (odd_apart i odd)))
      go false even = ap (λ x. K.times x (cond (eqb (i / 2) 0) K.one K.nought)) (minus-nought K L K.one) ∙ one-times K L _ ∙ ap (λ b. cond b K.one K.nought) (even_half i even)

  -- the first m coordinates of a point of m + k, read from layer k up; further layers change nothing
  pub upper_front : (m n k i : ℕ) → m + k ≡ length point → m ≤ n → upper K (coordinate K point) k n i ≡ front K point m i
  upper_front zero n k i long deep = upper_none n k i (omega arith) ∙ ap (λ b. cond b K.one K.nought) (zero_test i)
  upper_front (suc m) zero k i long deep = absurd (omega arith)
  upper_front (suc m) (suc n) k i long deep =
      ap₂ K.times (ap (factor K (bit 0 i)) at) (upper_front m n (suc k) (i / 2) (omega arith) (omega arith))
      ∙ L.times_comm _ _
      ∙ sym (front_more m i)
    where
      at : coordinate K point k ≡ get_or point m K.one
      at =
          let place : length point - 1 - k ≡ m = omega arith in
          ap (λ b. cond b (get_or point (length point - 1 - k) K.one) K.nought) (lt-ltb k (length point) (omega arith)) ∙ ap (λ x. get_or point x K.one) place

  -- a point's weights, read from the lowest layer up
  pub upper-eq : (n i : ℕ) → length point ≤ n → upper K (coordinate K point) 0 n i ≡ eq K point i
  upper-eq n i deep = upper_front (length point) n 0 i (omega arith) deep

  -- the weight that the coordinates from a layer up give to what is left of a number there
  abbrev pub above : ℕ → ℕ → K.Value
  above index layer = upper K (coordinate K point) layer (length point - layer) (index / 2 ^ layer)

  pub above_all : (index : ℕ) → above index 0 ≡ eq K point index
  above_all index = upper-eq (length point - 0) (index / 1) (omega arith) ∙ ap (eq K point) (div-one index)

  pub above_none : (index layer : ℕ) → layer ≡ length point → index < 2 ^ length point → above index layer ≡ K.one
  above_none index layer is inside =
      let none : length point - layer ≡ 0 = omega arith in
      let rest : index / 2 ^ layer ≡ 0 = ap (λ e. index / 2 ^ e) is ∙ div-eq_of_lt inside in
      ap₂ (λ n i. upper K (coordinate K point) layer n i) none rest

  -- a layer's coordinate joins what is multiplied so far
  pub above_more : (index layer : ℕ) (product x : K.Value) → layer < length point → x ≡ get_or point (length point - 1 - layer) K.one → K.times (K.times product (factor K (bit layer index) x)) (above index (layer + 1)) ≡ K.times product (above index layer)
  above_more index layer product x inside is =
      let more : length point - layer ≡ suc (length point - suc layer) = omega arith in
      let here : x ≡ coordinate K point layer = is ∙ sym (ap (λ b. cond b (get_or point (length point - 1 - layer) K.one) K.nought) (lt-ltb layer (length point) inside)) in
      L.times_assoc product (factor K (bit layer index) x) (above index (layer + 1))
      ∙ ap (K.times product) (ap (λ k. K.times (factor K (bit layer index) x) (above index k)) (add-one layer)
      ∙ ap₂ K.times (ap₂ (factor K) (ap (λ y. eqb (y % 2) 1) (sym (div-one (index / 2 ^ layer)))) here) (ap (upper K (coordinate K point) (suc layer) (length point - suc layer)) (half_left index layer))
      ∙ ap (λ n. upper K (coordinate K point) layer n (index / 2 ^ layer)) (sym more))
