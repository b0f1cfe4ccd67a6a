-- One layer of the automaton: the suffix weights of a layer from those of the layer above. Assumes nothing.
use Rattle.std.proofs.Common.{◌≡◌, ℕ, zero, suc, ◌+◌, ◌*◌, ◌/◌, ◌%◌, ◌^◌, ◌<◌, Bool, true, false, cond, eqb, [], ◌∷◌, sym, refl, ap, ◌∙◌, ap₂, arith, eq-eqb, ne_eqb}
use native.Mathlib.Nat.{pow-succ'}
use Rattle.std.proofs.lemmas.Bool.Decides.{nat_tests}
use Rattle.ring.specs.Operations.{Operations, Laws}
use Rattle.ring.specs.Algebra.{times-nought}
use Rattle.ring.specs.Solve.{at, ◌⊗◌, solve}
use Rattle.selector.specs.Sums.{sum_to}
use Rattle.selector.specs.Weights.{bit, factor}
use Rattle.selector.specs.Automaton.{upper, digit, below, suffix, sum_bit, carry_out, less_out, stepped}
use Rattle.selector.proofs.Fronts.{half_left}
use Rattle.selector.proofs.Sums.{sum_same, sum-times, sum_twice}

-- the low bit of 2 m + t
pub low_bit : (t : Bool) (m n : ℕ) → n ≡ 2 * m + digit t → bit 0 n ≡ t
low_bit true m n is = eq-eqb (n / 1 % 2) 1 (omega arith)
low_bit false m n is = ne_eqb (n / 1 % 2) 1 (λ e. omega arith)

half_of : (t : Bool) (m n : ℕ) → n ≡ 2 * m + digit t → n / 2 ≡ m
half_of true m n is = omega arith
half_of false m n is = omega arith

digit-mod : (x : ℕ) → digit (eqb (x % 2) 1) ≡ x % 2
digit-mod x = go (x % 2) (omega arith)
  where
    go : (r : ℕ) → r < 2 → digit (eqb r 1) ≡ r
    go zero h = refl
    go (suc zero) h = refl
    go (suc (suc r)) h = absurd (omega arith)

-- a number by its bit at a layer and what lies above
pub split_layer : (n layer : ℕ) → n / 2 ^ layer ≡ 2 * (n / 2 ^ suc layer) + digit (bit layer n)
split_layer n layer =
    let halves : n / 2 ^ layer ≡ 2 * (n / 2 ^ layer / 2) + n / 2 ^ layer % 2 = omega arith in
    halves ∙ ap₂ (λ x y. 2 * x + y) (sym (half_left n layer)) (sym (digit-mod (n / 2 ^ layer)))

-- comparing 2 m + t with 2 q + e: the higher parts first, then the low bits, then what lies below
compare_step : (m q : ℕ) (t e less : Bool) → below (2 * m + digit t) (2 * q + digit e) less ≡ below m q (less_out t e less)
compare_step m q t e less = grind (arith, nat_tests)

add_bits : (a b c : Bool) → digit a + digit b + digit c ≡ 2 * digit (carry_out a b c) + digit (sum_bit a b c)
add_bits true true true = refl
add_bits true true false = refl
add_bits true false true = refl
add_bits true false false = refl
add_bits false true true = refl
add_bits false true false = refl
add_bits false false true = refl
add_bits false false false = refl

module _ (K : Operations) (L : Laws K) (row dense : ℕ → K.Value) (start end : ℕ) where
  -- one term of a suffix weight
  term : ℕ → ℕ → Bool → Bool → ℕ → K.Value
  term layer n carry less i = let index = i + (start / 2 ^ layer + digit carry) in cond (below index (end / 2 ^ layer) less) (K.times (upper K row layer n i) (upper K dense layer n index)) K.nought

  -- the weight of 2 m + t from a layer up
  upper_step : (point : ℕ → K.Value) (layer n m j : ℕ) (t : Bool) → j ≡ 2 * m + digit t → upper K point layer (suc n) j ≡ K.times (factor K t (point layer)) (upper K point (suc layer) n m)
  upper_step point layer n m j t is = ap₂ (λ b x. K.times (factor K b (point layer)) (upper K point (suc layer) n x)) (low_bit t m j is) (half_of t m j is)

  factor_out : (q : Bool) (a b c d : K.Value) → cond q (K.times (K.times a b) (K.times c d)) K.nought ≡ K.times (K.times a c) (cond q (K.times b d) K.nought)
  factor_out true a b c d = solve K L (a ∷ b ∷ c ∷ d ∷ []) (at 0 ⊗ at 1 ⊗ (at 2 ⊗ at 3)) (at 0 ⊗ at 2 ⊗ (at 1 ⊗ at 3)) refl
  factor_out false a b c d = sym (times-nought K L _)

  -- a term whose row has the low bit b
  term_step : (layer n : ℕ) (carry less b : Bool) (i j : ℕ) → j ≡ 2 * i + digit b → let t = sum_bit b (bit layer start) carry in term layer (suc n) carry less j ≡ K.times (K.times (factor K b (row layer)) (factor K t (dense layer))) (term (suc layer) n (carry_out b (bit layer start) carry) (less_out t (bit layer end) less) i)
  unfolding term
  term_step layer n carry less b i j is =
      let t = sum_bit b (bit layer start) carry in
      let c' = carry_out b (bit layer start) carry in
      let m : ℕ = i + (start / 2 ^ suc layer + digit c') in
      let index : ℕ = j + (start / 2 ^ layer + digit carry) in
      let at-index : index ≡ 2 * m + digit t = omega (arith, split_layer start layer, add_bits b (bit layer start) carry) in
      let compared : below index (end / 2 ^ layer) less ≡ below m (end / 2 ^ suc layer) (less_out t (bit layer end) less) = ap₂ (λ x y. below x y less) at-index (split_layer end layer) ∙ compare_step m (end / 2 ^ suc layer) t (bit layer end) less in
      ap (λ q. cond q (K.times (upper K row layer (suc n) j) (upper K dense layer (suc n) index)) K.nought) compared
      ∙ ap₂ (λ x y. cond (below m (end / 2 ^ suc layer) (less_out t (bit layer end) less)) (K.times x y) K.nought) (upper_step row layer n i j b is) (upper_step dense layer n m index t at-index)
      ∙ factor_out (below m (end / 2 ^ suc layer) (less_out t (bit layer end) less)) (factor K b (row layer)) (upper K row (suc layer) n i) (factor K t (dense layer)) (upper K dense (suc layer) n m)

  -- the suffix weights of a layer from those of the layer above
  pub suffix_step : (layer n : ℕ) (carry less : Bool) → suffix K row dense start end layer (suc n) carry less ≡ stepped K (row layer) (dense layer) (bit layer start) (bit layer end) (suffix K row dense start end (suc layer) n) carry less
  unfolding term
  suffix_step layer n carry less =
      ap (λ x. sum_to K x (term layer (suc n) carry less)) (pow-succ' 2 n)
      ∙ sum_twice K L (2 ^ n) (term layer (suc n) carry less)
      ∙ ap₂ K.plus (half false (λ i. 2 * i) (λ i. omega arith)) (half true (λ i. 2 * i + 1) (λ i. refl))
    where
      half : (b : Bool) (place : ℕ → ℕ) → ((i : ℕ) → place i ≡ 2 * i + digit b) → sum_to K (2 ^ n) (λ i. term layer (suc n) carry less (place i)) ≡ K.times (K.times (factor K b (row layer)) (factor K (sum_bit b (bit layer start) carry) (dense layer))) (suffix K row dense start end (suc layer) n (carry_out b (bit layer start) carry) (less_out (sum_bit b (bit layer start) carry) (bit layer end) less))
      half b place is =
          sum_same K (2 ^ n) _ _ (λ i h. term_step layer n carry less b i (place i) (is i))
          ∙ sym (sum-times K L (2 ^ n) _ (term (suc layer) n (carry_out b (bit layer start) carry) (less_out (sum_bit b (bit layer start) carry) (bit layer end) less)))
