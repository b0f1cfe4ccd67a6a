-- A run of the automaton over one column, from the top layer down. Assumes nothing.
use Rattle.std.proofs.Common.{◌≡◌, ℕ, zero, suc, ◌+◌, ◌-◌, ◌/◌, ◌^◌, ◌<◌, ◌≤◌, Bool, true, false, cond, not, ◌&&◌, List, map, length, get_or, take, sym, refl, ap, ◌∙◌, ap₂, arith, pow_mono}
use native.Mathlib.Nat.{div-eq_of_lt}
use Rattle.std.proofs.lemmas.List.{take-map, length-take-le, get_or-take}
use lib.Pow.{pow-lt}
use Rattle.ring.specs.Operations.{Operations, Laws}
use Rattle.selector.specs.Automaton.{coordinate, upper, suffix, sum_bit, carry_out, less_out, stepped}
use Rattle.selector.specs.Layers.{leading_to, column_sum}
use Rattle.selector.specs.Weights.{bit, factor}
use Rattle.selector.proofs.Fronts.{front, front_zero}
use Rattle.selector.proofs.Sums.{product_same}
use Rattle.selector.proofs.Steps.{suffix_step}
use Rattle.selector.proofs.Suffixes.{suffix_top, suffix_bottom, leading_front}

-- the weights of the layer above, one by one
stepped_same : (K : Operations) (row dense : K.Value) (s e : Bool) (f g : Bool → Bool → K.Value) → ((c l : Bool) → f c l ≡ g c l) → (c l : Bool) → stepped K row dense s e f c l ≡ stepped K row dense s e g c l
stepped_same K row dense s e f g same c l = ap₂ K.plus (half false) (half true)
  where
    half : (b : Bool) → K.times (K.times (factor K b row) (factor K (sum_bit b s c) dense)) (f (carry_out b s c) (less_out (sum_bit b s c) e l)) ≡ K.times (K.times (factor K b row) (factor K (sum_bit b s c) dense)) (g (carry_out b s c) (less_out (sum_bit b s c) e l))
    half b = ap (K.times (K.times (factor K b row) (factor K (sum_bit b s c) dense))) (same (carry_out b s c) (less_out (sum_bit b s c) e l))

-- the leading coordinates by themselves
pub leading_take : {A : Type 0} (K : Operations) (value : A → K.Value) (row : List A) (n m : ℕ) → n ≤ length row → n ≡ m → leading_to K (map value (take n row)) (length (take n row)) ≡ leading_to K (map value row) m
leading_take K value row n m fits is =
    ap (leading_to K (map value (take n row))) (length-take-le n row fits)
    ∙ product_same K n _ _ (λ j h. ap (K.minus K.one) (ap (λ l. get_or l j K.one) (sym (take-map value n row)) ∙ get_or-take n (map value row) j K.one h))
    ∙ ap (leading_to K (map value row)) is

module _ (K : Operations) (L : Laws K) (row dense : List K.Value) (start end : ℕ) where
  -- the suffix weights at a layer, with as many layers above it as either point needs
  abbrev pub at_layer : ℕ → Bool → Bool → K.Value
  at_layer layer = suffix K (coordinate K row) (coordinate K dense) start end layer (length row + (length dense + 1) - layer)

  front_leading : (n : ℕ) → front K row n 0 ≡ leading_to K row n
  front_leading zero = refl
  front_leading (suc n) = front_zero K L row n ∙ ap (λ x. K.times x (K.minus K.one (get_or row n K.one))) (front_leading n)

  pub run_top : (leading : K.Value) → start ≤ end → end ≤ 2 ^ length dense → leading ≡ leading_to K row (length row - (length dense + 1)) → (layer : ℕ) → layer ≡ length dense + 1 → (carry less : Bool) → cond (not carry && less) leading K.nought ≡ at_layer layer carry less
  run_top leading ordered inside is_leading layer is carry less =
      ap (λ x. cond (not carry && less) x K.nought) top ∙ sym (suffix_top K L row dense start end layer _ carry less (above start (omega (arith, wide))) (above end (omega (arith, wide))) (omega arith))
    where
      wide : 2 ^ length dense < 2 ^ layer
      wide = pow-lt (omega arith)

      above : (n : ℕ) → n < 2 ^ layer → n / 2 ^ layer ≡ 0
      above n h = div-eq_of_lt h

      top : leading ≡ upper K (coordinate K row) layer (length row + (length dense + 1) - layer) 0
      top = is_leading ∙ ap (λ n. leading_to K row (length row - n)) (sym is) ∙ sym (front_leading (length row - layer)) ∙ sym (leading_front K L row dense start end layer (length row + (length dense + 1) - layer) (omega arith))

  pub run_step : (layer : ℕ) (states : Bool → Bool → K.Value) → 0 < layer → layer ≤ length dense + 1 → ((c l : Bool) → states c l ≡ at_layer layer c l) → (carry less : Bool) → stepped K (coordinate K row (layer - 1)) (coordinate K dense (layer - 1)) (bit (layer - 1) start) (bit (layer - 1) end) states carry less ≡ at_layer (layer - 1) carry less
  run_step zero states some deep known carry less = absurd (omega arith)
  run_step (suc j) states some deep known carry less =
      let back : suc j - 1 ≡ j = omega arith in
      let more : length row + (length dense + 1) - j ≡ suc (length row + (length dense + 1) - suc j) = omega arith in
      ap (λ k. stepped K (coordinate K row k) (coordinate K dense k) (bit k start) (bit k end) states carry less) back
      ∙ stepped_same K (coordinate K row j) (coordinate K dense j) (bit j start) (bit j end) states (at_layer (suc j)) known carry less
      ∙ sym (suffix_step K L (coordinate K row) (coordinate K dense) start end j (length row + (length dense + 1) - suc j) carry less)
      ∙ ap (λ n. suffix K (coordinate K row) (coordinate K dense) start end j n carry less) (sym more)
      ∙ ap (λ k. at_layer k carry less) (sym back)

  pub run_bottom : (layer : ℕ) → layer ≡ 0 → end - start ≤ 2 ^ length row → at_layer layer false false ≡ column_sum K row dense start end
  run_bottom layer is tall =
      let none : length row + (length dense + 1) - 0 ≡ length row + (length dense + 1) = omega arith in
      let wide : 2 ^ length row ≤ 2 ^ (length row + (length dense + 1) - 0) = pow_mono (omega arith) in
      ap (λ k. at_layer k false false) is ∙ suffix_bottom K L row dense start end (length row + (length dense + 1) - 0) (omega arith) (omega arith) (omega arith)
