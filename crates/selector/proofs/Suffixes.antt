-- The automaton computes a column's sum: what its states are above the dense coordinates, and what the first state is at the bottom. Assumes nothing.
use Rattle.std.proofs.Common.{◌≡◌, ℕ, ◌+◌, ◌-◌, ◌/◌, ◌^◌, ◌<◌, ◌≤◌, Bool, true, false, cond, not, ◌&&◌, ltb, List, length, sym, refl, ap, ◌∙◌, ap₂, div-one, arith, pow_pos, ltb-false, ltb-true}
use Rattle.std.proofs.lemmas.Bool.Decides.{nat_tests}
use Rattle.ring.specs.Operations.{Operations, Laws}
use Rattle.selector.specs.Sums.{sum_to}
use Rattle.selector.specs.Weights.{eq}
use Rattle.selector.specs.Automaton.{coordinate, upper, digit, below, suffix}
use Rattle.selector.proofs.Sums.{sum_same, sum_first, sum_below}
use Rattle.selector.proofs.Fronts.{front, upper_none, upper_front, upper-eq}

strictly : (s e i : ℕ) → below (i + (s / 1 + 0)) (e / 1) false ≡ ltb i (e - s)
strictly s e i = rw (div-one s, div-one e) (grind (arith, nat_tests))

module _ (K : Operations) (L : Laws K) (row dense : List K.Value) (start end : ℕ) where
  -- above the dense coordinates, where start and end have no bits: only the row 0 with no carry, and a comparison that was won below
  pub suffix_top : (layer n : ℕ) (carry less : Bool) → start / 2 ^ layer ≡ 0 → end / 2 ^ layer ≡ 0 → length dense ≤ layer → suffix K (coordinate K row) (coordinate K dense) start end layer n carry less ≡ cond (not carry && less) (upper K (coordinate K row) layer n 0) K.nought
  suffix_top layer n carry less low high past =
      sum_same K (2 ^ n) _ there (λ i h. ap₂ (λ s e. cond (below (i + (s + digit carry)) e less) (K.times (upper K (coordinate K row) layer n i) (upper K (coordinate K dense) layer n (i + (s + digit carry)))) K.nought) low high)
      ∙ sum_first K L (2 ^ n) there (pow_pos n) later
      ∙ go carry less
    where
      there : ℕ → K.Value
      there i = cond (below (i + (0 + digit carry)) 0 less) (K.times (upper K (coordinate K row) layer n i) (upper K (coordinate K dense) layer n (i + (0 + digit carry)))) K.nought

      past_end : (i c : ℕ) (l : Bool) → 0 < i → below (i + (0 + c)) 0 l ≡ false
      past_end i c l h = grind (arith, nat_tests)

      later : (i : ℕ) → 0 < i → i < 2 ^ n → there i ≡ K.nought
      later i some h = ap (λ q. cond q (K.times (upper K (coordinate K row) layer n i) (upper K (coordinate K dense) layer n (i + (0 + digit carry)))) K.nought) (past_end i (digit carry) less some)

      go : (c l : Bool) → cond (below (0 + (0 + digit c)) 0 l) (K.times (upper K (coordinate K row) layer n 0) (upper K (coordinate K dense) layer n (0 + (0 + digit c)))) K.nought ≡ cond (not c && l) (upper K (coordinate K row) layer n 0) K.nought
      go true true = refl
      go true false = refl
      go false true = ap (K.times (upper K (coordinate K row) layer n 0)) (upper_none K L dense n layer 0 past) ∙ L.times-one _
      go false false = refl

  -- what the row 0 weighs from a layer up: its leading coordinates, each one minus itself
  pub leading_front : (layer n : ℕ) → length row ≤ layer + n → upper K (coordinate K row) layer n 0 ≡ front K row (length row - layer) 0
  leading_front layer n deep = go (ltb layer (length row)) refl
    where
      go : (b : Bool) → ltb layer (length row) ≡ b → upper K (coordinate K row) layer n 0 ≡ front K row (length row - layer) 0
      go true is = upper_front K L row (length row - layer) n layer 0 (omega (arith, ltb-true layer (length row) is)) (omega arith)
      go false is = let none : length row - layer ≡ 0 = omega (arith, ltb-false layer (length row) is) in upper_none K L row n layer 0 (ltb-false layer (length row) is) ∙ ap (λ m. front K row m 0) (sym none)

  -- the first state at the bottom is the column's sum
  pub suffix_bottom : (n : ℕ) → length row ≤ n → length dense ≤ n → end - start ≤ 2 ^ n → suffix K (coordinate K row) (coordinate K dense) start end 0 n false false ≡ sum_to K (end - start) (λ r. K.times (eq K row r) (eq K dense (start + r)))
  suffix_bottom n rows denses tall =
      sum_same K (2 ^ n) _ (λ i. cond (ltb i (end - start)) (K.times (eq K row i) (eq K dense (start + i))) K.nought) (λ i h. each i)
      ∙ sum_below K L (2 ^ n) (end - start) _ tall
    where
      each : (i : ℕ) → cond (below (i + (start / 1 + 0)) (end / 1) false) (K.times (upper K (coordinate K row) 0 n i) (upper K (coordinate K dense) 0 n (i + (start / 1 + 0)))) K.nought ≡ cond (ltb i (end - start)) (K.times (eq K row i) (eq K dense (start + i))) K.nought
      each i =
          let place : i + (start / 1 + 0) ≡ start + i = omega (arith, div-one start) in
          ap (λ q. cond q (K.times (upper K (coordinate K row) 0 n i) (upper K (coordinate K dense) 0 n (i + (start / 1 + 0)))) K.nought) (strictly start end i)
          ∙ ap₂ (λ x y. cond (ltb i (end - start)) (K.times x y) K.nought) (upper-eq K L row n i rows) (upper-eq K L dense n _ denses ∙ ap (eq K dense) place)
