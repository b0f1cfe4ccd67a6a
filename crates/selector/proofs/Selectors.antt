-- The selector column by column, and as the extension of its table. Assumes nothing.
use Rattle.std.proofs.Common.{◌≡◌, ℕ, ◌+◌, ◌-◌, ◌^◌, ◌<◌, List, length, get_or, sym, refl, ap, ◌∙◌, ap₂, arith}
use Rattle.ring.specs.Operations.{Operations, Laws}
use Rattle.ring.specs.Algebra.{times-nought}
use Rattle.layout.specs.Shape.{Shape, Lawful, columns, height, start, area, capacity}
use Rattle.layout.proofs.Shapes.{start_more, area-start}
use Rattle.selector.specs.Layers.{column_sum}
use Rattle.selector.specs.Selector.{selector, Extends}
use Rattle.selector.specs.Sums.{sum_to}
use Rattle.selector.specs.Weights.{eq}
use Rattle.selector.proofs.Places.{start_next}
use Rattle.selector.proofs.Sums.{sum_same, sum-times, sum_none, sum_add, sum-columns}

module _ (K : Operations) (L : Laws K) (S : Shape) (row column dense : List K.Value) where
  -- c · (a · b) is (a · c) · b
  regroup : (a b c : K.Value) → K.times c (K.times a b) ≡ K.times (K.times a c) b
  regroup a b c = sym (L.times_assoc c a b) ∙ ap (λ x. K.times x b) (L.times_comm c a)

  -- a column's weight by what its rows add up to
  abbrev pub share : ℕ → K.Value
  share y = K.times (eq K column y) (column_sum K row dense (start S y) (start S (y + 1)))

  pub share_is : (y : ℕ) → y < columns S → share y ≡ sum_to K (height S y) (λ r. K.times (K.times (eq K row r) (eq K column y)) (eq K dense (start S y + r)))
  share_is y inside =
      let gap : start S (y + 1) - start S y ≡ height S y = omega (arith, start_more S y inside) in
      ap (λ n. K.times (eq K column y) (sum_to K n (λ r. K.times (eq K row r) (eq K dense (start S y + r))))) gap
      ∙ sum-times K L (height S y) (eq K column y) _
      ∙ sum_same K (height S y) _ _ (λ r h. regroup (eq K row r) (eq K dense (start S y + r)) (eq K column y))

  pub selector_shares : sum_to K (columns S) share ≡ selector K S row column dense
  selector_shares = sum_same K (columns S) _ _ share_is

  -- the table's extension at the dense point is the selector
  pub extends : Lawful S → length dense ≡ S.dense → Extends K S row column dense
  extends lawful wide cells table =
      let whole : 2 ^ length dense ≡ area S + (capacity S - area S) = ap (λ n. 2 ^ n) wide ∙ rest in
      ap (λ n. sum_to K n term) whole
      ∙ sum_add K L (area S) (capacity S - area S) term
      ∙ ap₂ K.plus live (sum_none K L (capacity S - area S) _ padding)
      ∙ L.plus-nought _
    where
      term : ℕ → K.Value
      term i = K.times (eq K dense i) (get_or cells i K.nought)

      rest : capacity S ≡ area S + (capacity S - area S)
      rest = let room = lawful.covered in omega arith

      padding : (i : ℕ) → i < capacity S - area S → term (area S + i) ≡ K.nought
      padding i h = ap (K.times (eq K dense (area S + i))) (table.padding (area S + i) (omega arith) (omega arith)) ∙ times-nought K L _

      live : sum_to K (area S) term ≡ selector K S row column dense
      live =
          ap (λ n. sum_to K n term) (sym (area-start S))
          ∙ sum-columns K L (start S) (height S) refl (columns S) (start_next S) term
          ∙ sum_same K (columns S) _ _ (λ y inside. sum_same K (height S y) _ _ (λ r short. ap (K.times (eq K dense (start S y + r))) (table.live y r inside short) ∙ L.times_comm _ _))
