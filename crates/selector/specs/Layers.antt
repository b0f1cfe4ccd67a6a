-- What the records of the automaton hold. Assumes nothing.
use Rattle.std.specs.Prelude.{◌≡◌, ℕ, ◌+◌, ◌-◌, Bool, true, false, cond, List, slice_index_or}
use Rattle.ring.specs.Operations.{Operations}
use Rattle.selector.specs.Sums.{sum_to, product_to}
use Rattle.selector.specs.Weights.{eq, factor}
use Rattle.selector.specs.declared.automaton.Layer.{Layer}
use Rattle.selector.specs.declared.automaton.Compared.{Compared}
use Rattle.selector.specs.declared.automaton.States.{States}

-- one minus each of the first n coordinates, multiplied
abbrev pub leading_to : (K : Operations) → List K.Value → ℕ → K.Value
leading_to K row n = product_to K n (λ j. K.minus K.one (slice_index_or row j K.one))

-- what the rows of a column from start to end add up to
abbrev pub column_sum : (K : Operations) → List K.Value → List K.Value → ℕ → ℕ → K.Value
column_sum K row dense start end = sum_to K (end - start) (λ r. K.times (eq K row r) (eq K dense (start + r)))

module _ (K : Operations) {R : Type 0} (value : R → K.Value) where
  -- the four products of a row and a dense coordinate, each by itself or as one minus itself
  pub record Products (row dense : K.Value) (layer : Layer R) : Type 0 where
    pub neither : value layer.neither ≡ K.times (factor K false row) (factor K false dense)
    pub row_alone : value layer.row_alone ≡ K.times (factor K true row) (factor K false dense)
    pub dense_alone : value layer.dense_alone ≡ K.times (factor K false row) (factor K true dense)
    pub both : value layer.both ≡ K.times (factor K true row) (factor K true dense)

  -- the weight of a comparison, and that of a state
  abbrev pub compared_at : Compared R → Bool → K.Value
  compared_at c less = cond less (value c.below) (value c.level)

  abbrev pub state_at : States R → Bool → Bool → K.Value
  state_at s carry less = cond carry (compared_at s.carried less) (compared_at s.plain less)
