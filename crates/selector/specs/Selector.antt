-- The selector: the sum that it is, and its table. Assumes nothing.
use Rattle.std.specs.Prelude.{◌≡◌, ℕ, ◌+◌, ◌<◌, ◌≤◌, List, slice_index_or}
use Rattle.ring.specs.Operations.{Operations}
use Rattle.layout.specs.Shape.{Shape, columns, height, start, area, capacity}
use Rattle.selector.specs.Sums.{sum_to}
use Rattle.selector.specs.Weights.{eq, extension_at}

module _ (K : Operations) (S : Shape) where
  -- the sum, over the columns y and the rows r below so many, of eq(row, r) · eq(column, y) · f y r
  abbrev pub weighed : List K.Value → List K.Value → (ℕ → ℕ) → (ℕ → ℕ → K.Value) → K.Value
  weighed row column rows f = sum_to K (columns S) (λ y. sum_to K (rows y) (λ r. K.times (K.times (eq K row r) (eq K column y)) (f y r)))

  -- the selector at a point and a dense point: each row of each column by the dense weight of its place
  abbrev pub selector : List K.Value → List K.Value → List K.Value → K.Value
  selector row column dense = weighed row column (height S) (λ y r. eq K dense (start S y + r))

  -- the first n columns lie at their places
  abbrev pub Columns : ℕ → List K.Value → List K.Value → List K.Value → Type 0
  Columns n row column cells = (y r : ℕ) → y < n → r < height S y → slice_index_or cells (start S y + r) K.nought ≡ K.times (eq K row r) (eq K column y)

  -- the selector's table: at the place of each row of each column its weight, and zero from the area to the capacity
  pub record Table (row column cells : List K.Value) : Type 0 where
    pub live : Columns (columns S) row column cells
    pub padding : (i : ℕ) → area S ≤ i → i < capacity S → slice_index_or cells i K.nought ≡ K.nought

  -- whatever cells are the selector's table, their extension at the dense point is the selector
  abbrev pub Extends : List K.Value → List K.Value → List K.Value → Type 0
  Extends row column dense = (cells : List K.Value) → Table row column cells → extension_at K (λ i. slice_index_or cells i K.nought) dense ≡ selector row column dense
