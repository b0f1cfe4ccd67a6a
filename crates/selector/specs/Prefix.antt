-- How many weights fit into a buffer, and a buffer that holds them. Assumes nothing.
use Rattle.std.specs.Prelude.{◌≡◌, ℕ, ◌/◌, ◌^◌, ◌<◌, ◌≤◌, min, List, slice_index_or}
use Rattle.ring.specs.Operations.{Operations}
use Rattle.selector.specs.Weights.{bit, factor, eq}

-- a point of w coordinates has 2^w weights; as many of them as a buffer has cells
abbrev pub weight_count : ℕ → ℕ → ℕ
weight_count width cells = min cells (2 ^ width)

-- the first n cells are the weights of a point by a scale
abbrev pub Weighs : (K : Operations) → K.Value → List K.Value → ℕ → List K.Value → Type 0
Weighs K scale point n cells = (i : ℕ) → i < n → slice_index_or cells i K.nought ≡ K.times scale (eq K point i)

-- one coordinate more, at the cells from a place up to another: each is its half's cell before, by what the coordinate gives to its lowest bit
abbrev pub Spread : (K : Operations) → K.Value → ℕ → ℕ → List K.Value → List K.Value → Type 0
Spread K x from to before after = (m : ℕ) → from ≤ m → m < to → slice_index_or after m K.nought ≡ K.times (slice_index_or before (m / 2) K.nought) (factor K (bit 0 m) x)
