-- The weights that a point gives to the numbers below 2^w, w being its number of coordinates. Assumes nothing.
use Rattle.std.specs.Prelude.{ℕ, ◌-◌, ◌/◌, ◌%◌, ◌^◌, Bool, cond, List, length, ◌==◌, nat_lt, slice_index_or}
use Rattle.ring.specs.Operations.{Operations}
use Rattle.selector.specs.Sums.{sum_to, product_to}

-- bit j of i, the lowest being bit 0
abbrev pub bit : ℕ → ℕ → Bool
bit j i = i / 2 ^ j % 2 == 1

-- what a coordinate gives to a bit: itself where the bit is set, else one minus itself
abbrev pub factor : (K : Operations) → Bool → K.Value → K.Value
factor K set x = cond set x (K.minus K.one x)

-- the weight of the number i; the first coordinate goes with the highest bit, and a number from 2^w on weighs nothing
abbrev pub eq : (K : Operations) → List K.Value → ℕ → K.Value
eq K point i = let w = length point in cond (nat_lt i (2 ^ w)) (product_to K w (λ j. factor K (bit (w - 1 - j) i) (slice_index_or point j K.one))) K.nought

-- a table's extension at a point: its cells by their weights
abbrev pub extension_at : (K : Operations) → (ℕ → K.Value) → List K.Value → K.Value
extension_at K table point = sum_to K (2 ^ length point) (λ i. K.times (eq K point i) (table i))
