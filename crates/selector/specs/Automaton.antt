-- What the automaton's states stand for, layer by layer. Assumes nothing.
use Rattle.std.specs.Prelude.{ℕ, zero, suc, ◌+◌, ◌-◌, ◌/◌, ◌^◌, Bool, true, false, cond, ◌&&◌, ◌||◌, List, length, ◌==◌, nat_lt, slice_index_or}
use Rattle.ring.specs.Operations.{Operations}
use Rattle.selector.specs.Sums.{sum_to}
use Rattle.selector.specs.Weights.{bit, factor}

-- a point's coordinate at a layer, the lowest bit's being layer 0; zero above the point
abbrev pub coordinate : (K : Operations) → List K.Value → ℕ → K.Value
coordinate K point layer = cond (nat_lt layer (length point)) (slice_index_or point (length point - 1 - layer) K.one) K.nought

-- the weight that n coordinates from a layer up give to i
abbrev pub upper : (K : Operations) → (ℕ → K.Value) → ℕ → ℕ → ℕ → K.Value
upper K point layer zero i = cond (i == 0) K.one K.nought
upper K point layer (suc n) i = K.times (factor K (bit 0 i) (point layer)) (upper K point (suc layer) n (i / 2))

-- one or zero
abbrev pub digit : Bool → ℕ
digit set = cond set 1 0

-- a column of bits added up: the bit of the sum, and what is carried
abbrev pub sum_bit : Bool → Bool → Bool → Bool
sum_bit a b c = bit 0 (digit a + digit b + digit c)

abbrev pub carry_out : Bool → Bool → Bool → Bool
carry_out a b c = bit 1 (digit a + digit b + digit c)

-- the comparison one bit further up: bits that differ decide, equal ones leave it as it was
abbrev pub less_out : Bool → Bool → Bool → Bool
less_out index end less = cond index (cond end less false) (cond end true less)

-- index is below end, or equal to it where the lower bits said so
abbrev pub below : ℕ → ℕ → Bool → Bool
below index end less = nat_lt index end || (index == end && less)

-- The suffix weight of a state at a layer: a carry and a comparison came from the lower bits, and n layers are left. It sums, over
-- the rows' bits from that layer up, the row's weight times the dense weight of row + start + carry, where that index is below the end.
abbrev pub suffix : (K : Operations) → (ℕ → K.Value) → (ℕ → K.Value) → ℕ → ℕ → ℕ → ℕ → Bool → Bool → K.Value
suffix K row dense start end layer n carry less = sum_to K (2 ^ n) (λ i. let index = i + (start / 2 ^ layer + digit carry) in cond (below index (end / 2 ^ layer) less) (K.times (upper K row layer n i) (upper K dense layer n index)) K.nought)

-- A state's weight from the weights of the layer above, at a row and a dense coordinate and the bits of start and end there: the row's
-- bit is 0 or 1, and it fixes the index's bit, the carry and the comparison that go on.
abbrev pub stepped : (K : Operations) → K.Value → K.Value → Bool → Bool → (Bool → Bool → K.Value) → Bool → Bool → K.Value
stepped K row dense start end above carry less = K.plus (branch false) (branch true)
  where
    branch : Bool → K.Value
    branch b = let t = sum_bit b start carry in K.times (K.times (factor K b row) (factor K t dense)) (above (carry_out b start carry) (less_out t end less))
