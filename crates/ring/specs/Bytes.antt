-- Numbers as bytes, and bytes put at the front of a buffer. Assumes nothing.
use Rattle.std.specs.Prelude.{ℕ, zero, suc, ◌/◌, ◌%◌, ◌^◌, List, [], ◌∷◌, ◌++◌, length, drop}

-- the lowest k bytes of n, the most significant first
abbrev pub big_endian : ℕ → ℕ → List ℕ
big_endian zero n = []
big_endian (suc k) n = (n / 256 ^ k % 256) ∷ big_endian k n

-- a number below 2^64 in eight bytes, the most significant first
abbrev pub eight : ℕ → List ℕ
eight n = big_endian 8 n

-- a buffer whose first cells are overwritten; those past the end keep their contents
abbrev pub over : {A : Type 0} → List A → List A → List A
over front buffer = front ++ drop (length front) buffer
