-- What is promised of ring elements as bytes. Assumes nothing.
use Rattle.std.specs.Prelude.{◌≡◌, ℕ, ◌-◌, ◌^◌, min, List, [], ◌∷◌, Some, None, Option, ◌≢◌, nat_lt}
use Rattle.ring.specs.Checks.{Check, when}
use Rattle.ring.specs.declared.fault.RingError.{RingError}
use Rattle.ring.specs.declared.fault.RingError.TheVariants.{BufferTooShort}

-- a whole number as a call tells it: at most 2^64 - 1
abbrev pub told : ℕ → ℕ
told n = min n (2 ^ 64 - 1)

-- the check of a call that writes a number of bytes into the room that it is lent
abbrev pub room_checks : ℕ → ℕ → List (Check RingError)
room_checks required available = when (nat_lt available required) (BufferTooShort (told required) available) ∷ []

-- reading back: an element whose bytes these are, or none where no element has them
abbrev pub ReadBack : {E : Type 0} → (E → List ℕ) → List ℕ → Option E → Type 0
ReadBack bytes_of bytes (Some x) = bytes_of x ≡ bytes
ReadBack {E} bytes_of bytes None = (x : E) → bytes_of x ≢ bytes
