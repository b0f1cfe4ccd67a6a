-- The numbers that the faults of ring calls go by. Assumes nothing.
use Rattle.std.specs.Prelude.{ℕ}
use Rattle.ring.specs.declared.fault.RingError.{RingError}
use Rattle.ring.specs.declared.fault.RingError.TheVariants.{BufferTooShort}

abbrev pub ring_number : RingError → ℕ
ring_number (BufferTooShort required available) = 18
