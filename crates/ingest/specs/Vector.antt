-- What is checked of memory that is to hold the dense vector. Assumes nothing.
use Rattle.std.specs.Prelude.{ℕ, List, [], ◌∷◌, nat_lt}
use Rattle.ring.specs.Checks.{Check, when}
use Rattle.layout.specs.Shape.{Shape, capacity}
use Rattle.ingest.specs.declared.fault.JaggedIngestError.{JaggedIngestError}
use Rattle.ingest.specs.declared.fault.JaggedIngestError.TheVariants.{CommittedVectorTooShort, BufferTooShort}

-- of a committed vector of so many cells
abbrev pub vector_checks : Shape → ℕ → List (Check JaggedIngestError)
vector_checks S cells = when (nat_lt cells (capacity S)) (CommittedVectorTooShort (capacity S) cells) ∷ []

-- of a buffer of so many cells
abbrev pub buffer_checks : Shape → ℕ → List (Check JaggedIngestError)
buffer_checks S cells = when (nat_lt cells (capacity S)) (BufferTooShort (capacity S) cells) ∷ []
