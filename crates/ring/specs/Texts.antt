-- A fault in words: its name, and each field as a key and its value. Assumes nothing.
use Rattle.std.specs.Prelude.{List, ◌++◌, ℕ, codes, decimal}
use Prim.Native.String.{String}
use Rattle.ring.specs.declared.fault.RingError.{RingError}
use Rattle.ring.specs.declared.fault.RingError.TheVariants.{BufferTooShort}

-- a key and its value
abbrev pub entry : String → List ℕ → List ℕ
entry key text = codes key ++ (codes "=" ++ text)

-- the same after a space
abbrev pub field : String → List ℕ → List ℕ
field key text = codes " " ++ entry key text

abbrev pub ring_fault_fields : RingError → List ℕ
ring_fault_fields (BufferTooShort required available) =
    codes "BufferTooShort" ++ (field "required" (decimal required) ++ field "available" (decimal available))
