-- The record of a call: the line that is printed for a line of a script. Assumes nothing.
use Rattle.std.specs.Prelude.{ℕ, ◌/◌, ◌%◌, false, cond, List, [], ◌∷◌, ◌++◌, Some, vec_items, string_bytes, codes, decimal, Option}
use Rattle.std.specs.Fmt.{digit_glyph, ◌++?◌}
use Rattle.std.specs.List.{flat_map}
use Rattle.ring.specs.declared.fault.RingError.{RingError}
use Rattle.layout.specs.declared.error.JaggedLayoutError.{JaggedLayoutError}
use Rattle.ring.specs.Numbers.{ring_number}
use Rattle.layout.specs.Faults.{fault_number}
use Rattle.layout.specs.Layout.{shape}
use Rattle.layout.specs.Shape.{Shape}
use Rattle.layout.specs.Texts.{layout_text}
pub use Rattle.layout.specs.Texts.{commas, layout_fault_fields, variable_fields, size_fields}
use Rattle.ring.specs.Texts.{ring_fault_fields}
pub use Rattle.ring.specs.Texts.{entry, field}
use Rattle.script.specs.declared.answer.Answer.{Answer}
use Rattle.script.specs.declared.answer.Answer.TheVariants.{NoCall, Accepted, Layout, Height, Written, ByteLength, Element, NoElement, Equal, LayoutFault, RingFault}

-- a text of each, with commas between them
abbrev pub separated : {A : Type 0} → (A → List ℕ) → List A → List ℕ
separated text [] = []
separated text (x ∷ []) = text x
separated text (x ∷ y ∷ xs) = text x ++ (codes "," ++ separated text (y ∷ xs))

-- what is printed of each, with commas between them; unknown where one of them is
abbrev pub separated_outputs : {A : Type 0} → (A → Option (List ℕ)) → List A → Option (List ℕ)
separated_outputs output [] = Some []
separated_outputs output (x ∷ []) = output x
separated_outputs output (x ∷ y ∷ xs) = output x ++? Some (codes ",") ++? separated_outputs output (y ∷ xs)

-- the two hexadecimal digits of each byte
abbrev pub hex : List ℕ → List ℕ
hex bytes = flat_map (λ b. digit_glyph false (b / 16) ∷ digit_glyph false (b % 16) ∷ []) bytes

-- a fault's number, then its name and its fields
abbrev pub fault : ℕ → List ℕ → List ℕ
fault number named = codes "fault " ++ (decimal number ++ (codes " " ++ named))

abbrev pub ring_fault : RingError → List ℕ
ring_fault f = fault (ring_number f) (ring_fault_fields f)

abbrev pub layout_fault : JaggedLayoutError → List ℕ
layout_fault f = fault (fault_number f) (layout_fault_fields f)

-- everything that a layout tells of itself
unfoldable pub layout_fields : Shape → List ℕ
layout_fields S = codes " " ++ layout_text S

-- what an answer says, after the number of its line
abbrev pub told : Answer → List ℕ
told NoCall = codes "no call"
told Accepted = codes "ok"
told (Layout l) = codes "ok" ++ layout_fields (shape l)
told (Height height) = codes "ok" ++ field "height" (decimal height)
told (Written written buffer) = codes "ok" ++ (field "written" (decimal written) ++ field "bytes" (hex (vec_items buffer)))
told (ByteLength bytes) = codes "ok" ++ field "byte_length" (decimal bytes)
told (Element text) = codes "ok" ++ field "element" (string_bytes text)
told NoElement = codes "ok" ++ field "element" (codes "none")
told (Equal equal) = codes "ok" ++ field "equal" (cond equal (codes "true") (codes "false"))
told (LayoutFault f) = layout_fault f
told (RingFault f) = ring_fault f

-- the whole line
abbrev pub line : ℕ → Answer → List ℕ
line number answer = decimal number ++ (codes " " ++ told answer)
