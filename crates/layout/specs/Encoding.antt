-- A layout as bytes. Assumes nothing.
use Rattle.std.specs.Prelude.{◌≡◌, ℕ, ◌+◌, ◌*◌, List, ◌∷◌}
use Rattle.std.specs.List.{flat_map}
use Rattle.ring.specs.Bytes.{eight}
use Rattle.layout.specs.Shape.{Shape, Lawful, columns, boundaries}

-- the row variables, the dense variables, the number of boundaries and the boundaries, eight bytes each
unfoldable pub layout_bytes : Shape → List ℕ
layout_bytes S = flat_map eight (S.rows ∷ S.dense ∷ (columns S + 1) ∷ boundaries S)

-- how many bytes those are
abbrev pub layout_length : Shape → ℕ
layout_length S = 24 + 8 * (columns S + 1)

-- equal bytes come from equal layouts, and from no others
abbrev pub BytesTell : Type 0
BytesTell = (S T : Shape) → Lawful S → Lawful T → (layout_bytes S ≡ layout_bytes T → S ≡ T) × (S ≡ T → layout_bytes S ≡ layout_bytes T)
