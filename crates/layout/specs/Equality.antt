-- Equality of layouts, as a test: their shapes, number by number. Assumes nothing.
use Rattle.std.specs.Prelude.{ℕ, Bool, List, ◌∷◌, nat_eq}
use Rattle.std.specs.Cmp.Lexicographic.{pointwise}
use Rattle.std.specs.Ordering.{on}
use Rattle.layout.specs.declared.geometry.JaggedLayout.{JaggedLayout}
use Rattle.layout.specs.Layout.{shape}
use Rattle.layout.specs.Shape.{Shape}

-- the numbers that make a shape
abbrev pub numbers : Shape → List ℕ
numbers S = S.rows ∷ S.dense ∷ S.heights

-- whether two layouts have the same shape
abbrev pub same_layout : JaggedLayout → JaggedLayout → Bool
same_layout = on (λ l. numbers (shape l)) (pointwise nat_eq)
