-- What a `JaggedLayout` stands for. Assumes nothing.
use Rattle.std.specs.Prelude.{◌+◌, ◌-◌, map, slice_index}
use Rattle.std.specs.List.{range_with_len}
use Rattle.layout.specs.declared.geometry.JaggedLayout.{JaggedLayout}
use Rattle.layout.specs.Shape.{Shape, Lawful}

-- the height of a column is what lies between its boundaries
unfoldable pub shape : JaggedLayout → Shape
shape l = record {
  rows = l.row_variables;
  dense = l.dense_variables;
  heights = map (λ y. slice_index l.boundaries (y + 1) - slice_index l.boundaries y) (range_with_len 0 l.columns);
}

-- every layout there is keeps the rules
abbrev pub AllLawful : Type 0
AllLawful = (l : JaggedLayout) → Lawful (shape l)
