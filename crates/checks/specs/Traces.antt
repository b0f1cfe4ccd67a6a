-- Worked examples as equations between definitions. Assumes nothing.
use Rattle.std.specs.Prelude.{◌≡◌, ℕ, ◌+◌, ◌^◌, List, [], ◌∷◌, ◌++◌, map, Ok, Err, Result, slice_index, slice_index_or}
use Rattle.ring.specs.Bytes.{eight}
use Rattle.ring.specs.Checks.{verdict}
use Rattle.ring.specs.Kinds.{residues, residue_of}
use Rattle.layout.specs.Encoding.{layout_bytes}
use Rattle.layout.specs.Plan.{checks, dense_for, planned}
use Rattle.layout.specs.Shape.{Shape, boundaries}
use Rattle.layout.specs.declared.error.JaggedLayoutError.{JaggedLayoutError}
use Rattle.layout.specs.declared.error.JaggedLayoutError.TheVariants.{RowVariablesOverflow, HeightExceedsRowBound, AreaOverflow, DenseAreaOverflow, DenseVariablesOverflow}
use Rattle.selector.specs.Selector.{selector, weighed}
use Rattle.selector.specs.Weights.{eq}

-- what a layout call answers
abbrev pub asked : ℕ → List ℕ → ℕ → Result (Unit {0}) JaggedLayoutError
asked rows heights minimum = verdict (checks rows heights minimum) tt

-- T: one row variable, and columns of heights 2 and 1
abbrev pub T : Shape
T = planned 1 (2 ∷ 1 ∷ []) 0

abbrev pub point : List ℕ → List residues.Value
point = map residue_of

-- the number of a residue
abbrev pub number : residues.Value → ℕ
number r = r.0

-- T's cells 10, 20 and 30, row by row
abbrev pub cell : ℕ → ℕ → residues.Value
cell y r = residue_of (slice_index (slice_index_or ((10 ∷ 20 ∷ []) ∷ (30 ∷ []) ∷ []) y []) r)

pub record Traces : Type 0 where
  pub first_layout : (asked 1 (2 ∷ 1 ∷ []) 0 ≡ Ok tt) × (boundaries T ≡ 0 ∷ 2 ∷ 3 ∷ []) × (T.dense ≡ 2)
  pub nothing : (dense_for 0 0 ≡ 0) × (number (selector residues (planned 0 (0 ∷ []) 0) [] [] []) ≡ 0)
  pub row_variables : (asked 63 (0 ∷ []) 0 ≡ Ok tt) × (asked 64 (0 ∷ []) 0 ≡ Err (RowVariablesOverflow 64))
  pub tallest : (asked 63 (2 ^ 63 ∷ []) 0 ≡ Ok tt) × (dense_for (2 ^ 63) 0 ≡ 63)
  pub areas : (asked 63 (2 ^ 63 ∷ 1 ∷ []) 0 ≡ Err (DenseAreaOverflow (2 ^ 63 + 1))) × (asked 63 (2 ^ 63 ∷ 2 ^ 63 ∷ []) 0 ≡ Err (AreaOverflow 1))
  pub minimum : (asked 1 (2 ∷ 1 ∷ []) 63 ≡ Ok tt) × (asked 1 (2 ∷ 1 ∷ []) 64 ≡ Err (DenseVariablesOverflow 64))
  pub heights : (asked 1 (2 ∷ []) 0 ≡ Ok tt) × (asked 1 (3 ∷ []) 0 ≡ Err (HeightExceedsRowBound 0 3 2))
  pub weights : (number (residues.times (eq residues (point (3 ∷ [])) 0) (eq residues (point (5 ∷ [])) 0)) ≡ 8) × (number (residues.plus (residues.times (eq residues (point (3 ∷ [])) 1) (eq residues (point (5 ∷ [])) 0)) (residue_of 12)) ≡ 0) × (number (residues.plus (residues.times (eq residues (point (3 ∷ [])) 0) (eq residues (point (5 ∷ [])) 1)) (residue_of 10)) ≡ 0)
  pub first_selector : number (selector residues T (point (3 ∷ [])) (point (5 ∷ [])) (point (7 ∷ 2 ∷ []))) ≡ 262
  pub first_value : number (weighed residues T (point (3 ∷ [])) (point (5 ∷ [])) (λ y. slice_index (2 ∷ 1 ∷ []) y) cell) ≡ 2013265461
  pub corner : number (selector residues (planned 2 (1 ∷ 3 ∷ []) 0) (point (1 ∷ 0 ∷ [])) (point (1 ∷ [])) (point (1 ∷ 1 ∷ []))) ≡ 1
  pub bytes : layout_bytes T ≡ eight 1 ++ eight 2 ++ eight 3 ++ eight 0 ++ eight 2 ++ eight 3
