-- A layout by what it means, and what every layout keeps. Assumes nothing.
use Rattle.std.specs.Prelude.{◌≡◌, ℕ, ◌+◌, ◌^◌, ◌<◌, ◌≤◌, List, [], ◌∷◌, map, length, take, sum, slice_index}
use Rattle.std.specs.List.{range_with_len}

-- the most columns that a layout has
abbrev pub max_columns : ℕ
max_columns = 256

-- a column has at most 2 ^ rows rows; the columns lie one after the other in a dense vector of 2 ^ dense cells
pub record Shape : Type 0 where
  pub rows : ℕ
  pub dense : ℕ
  pub heights : List ℕ

-- one column, and it is empty
abbrev pub empty_shape : Shape
empty_shape = record { rows = 0; dense = 0; heights = 0 ∷ [] }

abbrev pub columns : Shape → ℕ
columns S = length S.heights

-- how many rows column y has
abbrev pub height : Shape → ℕ → ℕ
height S y = slice_index S.heights y

-- where column y starts: the heights before it, added up
abbrev pub start : Shape → ℕ → ℕ
start S y = sum (take y S.heights)

abbrev pub area : Shape → ℕ
area S = sum S.heights

abbrev pub capacity : Shape → ℕ
capacity S = 2 ^ S.dense

-- the starts of all columns, then the end of the last
abbrev pub boundaries : Shape → List ℕ
boundaries S = map (start S) (range_with_len 0 (columns S + 1))

-- what every layout keeps
pub record Lawful (S : Shape) : Type 0 where
  pub power : (k : ℕ) × (columns S ≡ 2 ^ k)
  pub few : columns S ≤ max_columns
  pub rows_fit : S.rows < 64
  pub dense_fit : S.dense < 64
  pub bounded : (y : ℕ) → height S y ≤ 2 ^ S.rows
  pub covered : area S ≤ capacity S
