-- Cells by the numbers of their elements. Assumes nothing.
use Rattle.std.specs.Prelude.{◌≡◌, ℕ, ◌*◌, ◌<◌, List, length, take, drop, slice_index_or}

-- the elements of a list of numbers, so many numbers each, in order
pub record Numbered {E : Type 0} (parts : ℕ) (numbered : List ℕ → E → Type 0) (numbers : List ℕ) (cells : List E) : Type 0 where
  pub count : length numbers ≡ parts * length cells
  pub each : (i : ℕ) (d : E) → i < length cells → numbered (take parts (drop (parts * i) numbers)) (slice_index_or cells i d)
