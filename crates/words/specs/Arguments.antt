-- The arguments of a line: how many, which, and what they say together. Assumes nothing.
use Rattle.std.specs.Prelude.{ℕ, cond, List, [], length, Some, None, Option, ◌==◌, slice_index_or}
use Rattle.std.specs.Str.{bytes_eq}

-- what a value says further, where there is one
abbrev pub and : {A B : Type 0} → Option A → (A → Option B) → Option B
and None f = None
and (Some x) f = f x

-- just so many arguments
abbrev pub with : {B : Type 0} → ℕ → List (List ℕ) → Option B → Option B
with n arguments told = cond (length arguments == n) told None

-- the argument at a place
abbrev pub at : List (List ℕ) → ℕ → List ℕ
at arguments k = slice_index_or arguments k []

-- a first word, and what stands in its place
abbrev pub named : {B : Type 0} → List ℕ → List ℕ → Option B → Option B → Option B
named name word told else = cond (bytes_eq name word) told else

-- the first of two that tells something
abbrev pub or : {B : Type 0} → Option B → Option B → Option B
or None y = y
or (Some x) y = Some x
