-- What the slots of a session hold, by what the layouts mean. Assumes nothing.
use Rattle.std.specs.Prelude.{◌≡◌, ℕ, cond, List, Some, None, MatchResult, Option, Result}
use Rattle.std.specs.BTreeMap.{get_by_text}
use Rattle.std.specs.Str.{bytes_eq as same_text}
use Rattle.layout.specs.declared.geometry.JaggedLayout.{JaggedLayout}
use Rattle.layout.specs.Layout.{shape}
use Rattle.layout.specs.Shape.{Shape, empty_shape}
use Rattle.script.specs.declared.session.Session.{Session}

-- a slot that was never filled holds one empty column
abbrev pub shape_or : Option JaggedLayout → Shape
shape_or None = empty_shape
shape_or (Some l) = shape l

-- what a name holds
abbrev pub slot : Session → List ℕ → Shape
slot s name = shape_or (get_by_text s.slots name)

-- the slots, but for one name
abbrev pub placed : (List ℕ → Shape) → List ℕ → Shape → List ℕ → Shape
placed slots name S other = cond (same_text other name) S (slots other)

-- every slot is as it was
abbrev pub Same : Session → Session → Type 0
Same s t = (name : List ℕ) → slot t name ≡ slot s name

-- a call that answers leaves these slots; without memory every slot is as it was
abbrev pub Leaves : {T E : Type 0} → Result T E → Session → Session → (List ℕ → Shape) → Type 0
Leaves result old new slots = MatchResult result (λ _. (other : List ℕ) → slot new other ≡ slots other) (λ _. Same old new)
