-- What an answer says that is read from words. Assumes nothing.
use Rattle.std.specs.Prelude.{◌≡◌, ⊤, Some, None, Ok, Err, Option, Result}
use Rattle.words.specs.declared.unsaid.Unsaid.{Unsaid}
use Rattle.words.specs.declared.unsaid.Unsaid.TheVariants.{Nothing, NoMemory}

-- the answer, seen as a value, is just what the words mean; without memory nothing is promised
abbrev pub Says : {T A : Type 0} → (T → A) → Option A → Result T Unsaid → Type 0
Says view meant (Ok x) = Some (view x) ≡ meant
Says view meant (Err Nothing) = None ≡ meant
Says view meant (Err (NoMemory e)) = ⊤

-- that memory is what is missing
abbrev pub IsNoMemory : Unsaid → Type 0
IsNoMemory Nothing = ⊥
IsNoMemory (NoMemory e) = ⊤

-- what is said of an answer, and what of none; without memory nothing is promised
abbrev pub MatchSaid : {T : Type 0} → Result T Unsaid → Type 0 → (T → Type 0) → Type 0
MatchSaid (Ok x) none some = some x
MatchSaid (Err Nothing) none some = none
MatchSaid (Err (NoMemory e)) none some = ⊤
