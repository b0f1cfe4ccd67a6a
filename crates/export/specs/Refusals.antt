-- The refusals of a call, and the numbers that its caller is told. Assumes nothing.
use Rattle.std.specs.Prelude.{ℕ, Ok, Err, Result}
use Rattle.layout.specs.Faults as laying
use Rattle.ingest.specs.Faults as ingesting
use Rattle.selector.specs.Faults as selecting
use Rattle.export.specs.declared.refusal.Refusal.{Refusal}
use Rattle.export.specs.declared.refusal.Refusal.TheVariants.{Layout, Ingest, Selector}

-- the number that the layer's fault goes by
abbrev pub refusal_number : Refusal → ℕ
refusal_number (Layout e) = laying.fault_number e
refusal_number (Ingest e) = ingesting.fault_number e
refusal_number (Selector e) = selecting.fault_number e

-- what the caller is told: 0, or the refusal's number
abbrev pub told : {T : Type 0} → Result T Refusal → ℕ
told (Ok x) = 0
told (Err r) = refusal_number r

-- a layer's result, its fault as a refusal
abbrev pub refused : {T F : Type 0} → (F → Refusal) → Result T F → Result T Refusal
refused kind (Ok x) = Ok x
refused kind (Err e) = Err (kind e)

-- what the caller of a count is told: 0 if the call is refused
abbrev pub counted : Result ℕ Refusal → ℕ
counted (Ok n) = n
counted (Err r) = 0
