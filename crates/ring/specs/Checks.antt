-- The checks of a call in their order, and what a call answers: the fault of the first that fails. Assumes nothing.
use Rattle.std.specs.Prelude.{◌≡◌, Bool, true, false, cond, List, [], ◌∷◌, ◌++◌, Ok, Err, Result, MatchResult}

-- whether a check fails, and the fault that it then gives
pub record Check (F : Type 0) : Type 0 where
  pub fails : Bool
  pub fault : F

-- where this holds, the call is refused with this fault
abbrev pub when : {F : Type 0} → Bool → F → Check F
when fails fault = record { fails = fails; fault = fault }

-- the fault of the first check that fails, or else what an accepted call answers
abbrev pub verdict : {F T : Type 0} → List (Check F) → T → Result T F
verdict [] accepted = Ok accepted
verdict (c ∷ cs) accepted = cond c.fails (Err c.fault) (verdict cs accepted)

-- a result through what its accepted answer stands for
abbrev pub on_ok : {F A B : Type 0} → (A → B) → Result A F → Result B F
on_ok f (Ok x) = Ok (f x)
on_ok f (Err e) = Err e

-- none of these checks fails
abbrev pub Passed : {F : Type 0} → List (Check F) → Type 0
Passed [] = Unit {0}
Passed (c ∷ cs) = (c.fails ≡ false) × Passed cs

-- the fault of a check that fails, after checks that all pass
pub record First {F : Type 0} (checks : List (Check F)) (fault : F) : Type 0 where
  pub before : List (Check F)
  pub after : List (Check F)
  pub split : checks ≡ before ++ (record { fails = true; fault = fault } ∷ after)
  pub passed : Passed before

-- an accepted call passed every check, and a fault is that of the first check that failed
abbrev pub Told : {F T : Type 0} → List (Check F) → Result T F → Type 0
Told checks r = MatchResult r (λ _. Passed checks) (First checks)
