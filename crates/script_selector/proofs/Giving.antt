-- Cells by their numbers. Assumes nothing.
use Rattle.std.proofs.Common.{◌≡◌, ℕ, ◌%◌, List, length, codes, MatchBool, eqb, sym, subst}
use Rattle.std.proofs.lemmas.Bool.{eq-eqb}
use Rattle.script.specs.Cells.{Numbered}
use Rattle.script.proofs.Numbering.{wholly}

-- a list of whole elements is not told as no call
module _ {E : Type 0} {parts : ℕ} {numbered : List ℕ → E → Type 0} {ns : List ℕ} {xs : List E} where
  pub given : (text : List ℕ) (P : List E → Type 0) → Numbered parts numbered ns xs → P xs → MatchBool (eqb (length ns % parts) 0) ((xs : List E) × Numbered parts numbered ns xs × P xs) (text ≡ codes "no call")
  given text P h p =
      subst (λ b. MatchBool b ((xs : List E) × Numbered parts numbered ns xs × P xs) (text ≡ codes "no call"))
      (sym (eq-eqb (length ns % parts) 0 (wholly parts (length xs) (length ns) h.count))) (xs, h, p)
