-- What an answer tells of its checks. Assumes nothing.
use Rattle.std.proofs.Common.{◌≡◌, List, [], Ok, sym, ap, ◌∙◌, append-nil}
use Rattle.ring.specs.Checks.{Check, verdict}
use Rattle.ring.proofs.Verdicts.{passed_from_ok, verdict-passed}

-- an accepted call answers what it is asked for
pub accepted : {F T U : Type 0} (cs : List (Check F)) (t : T) (u v : U) → verdict cs u ≡ Ok v → verdict cs t ≡ Ok t
accepted cs t u v h = ap (λ l. verdict l t) (sym (append-nil cs)) ∙ verdict-passed cs [] t (passed_from_ok cs u v h)
