use Rattle.std.proofs.Common.{◌≡◌, filter, vec_items}
use Rattle.words.specs.Cuts.{texts}
use Rattle.words.proofs.Cutting.{solid}
use Rattle.words.proofs.split.words.Given as goal

abbrev pub invariant-loop-piece : goal.invariant-loop-piece
invariant-loop-piece l = texts (vec_items l.words) ≡ filter solid (texts l.yielded)
