use Rattle.std.proofs.Common.{◌≡◌, vec_items}
use Rattle.words.proofs.split.pieces.Given as goal

abbrev pub invariant-loop-piece : goal.invariant-loop-piece
invariant-loop-piece l = vec_items l.pieces ≡ l.yielded
