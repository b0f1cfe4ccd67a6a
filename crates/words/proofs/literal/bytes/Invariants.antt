use Rattle.std.proofs.Common.{◌≡◌, ◌+◌, ◌*◌, length, Some, vec_items}
use Rattle.words.specs.Words.{after, hex_of}
use Rattle.words.proofs.literal.bytes.Given as goal

abbrev pub invariant-loop-rest : goal.invariant-loop-rest
invariant-loop-rest l = (after (Some (vec_items l.bytes)) (hex_of l.rest) ≡ hex_of l.word) × (length l.rest + 2 * length (vec_items l.bytes) ≡ length l.word)

abbrev pub decreases-loop-rest : goal.decreases-loop-rest
decreases-loop-rest l = length l.rest
