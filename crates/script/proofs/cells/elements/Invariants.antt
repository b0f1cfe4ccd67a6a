use Rattle.std.proofs.Common.{◌≡◌, vec_items}
use Rattle.std.specs.Slice.Iter.{chunks_size, chunks_rest}
use Rattle.ring.specs.Coefficients.{told}
use Rattle.script.proofs.Numbering.{Cut}
use Rattle.script.proofs.cells.elements.Given as goal

abbrev pub invariant-loop-chunk : goal.invariant-loop-chunk
invariant-loop-chunk g l =
    (chunks_size l.chunk-iterator ≡ told g.R.Element.parts)
    × Cut g.R.Element.parts g.R.Element.numbered l.numbers (vec_items l.elements) (chunks_rest l.chunk-iterator)
