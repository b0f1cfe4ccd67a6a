use Rattle.std.proofs.Common.{◌≡◌, ◌++◌, List, ℕ}
use Rattle.std.specs.Fmt.{HasWritten, IsPlainFormatter}
use Rattle.std.specs.Slice.Iter.{chunks_size, chunks_rest}
use Rattle.script.specs.Records.{hex}
use Rattle.script.proofs.text.write_hex.Given as goal

abbrev pub invariant-loop-portion : goal.invariant-loop-portion
invariant-loop-portion g l =
    (chunks_size l.portion-iterator ≡ 32)
    × (IsPlainFormatter l.initial.f → (done : List ℕ) × (l.bytes ≡ done ++ chunks_rest l.portion-iterator) × HasWritten g.W.Write.write_str_gives l.initial.f (hex done) l.f)
