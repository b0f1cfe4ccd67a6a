use Rattle.std.proofs.Common.{◌≡◌, ◌*◌, take}
use lib.Seq.{paste}
use Rattle.std.specs.List.{flat_map}
use Rattle.ring.specs.Bytes.{eight}
use Rattle.layout.proofs.encode.put_numbers.Given as goal

abbrev pub invariant-loop-place : goal.invariant-loop-place
invariant-loop-place l = l.bytes ≡ paste l.initial.bytes l.at (flat_map eight (take l.place l.numbers)) (8 * l.place)
