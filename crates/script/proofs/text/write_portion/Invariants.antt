use Rattle.std.proofs.Common.{◌≡◌, ◌*◌, length, take}
use Rattle.script.specs.Records.{hex}
use Rattle.script.proofs.text.write_portion.Given as goal

abbrev pub invariant-loop-place : goal.invariant-loop-place
invariant-loop-place g l = (length l.digits ≡ 64) × (take (2 * l.place) l.digits ≡ hex (take l.place l.bytes))
