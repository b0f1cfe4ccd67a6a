use Rattle.std.proofs.Common.{sym, ap, ◌∙◌}
use Rattle.ring.specs.Extension.{copies}
use Rattle.ring.specs.Algebra.{times-copies}
use Rattle.ring.specs.Extensions.{both}
use Rattle.ring.proofs.pair.PairRing.times.Goals as goal

pub returns : goal.returns
returns g c =
    let K = g.R.Ring.ops in
    let v = g.R.Ring.value in
    let eleven = c.eleven_times-square.ensures ∙ sym (times-copies K g.met.R.Ring.lawful 11 (v c.times.result)) ∙ ap (λ x. K.times x (copies K 11 K.one)) c.times.ensures in
    both
    (c.plus.ensures ∙ ap (λ x. K.plus x (v c.eleven_times-square.result)) c.times-2.ensures ∙ ap (K.plus _) eleven)
    (c.plus-2.ensures ∙ ap (λ x. K.plus x (v c.times-4.result)) c.times-3.ensures ∙ ap (K.plus _) c.times-4.ensures)
