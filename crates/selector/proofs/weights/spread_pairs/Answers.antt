use Rattle.std.proofs.Common.{◌+◌, ◌-◌, ◌*◌, set, ◌∙◌, arith}
use Rattle.std.proofs.lemmas.List.{drop-set-lt}
use Rattle.selector.proofs.Spreads.{half_back}
use Rattle.selector.proofs.weights.spread_pairs.Goals as goal

pub loop-i-preserved : goal.loop-i-preserved
loop-i-preserved g c =
    let i = c.loop-i.i in
    let half = c.args.half in
    let buffer = c.loop-i.buffer in
    let down = c.minus.result in
    let up = c.times-upper.result in (
      half_back g.R.Ring.ops g.met.R.Ring.lawful g.R.Ring.value (g.R.Ring.value c.args.x) i half c.args.buffer.now buffer c.index-buffer-i.result up down (omega arith) (omega arith) (omega arith) c.loop-i.invariant.0 c.index-buffer-i.is c.times-upper.ensures c.minus.ensures,
      drop-set-lt (2 * half) (set buffer (2 * (i - 1)) down) (2 * (i - 1) + 1) up (omega arith) ∙ drop-set-lt (2 * half) buffer (2 * (i - 1)) down (omega arith) ∙ c.loop-i.invariant.1,
    )
