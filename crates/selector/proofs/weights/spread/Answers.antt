use Rattle.std.proofs.Common.{arith}
use Rattle.selector.proofs.Spreads.{spread_odd, spread_even}
use Rattle.selector.proofs.weights.spread.Goals as goal
use Rattle.selector.proofs.weights.spread.Goals.{then-wanted-eq1, else-wanted-eq1}

pub returns : goal.returns
returns g c =
    let K = g.R.Ring.ops in
    let v = g.R.Ring.value in
    let pairs = c.spread_pairs.ensures in
    elim c.if-wanted-eq1.branch [
      | then-wanted-eq1 w ↦
          let p = spread_odd K g.met.R.Ring.lawful v (v c.args.x) c.args.wanted c.args.buffer.now c.if-wanted-eq1.buffer c.spread_pairs.new.buffer w.index-buffer-half.result w.times.result w.minus.result w.if-wanted-eq1.true c.requires (omega arith) w.buffer-is w.index-buffer-half.is w.times.ensures w.minus.ensures pairs.cells pairs.kept in
          record { cells = p.0; kept = p.1 }
      | else-wanted-eq1 w ↦
          let p = spread_even K g.met.R.Ring.lawful v (v c.args.x) c.args.wanted c.args.buffer.now c.if-wanted-eq1.buffer c.spread_pairs.new.buffer w.if-wanted-eq1.false w.buffer-is pairs.cells pairs.kept in
          record { cells = p.0; kept = p.1 }
    ]
