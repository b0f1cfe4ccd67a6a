use Rattle.std.proofs.Common.{◌+◌, ◌-◌, ◌≤◌, map, length, set, sym, refl, ap, ◌∙◌, arith}
use Rattle.std.proofs.lemmas.List.{length-map, get_or-map, drop-set-lt}
use Rattle.std.proofs.lemmas.Nat.{shr_le}
use Rattle.selector.specs.Weights.{eq}
use Rattle.selector.proofs.Filled.{filled_first, filled_more, filled_all, first_cell}
use Rattle.selector.proofs.Places.{drop_more}
use Rattle.selector.proofs.weights.weigh.Goals as goal

pub loop-k-init : goal.loop-k-init
loop-k-init g c =
    (filled_first g.R.Ring.ops g.met.R.Ring.lawful _ (map g.R.Ring.value c.args.point.now) c.weight_count-count.result (length c.args.point.now) (map g.R.Ring.value (set c.args.buffer.now 0 c.args.scale)) (omega arith) (omega arith) refl, refl)

pub loop-k-preserved : goal.loop-k-preserved
loop-k-preserved g c =
    let K = g.R.Ring.ops in
    let v = g.R.Ring.value in
    let count = c.weight_count-count.result in
    let wanted = c.shifted.result + 1 in
    let few : wanted ≤ count = omega (arith, c.shifted.ensures, shr_le (count - 1) (length c.args.point.now - 1 - c.loop-k.k)) in (
      filled_more K g.met.R.Ring.lawful _ (map v c.args.point.now) count (length c.args.point.now) c.loop-k.k wanted (v c.index-point-k.result) (map v c.loop-k.buffer) (map v c.spread.new.buffer) (omega arith) (ap v c.index-point-k.is ∙ sym (get_or-map v c.args.point.now c.loop-k.k c.index-point-k.result K.one (omega arith))) (ap (λ n. n + 1) c.shifted.ensures) c.spread.ensures.cells c.loop-k.invariant.0,
      drop_more wanted count c.spread.new.buffer c.loop-k.buffer few c.spread.ensures.kept ∙ c.loop-k.invariant.1,
    )

pub returns : goal.returns
returns g c =
    let K = g.R.Ring.ops in
    let v = g.R.Ring.value in
    let count = c.weight_count-count.result in
    record {
      count = c.weight_count-count.ensures;
      weights = λ i less. filled_all K g.met.R.Ring.lawful _ (map v c.args.point.now) count (length c.args.point.now) c.loop-k.k (map v c.loop-k.buffer) (omega arith) (simp length-map (omega arith)) (omega arith) c.loop-k.invariant.0 i less ∙ ap (λ s. K.times s (eq K (map v c.args.point.now) i)) (first_cell K v c.args.buffer.now c.args.scale (omega arith));
      kept = c.loop-k.invariant.1 ∙ drop-set-lt count c.args.buffer.now 0 c.args.scale (omega arith);
    }
