use Rattle.std.proofs.Common.{refl, ◌+◌, ◌≡◌, ◌-◌, length, ◌∙◌, arith, length-drop, length-take}
use Rattle.selector.proofs.Places.{map_below, map_in}
use Rattle.selector.proofs.tables.fill_column.Goals as goal

pub returns : goal.returns
returns g c =
    let K = g.R.Ring.ops in
    let v = g.R.Ring.value in
    let start = c.args.start in
    let end = c.args.end in
    let cells = c.args.cells.now in
    let part = c.weigh.new.buffer in
    let long : length part ≡ end - start = c.weigh.auto.buffer ∙ simp (length-take, length-drop) (omega arith) in
    let count : c.weigh.result ≡ end - start = c.weigh.ensures.count ∙ simp (length-take, length-drop) (omega arith) in
    record {
      weights = λ i h. map_in v start (end - start) cells part (omega arith) i (start + i) K.nought refl (omega arith) ∙ c.weigh.ensures.weights i (omega arith) ∙ g.met.R.Ring.lawful.times_comm _ _;
      low = λ i h. map_below v start (end - start) cells part (omega arith) i K.nought h;
    }
