use Rattle.std.proofs.Common.{◌+◌, ◌-◌, ◌^◌, false, map, length, ap, ◌∙◌, subst, ap₂, arith}
use Rattle.std.proofs.lemmas.List.{length-map}
use Rattle.selector.specs.Automaton.{coordinate, stepped}
use Rattle.selector.specs.Layers.{Products, leading_to, state_at}
use Rattle.selector.proofs.Runs.{run_top, run_step, run_bottom}
use Rattle.selector.proofs.evaluation.column_sum.Goals as goal

pub loop-layer-init : goal.loop-layer-init
loop-layer-init g c carry less =
    let K = g.R.Ring.ops in
    let v = g.R.Ring.value in
    let row = map v c.args.row.now in
    let dense = map v c.args.dense.now in
    let rows = length-map c.args.row.now v in
    let denses = length-map c.args.dense.now v in
    c.accepting-states.ensures carry less
    ∙ run_top K g.met.R.Ring.lawful row dense c.args.start c.args.end (v c.args.leading) c.requires.ordered (omega (arith, ap (λ n. 2 ^ n) denses)) (c.requires.leading ∙ ap (leading_to K row) (omega arith)) (length c.args.dense.now + 1) (omega arith) carry less

pub loop-layer-preserved : goal.loop-layer-preserved
loop-layer-preserved g c carry less =
    let K = g.R.Ring.ops in
    let v = g.R.Ring.value in
    let row = map v c.args.row.now in
    let dense = map v c.args.dense.now in
    let denses = length-map c.args.dense.now v in
    let layer = c.loop-layer.layer in
    let r = coordinate K row (layer - 1) in
    let z = coordinate K dense (layer - 1) in
    let states = state_at K v c.loop-layer.states in
    let products = subst (λ x. Products K v x z c.layer_of-products.result) c.coordinate_at.ensures (subst (λ x. Products K v (v c.coordinate_at.result) x c.layer_of-products.result) c.coordinate_at-in-loop-layer.ensures c.layer_of-products.ensures) in
    c.step-states.ensures r z products carry less
    ∙ ap₂ (λ s e. stepped K r z s e states carry less) c.bit_at.ensures c.bit_at-in-loop-layer.ensures
    ∙ run_step K g.met.R.Ring.lawful row dense c.args.start c.args.end layer states (omega arith) (omega arith) c.loop-layer.invariant carry less

pub returns : goal.returns
returns g c =
    let v = g.R.Ring.value in
    let row = map v c.args.row.now in
    let dense = map v c.args.dense.now in
    let rows = length-map c.args.row.now v in
    c.loop-layer.invariant false false ∙ run_bottom g.R.Ring.ops g.met.R.Ring.lawful row dense c.args.start c.args.end c.loop-layer.layer (omega arith) (omega (arith, ap (λ n. 2 ^ n) rows))
