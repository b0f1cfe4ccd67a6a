use Rattle.std.proofs.Common.{◌+◌, ◌^◌, map, length, sym, ap, ◌∙◌, ap₂, arith}
use Rattle.std.proofs.lemmas.Iterator.Adapters.{YieldsList-from_rev_slice}
use Rattle.std.proofs.lemmas.Iterator.Consumers.{YieldsList-from_enumerate, YieldsList-at, YieldsList-turn, YieldsList-end}
use Rattle.std.proofs.lemmas.List.{length-map, length_push}
use Rattle.ring.specs.Algebra.{one-times}
use Rattle.selector.specs.Weights.{bit, factor}
use Rattle.selector.proofs.Fronts.{above, above_all, above_more, above_none}
use Rattle.selector.proofs.Reversed.{from_last, from_last_all}
use Rattle.selector.proofs.weights.weight_at.Goals as goal

pub loop-layer-init : goal.loop-layer-init
loop-layer-init g c =
    let K = g.R.Ring.ops in
    let L = g.met.R.Ring.lawful in
    let point = map g.R.Ring.value c.args.point.now in
    ap (λ x. K.times x (above K L point c.args.index 0)) c.one-product.ensures ∙ one-times K L _ ∙ above_all K L point c.args.index

pub loop-layer-preserved : goal.loop-layer-preserved
loop-layer-preserved g c =
    let K = g.R.Ring.ops in
    let L = g.met.R.Ring.lawful in
    let v = g.R.Ring.value in
    let point = map v c.args.point.now in
    let n = length c.loop-layer.yielded in
    let product = v c.loop-layer.product in
    let turn = YieldsList-turn (YieldsList-at c.into_iter-layer-iterator.ensures.into_iter_gives (YieldsList-from_enumerate (YieldsList-at c.enumerate-layer-items.ensures.source (YieldsList-from_rev_slice c.args.point.now cc)) c.enumerate-layer-items.ensures.count)) c.loop-layer.yielded _ c.loop-layer.yielded_by _ _ (c.in-Some.layer, c.in-Some.x) c.in-Some.is c.next.ensures.steps in
    let here = from_last v c.args.point.now n c.in-Some.layer c.in-Some.x.now K.one turn in
    ap₂ (λ p k. K.times p (above K L point c.args.index k)) (c.times-product.ensures ∙ ap (K.times product) (c.factor_of.ensures ∙ ap (λ b. factor K b (v c.in-Some.x.now)) c.bit_at.ensures)) (length_push c.loop-layer.yielded _)
    ∙ ap (λ k. K.times (K.times product (factor K (bit k c.args.index) (v c.in-Some.x.now))) (above K L point c.args.index (n + 1))) here.place
    ∙ above_more K L point c.args.index n product (v c.in-Some.x.now) here.inside here.item
    ∙ c.loop-layer.invariant

pub returns : goal.returns
returns g c =
    let K = g.R.Ring.ops in
    let L = g.met.R.Ring.lawful in
    let v = g.R.Ring.value in
    let point = map v c.args.point.now in
    let end = YieldsList-end (YieldsList-at c.into_iter-layer-iterator.ensures.into_iter_gives (YieldsList-from_enumerate (YieldsList-at c.enumerate-layer-items.ensures.source (YieldsList-from_rev_slice c.args.point.now cc)) c.enumerate-layer-items.ensures.count)) c.loop-layer.yielded _ c.loop-layer.yielded_by _ _ c.in-None.is c.next.ensures.steps in
    sym (L.times-one _) ∙ ap (K.times (v c.loop-layer.product)) (sym (above_none K L point c.args.index (length c.loop-layer.yielded) (end.1 ∙ from_last_all v c.args.point.now) (omega (arith, ap (λ n. 2 ^ n) (length-map c.args.point.now v))))) ∙ c.loop-layer.invariant
