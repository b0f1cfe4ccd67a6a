use Rattle.std.proofs.Common.{ap, ◌∙◌, ap₂}
use Rattle.selector.proofs.Spreads.{minus-times}
use Rattle.selector.proofs.automaton.layer_of.Goals as goal

pub returns : goal.returns
returns g c =
    let K = g.R.Ring.ops in
    let L = g.met.R.Ring.lawful in
    let row = g.R.Ring.value c.args.row in
    let dense = g.R.Ring.value c.args.dense in
    let dense_alone = c.minus-dense_alone.ensures ∙ ap (K.minus dense) (c.times-both.ensures ∙ L.times_comm row dense) ∙ minus-times K L dense row ∙ L.times_comm dense (K.minus K.one row) in
    let rest = c.minus.ensures ∙ ap (λ x. K.minus x row) c.one.ensures in
    record {
      neither = c.minus-2.ensures ∙ ap₂ K.minus rest dense_alone ∙ minus-times K L (K.minus K.one row) dense;
      row_alone = c.minus-3.ensures ∙ ap (K.minus row) c.times-both.ensures ∙ minus-times K L row dense;
      dense_alone = dense_alone;
      both = c.times-both.ensures;
    }
