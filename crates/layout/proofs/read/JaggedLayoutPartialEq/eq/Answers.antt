use Rattle.std.proofs.Common.{◌≡◌, Decides, nat_eq, sym, ap, ◌∙◌}
use Rattle.std.proofs.lemmas.Slice.Eq.{slice_eq-Decides}
use Rattle.std.proofs.lemmas.Bool.{false≢true, eq-eqb, eqb-true}
use Rattle.std.proofs.lemmas.Bool.Decides.{Decides-eqb}
use Rattle.std.specs.Bool.{one_answer}
use Rattle.std.specs.Cmp.Lexicographic.{pointwise}
use Rattle.layout.specs.Equality.{numbers}
use Rattle.layout.specs.Layout.{shape}
use Rattle.layout.specs.Shape.{Shape}
use Rattle.layout.proofs.Shapes.{shapes_decided, numbers_decide}
use Rattle.layout.proofs.read.JaggedLayoutPartialEq.eq.Goals as goal
use Rattle.layout.proofs.read.JaggedLayoutPartialEq.eq.Goals.{then-self-other, else-self-other}

pub returns-then-self-other-2 : goal.returns-then-self-other-2
unfolding shape
returns-then-self-other-2 c =
    let a = shape c.args.self.now in
    let b = shape c.args.other.now in
    let told = slice_eq-Decides Decides-eqb c.cumulative_heights.result.now c.cumulative_heights-then-self-other-2.result.now c.eq.result c.eq.ensures in
    let whole = c.cumulative_heights.ensures.value in
    let other = c.cumulative_heights-then-self-other-2.ensures.value in
    elim c.if-self-other.branch [
      | then-self-other w ↦
          let dense = eqb-true _ _ (sym w.value-is ∙ c.if-self-other-2.true) in
          let decided = shapes_decided a b c.eq.result w.if-self-other.true dense (
            (λ t. sym whole ∙ told.0 t ∙ other),
            (λ e. told.1 (whole ∙ e ∙ sym other)),
          ) in
          record {
            answer = one_answer c.eq.result (pointwise nat_eq (numbers a) (numbers b)) decided (numbers_decide a b);
            decided = decided;
          }
      | else-self-other w ↦ absurd (w.if-self-other.false (eqb-true _ _ (sym w.value-is ∙ c.if-self-other-2.true)))
    ]

pub returns-else-self-other-2 : goal.returns-else-self-other-2
unfolding shape
returns-else-self-other-2 c =
    let a = shape c.args.self.now in
    let b = shape c.args.other.now in
    let v = c.if-self-other.value in
    let decided : Decides v (a ≡ b) = (
      (λ t. absurd (false≢true (sym c.if-self-other-2.false ∙ t))),
      (λ e.
          elim c.if-self-other.branch [
            | then-self-other w ↦ w.value-is ∙ eq-eqb _ _ (ap (λ (S : Shape). S.dense) e)
            | else-self-other w ↦ w.value-is ∙ eq-eqb _ _ (ap (λ (S : Shape). S.rows) e)
          ]),
    ) in
    record {
      answer = one_answer v (pointwise nat_eq (numbers a) (numbers b)) decided (numbers_decide a b);
      decided = decided;
    }
