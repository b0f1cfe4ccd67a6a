use Rattle.std.proofs.Common.{◌≡◌, ◌+◌, ◌^◌, ◌<◌, ◌≤◌, map, sum, sym, ap, ◌∙◌, arith}
use Rattle.std.specs.List.{range_with_len}
use Rattle.std.proofs.lemmas.Nat.{pow_below}
use Rattle.std.proofs.lemmas.List.FromFn.{sum_by-map-range_with_len_more}
use Rattle.std.proofs.lemmas.List.Sums.{sum_by-take-le}
use Rattle.layout.specs.Layout.{shape}
use Rattle.layout.specs.Shape.{columns, height, start, area, capacity}
use Rattle.layout.proofs.Shapes.{all_lawful, start_more}
use Rattle.ingest.specs.declared.record.ConversionPass.TheVariants.{Shared, Copied, Gathered, Widened}
use Rattle.ingest.specs.Charges.{charge}
use Rattle.ingest.specs.Table.{pass_of}
use Rattle.ingest.proofs.Passings.{expected_is}
use Rattle.ingest.proofs.ordered.Ordered.charge.Goals as goal

pub overflow_sub-dense_capacity : goal.overflow_sub-dense_capacity
overflow_sub-dense_capacity c = let law = all_lawful c.args.layout.now in omega (arith, law.covered)

pub loop-column-init : goal.loop-column-init
loop-column-init c =
    let none = c.padding-report.ensures.charges in
    (none, omega (arith, none Shared, none Copied, none Gathered, none Widened), omega arith)

pub charge-requires : goal.charge-requires
charge-requires c =
    let S = shape c.args.layout.now in
    let t = c.args.self.now.records.now in
    let i = c.loop-column.column in
    let law = all_lawful c.args.layout.now in
    let same = expected_is S i c.unwrap-rows.result (omega (arith, c.requires)) (sym c.column_height.ensures ∙ c.unwrap-rows.ensures) in
    let more = start_more S i (omega (arith, c.requires)) in
    let le : start S (i + 1) ≤ area S = sum_by-take-le (λ x. x) S.heights (i + 1) in
    let fits : capacity S < 2 ^ 64 = pow_below S.dense 64 law.dense_fit in
    omega (arith, c.loop-column.invariant.1, c.loop-column.invariant.2, law.covered)

pub loop-column-preserved : goal.loop-column-preserved
loop-column-preserved c =
    let S = shape c.args.layout.now in
    let t = c.args.self.now.records.now in
    let i = c.loop-column.column in
    let law = all_lawful c.args.layout.now in
    let same = expected_is S i c.unwrap-rows.result (omega (arith, c.requires)) (sym c.column_height.ensures ∙ c.unwrap-rows.ensures) in
    let more = start_more S i (omega (arith, c.requires)) in
    let le : start S (i + 1) ≤ area S = sum_by-take-le (λ x. x) S.heights (i + 1) in (
      (λ p.
          c.charge.ensures.charges p
          ∙ ap (λ n. n + charge p c.pass_of.result c.unwrap-rows.result) (c.loop-column.invariant.0 p)
          ∙ ap (λ q. sum (map (λ y. charge p (pass_of t y) (height S y)) (range_with_len 0 i)) + charge p q c.unwrap-rows.result) c.pass_of.ensures
          ∙ ap (λ n. sum (map (λ y. charge p (pass_of t y) (height S y)) (range_with_len 0 i)) + charge p (pass_of t i) n) same
          ∙ sym (sum_by-map-range_with_len_more (λ x. x) (λ y. charge p (pass_of t y) (height S y)) 0 i i (omega arith))),
      omega (arith, c.charge.ensures.whole, c.loop-column.invariant.1),
      c.charge.ensures.envelope ∙ c.loop-column.invariant.2,
    )

pub returns : goal.returns
returns c =
    let S = shape c.args.layout.now in
    let t = c.args.self.now.records.now in
    let end : c.loop-column.column ≡ columns S = omega (arith, c.requires) in
    ((λ p. c.loop-column.invariant.0 p ∙ ap (λ n. sum (map (λ y. charge p (pass_of t y) (height S y)) (range_with_len 0 n))) end), c.loop-column.invariant.2)
