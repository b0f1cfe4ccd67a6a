use Rattle.std.proofs.Common.{◌+◌, ◌^◌, ◌<◌, ◌≤◌, length, get_or, sum, sym, refl, ap, ◌∙◌, subst, arith, rules}
use Rattle.std.proofs.lemmas.List.{take_all}
use Rattle.std.proofs.lemmas.Result.{err_from_is_err_and}
use Rattle.std.proofs.lemmas.List.Sums.{sum_by_more}
use Rattle.layout.specs.Layout.{shape}
use Rattle.layout.specs.Plan.{checks, planned}
use Rattle.layout.proofs.Plans.{accepted_passed, accepted_dense, plan_power, plan_area, plan_lawful}
use Rattle.layout.proofs.Powers.{powers_of_two, covering_least}
use Rattle.layout.proofs.Shapes.{all_lawful, heights_are, same_shape}
use Rattle.ring.proofs.Verdicts.{verdict_err, verdict_all, first_from_err}
use Rattle.layout.proofs.geometry.JaggedLayout.with_min_dense_variables.Goals as goal

pub returns-in_err-dense_variables : goal.returns-in_err-dense_variables
returns-in_err-dense_variables c =
    let p = err_from_is_err_and c.from_residual.result c.from_residual.ensures.1 in
    let cs = checks c.args.row_variables c.args.heights.now c.args.min_dense_variables in
    let e = c.in_err-dense_variables.field-0.0 in
    let refused = verdict_err cs (tt {0}) _ e (sym c.checked_dense_variables.ensures ∙ c.in_err-dense_variables.was) in
    rw (p.1, p.2) (record {
      answer = sym refused;
      after = refl;
      first = first_from_err cs (tt {0}) e refused;
      powers = powers_of_two;
      least = covering_least;
      lawful = all_lawful;
    })

pub boundaries_of-requires : goal.boundaries_of-requires
boundaries_of-requires c =
    let ok = sym c.checked_dense_variables.ensures ∙ c.in_ok-dense_variables.was in
    let passed = accepted_passed c.args.row_variables c.args.heights.now c.args.min_dense_variables _ ok in
    record {
      few = (plan_lawful c.args.row_variables c.args.heights.now c.args.min_dense_variables passed).few;
      fits = omega (arith, plan_area c.args.row_variables c.args.heights.now c.args.min_dense_variables passed);
    }

pub invariant_of-self : goal.invariant_of-self
invariant_of-self c =
    let rows = c.args.row_variables in
    let hs = c.args.heights.now in
    let minimum = c.args.min_dense_variables in
    let ok = sym c.checked_dense_variables.ensures ∙ c.in_ok-dense_variables.was in
    let passed = accepted_passed rows hs minimum _ ok in
    let dense = accepted_dense rows hs minimum _ ok in
    let lawful = plan_lawful rows hs minimum passed in
    let starts = c.boundaries_of.ensures.starts in
    record {
      power = plan_power rows hs minimum passed;
      few = lawful.few;
      rows = lawful.rows_fit;
      dense = subst (λ d. d < 64) (sym dense) lawful.dense_fit;
      long = search rules;
      origin = starts 0 (omega arith);
      ascends = λ y h. omega (arith, sum_by_more (λ x. x) hs y 0 h, starts y (omega arith), starts (y + 1) (omega arith));
      bounded = λ y h. omega (arith, sum_by_more (λ x. x) hs y 0 h, starts y (omega arith), starts (y + 1) (omega arith), lawful.bounded y);
      covered = subst (λ d. get_or c.boundaries_of.result (length hs) 0 ≤ 2 ^ d) (sym dense) (omega (arith, lawful.covered, starts (length hs) (omega arith), ap sum (take_all (length hs) hs (omega arith))));
      blank = c.boundaries_of.ensures.blank;
    }

pub returns : goal.returns
unfolding shape
returns c =
    let rows = c.args.row_variables in
    let hs = c.args.heights.now in
    let minimum = c.args.min_dense_variables in
    let ok = sym c.checked_dense_variables.ensures ∙ c.in_ok-dense_variables.was in
    let passed = accepted_passed rows hs minimum _ ok in
    let dense = accepted_dense rows hs minimum _ ok in
    let heights = heights_are hs c.boundaries_of.result c.boundaries_of.ensures.starts in
    record {
      answer = sym (verdict_all (checks rows hs minimum) (tt {0}) passed);
      after = same_shape _ (planned rows hs minimum) refl dense heights;
      first = passed;
      powers = powers_of_two;
      least = covering_least;
      lawful = all_lawful;
    }
