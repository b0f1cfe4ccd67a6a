-- What passes the checks of an asked layout, and what does not. Assumes nothing.
use Rattle.std.proofs.Common.{◌≡◌, ℕ, ◌+◌, ◌/◌, ◌^◌, ◌<◌, ◌≤◌, max, true, List, ◌++◌, length, get_or, take, Ok, Err, sum, ap, ◌∙◌, ⊎_elim, pow-suc, arith, pow_mono}
use lib.Count.{ones, count_trailing_zeros}
use Rattle.std.specs.List.{range_with_len, flat_map}
use Rattle.std.proofs.lemmas.List.{get_or_past}
use Rattle.std.proofs.lemmas.Bool.{not-false, ltb-false, leb-false, lt-ltb, le-ltb, lt-leb, le-leb, cond-true, cond-false, cases_lt}
use Rattle.ring.specs.Checks.{verdict, Passed}
use Rattle.layout.specs.declared.error.JaggedLayoutError.{JaggedLayoutError}
use Rattle.layout.specs.declared.error.JaggedLayoutError.TheVariants.{HeightExceedsRowBound, AreaOverflow}
use Rattle.layout.specs.Plan.{checks, count_checks, column_checks, height_checks, dense_checks, dense_for, planned}
use Rattle.layout.specs.Powers.{power_of_two, covering}
use Rattle.layout.specs.Shape.{Lawful, max_columns}
use Rattle.layout.proofs.Powers.{powers_of_two, covering_least, least_same, one-digit, ones_power}
use Rattle.ring.proofs.Verdicts.{verdict-passed, verdict_all, verdict_refused, passed_from_ok, passed_left, passed_right, passed-at, passed_more, fails-at}

-- the exponent of the least power of two that covers n
pub exponent_is : (n p k : ℕ) → 0 < n → p < 2 ^ 64 → p ≡ 2 ^ k → n ≤ p → p / 2 < n → count_trailing_zeros 64 p ≡ covering n
exponent_is n p k some fits power covers tight =
    let e = one-digit 64 p fits (ap ones power ∙ ones_power k) in
    least_same (λ e. n ≤ 2 ^ e) (count_trailing_zeros 64 p) (covering n)
    (record {
      holds = omega arith;
      none_below = λ j h q. omega (arith, tight, e, pow-suc 2 j, pow_mono h);
    })
    (covering_least n)

-- the capacity that is found for an area, and its exponent
pub dense-found : (area minimum p k : ℕ) → p < 2 ^ 64 → p ≡ 2 ^ k → max area 1 ≤ p → p / 2 < max 1 (max area 1) → (area ≤ 2 ^ 63) × (max (count_trailing_zeros 64 p) minimum ≡ dense_for area minimum)
dense-found area minimum p k fits power covers tight =
    let small : k ≤ 63 = ⊎_elim (λ h. omega arith) (λ h. absurd (omega (arith, pow_mono h))) (cases_lt k 64) in
    (omega (arith, pow_mono small), ap (λ e. max e minimum) (exponent_is (max area 1) p k (omega arith) fits power covers (omega arith)))

-- the columns before column i have passed
module _ (rows : ℕ) (heights : List ℕ) (i : ℕ) (within : i < length heights) (passed : Passed (flat_map (column_checks rows heights) (range_with_len 0 i))) where
  pub too_tall : {T : Type 0} (t : T) → 2 ^ rows < get_or heights i 0 → verdict (height_checks rows heights) t ≡ Err (HeightExceedsRowBound i (get_or heights i 0) (2 ^ rows))
  too_tall t tall =
      fails-at (column_checks rows heights) {U = ℕ} (length heights) i t 0 (HeightExceedsRowBound i (get_or heights i 0) (2 ^ rows)) within passed
      (cond-true _ _ _ (lt-ltb (2 ^ rows) (get_or heights i 0) tall))

  pub too_much : {T : Type 0} (t : T) → get_or heights i 0 ≤ 2 ^ rows → 2 ^ 64 ≤ sum (take (i + 1) heights) → verdict (height_checks rows heights) t ≡ Err (AreaOverflow i)
  too_much t low much =
      fails-at (column_checks rows heights) {U = ℕ} (length heights) i t 0 (AreaOverflow i) within passed
      (cond-false _ _ _ (le-ltb (2 ^ rows) (get_or heights i 0) low) ∙ cond-true _ _ _ (le-leb (2 ^ 64) (sum (take (i + 1) heights)) much))

  pub column-passed : get_or heights i 0 ≤ 2 ^ rows → sum (take (i + 1) heights) < 2 ^ 64 → Passed (flat_map (column_checks rows heights) (range_with_len 0 (i + 1)))
  column-passed low fits =
      passed_more (column_checks rows heights) i passed (le-ltb (2 ^ rows) (get_or heights i 0) low, (lt-leb (2 ^ 64) (sum (take (i + 1) heights)) fits, tt))

module _ (rows : ℕ) (heights : List ℕ) (minimum : ℕ) where
  -- the calls that check the parts, one after the other
  pub refused_heights : {T : Type 0} (t : T) (e : JaggedLayoutError) → verdict (count_checks rows (length heights)) (tt {0}) ≡ Ok (tt {0}) → verdict (height_checks rows heights) (sum heights) ≡ Err e → verdict (checks rows heights minimum) t ≡ Err e
  refused_heights t e counts h =
      verdict-passed (count_checks rows (length heights)) (height_checks rows heights ++ dense_checks (sum heights) minimum) t (passed_from_ok (count_checks rows (length heights)) (tt {0}) (tt {0}) counts)
      ∙ verdict_refused (height_checks rows heights) (dense_checks (sum heights) minimum) t (sum heights) e h

  pub dense-decides : (area : ℕ) → verdict (count_checks rows (length heights)) (tt {0}) ≡ Ok (tt {0}) → verdict (height_checks rows heights) (sum heights) ≡ Ok area → verdict (checks rows heights minimum) (dense_for (sum heights) minimum) ≡ verdict (dense_checks area minimum) (dense_for area minimum)
  dense-decides area counts h =
      let passed = passed_from_ok (height_checks rows heights) (sum heights) area h in
      let all = verdict_all (height_checks rows heights) (sum heights) passed in
      let same : sum heights ≡ area = cc in
      verdict-passed (count_checks rows (length heights)) (height_checks rows heights ++ dense_checks (sum heights) minimum) (dense_for (sum heights) minimum) (passed_from_ok (count_checks rows (length heights)) (tt {0}) (tt {0}) counts)
      ∙ verdict-passed (height_checks rows heights) (dense_checks (sum heights) minimum) (dense_for (sum heights) minimum) passed
      ∙ ap (λ a. verdict (dense_checks a minimum) (dense_for a minimum)) same

  module _ (passed : Passed (checks rows heights minimum)) where
    counts_passed : Passed (count_checks rows (length heights))
    counts_passed = passed_left (count_checks rows (length heights)) (height_checks rows heights ++ dense_checks (sum heights) minimum) passed

    rest_passed : Passed (height_checks rows heights ++ dense_checks (sum heights) minimum)
    rest_passed = passed_right (count_checks rows (length heights)) (height_checks rows heights ++ dense_checks (sum heights) minimum) passed

    dense-passed : Passed (dense_checks (sum heights) minimum)
    dense-passed = passed_right (height_checks rows heights) (dense_checks (sum heights) minimum) rest_passed

    pub plan_power : power_of_two (length heights) ≡ true
    plan_power = not-false (power_of_two (length heights)) counts_passed.1.0

    pub plan_area : sum heights ≤ 2 ^ 63
    plan_area = ltb-false (2 ^ 63) (sum heights) dense-passed.0

    -- what passes the checks is lawful
    pub plan_lawful : Lawful (planned rows heights minimum)
    plan_lawful =
        let power = (powers_of_two (length heights)).0 plan_power in
        record {
          power = power;
          few = ltb-false max_columns (length heights) counts_passed.1.1.0;
          rows_fit = leb-false 64 rows counts_passed.1.1.1.0;
          dense_fit = leb-false 64 (dense_for (sum heights) minimum) dense-passed.1.0;
          bounded = λ y.
              ⊎_elim
              (λ h. ltb-false (2 ^ rows) (get_or heights y 0) (passed-at (column_checks rows heights) (length heights) y h (passed_left (height_checks rows heights) (dense_checks (sum heights) minimum) rest_passed)).0)
              (λ h. omega (arith, get_or_past heights y 0 h))
              (cases_lt y (length heights));
          covered =
              let dense = dense_for (sum heights) minimum in
              let below : covering (max (sum heights) 1) ≤ dense = omega arith in
              omega (arith, (covering_least (max (sum heights) 1)).holds, pow_mono below);
        }

  module _ (dense : ℕ) (accepted : verdict (checks rows heights minimum) (dense_for (sum heights) minimum) ≡ Ok dense) where
    pub accepted_passed : Passed (checks rows heights minimum)
    accepted_passed = passed_from_ok (checks rows heights minimum) (dense_for (sum heights) minimum) dense accepted

    pub accepted_dense : dense ≡ dense_for (sum heights) minimum
    accepted_dense = let all = verdict_all (checks rows heights minimum) (dense_for (sum heights) minimum) accepted_passed in cc
