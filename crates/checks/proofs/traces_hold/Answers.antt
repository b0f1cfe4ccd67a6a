use Rattle.std.proofs.Common.{◌≡◌, ◌^◌, ◌≤◌, refl, arith, lit≤, pow_mono}
use lib.Count.{ones}
use Rattle.layout.proofs.Powers.{covering_least, least_same}
use Rattle.layout.specs.Encoding.{layout_bytes}
use Rattle.layout.specs.Powers.{covering}
use Rattle.checks.specs.Traces.{Traces}
use Rattle.checks.proofs.traces_hold.Goals as goal

covering-one : covering 1 ≡ 0
unfolding covering
covering-one = refl

covering_two : covering 2 ≡ 1
unfolding covering
covering_two = refl

covering_three : covering 3 ≡ 2
unfolding covering
covering_three = refl

covering_four : covering 4 ≡ 2
unfolding covering
covering_four = refl

-- a power of two is covered by its own exponent
covering_top : covering (2 ^ 63) ≡ 63
covering_top = least_same (λ e. 2 ^ 63 ≤ 2 ^ e) (covering (2 ^ 63)) 63 (covering_least (2 ^ 63)) (record { holds = lit≤ tt; none_below = λ k h le. let up = pow_mono {i = k} {j = 62} (omega arith) in omega arith })

traces : Traces
unfolding ones layout_bytes
traces = record {
  first_layout = (rw covering_three, refl, rw covering_three);
  nothing = (rw covering-one, refl);
  row_variables = (rw covering-one, refl);
  tallest = (rw covering_top, rw covering_top);
  areas = (refl, refl);
  minimum = (rw covering_three, rw covering_three);
  heights = (rw covering_two, refl);
  weights = (refl, refl, refl);
  first_selector = refl;
  first_value = refl;
  corner = refl;
  bytes = rw covering_three;
}

pub returns : goal.returns
returns c = record { traces = traces; count = refl }
