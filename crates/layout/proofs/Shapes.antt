-- The shape of a layout, read off its boundaries. Assumes nothing.
use Rattle.std.proofs.Common.{◌≡◌, ℕ, zero, suc, ◌+◌, ◌-◌, ◌^◌, ◌<◌, ◌≤◌, Bool, List, map, length, get_or, take, replicate, Decides, drop, nat_eq, sum, sym, refl, ap, ◌∙◌, subst, ⊎_elim, add-one, arith}
use lib.Count.{ones, count_trailing_zeros}
use Rattle.std.specs.List.{range_with_len}
use Rattle.std.proofs.lemmas.List.FromFn.{length-map-range_with_len, get_or-map-range_with_len, fill_by_all}
use Rattle.std.proofs.lemmas.List.{ext_get_or, take_all, get_or_past, length-take-le, get_or-take}
use Rattle.std.proofs.lemmas.List.Sums.{sum_by_more}
use Rattle.std.proofs.lemmas.Bool.{eqb-true, cases_lt}
use Rattle.layout.specs.declared.geometry.JaggedLayout.{JaggedLayout}
use Rattle.std.specs.Cmp.{unsigned_Decides}
use Rattle.std.specs.Cmp.Lexicographic.{pointwise, pointwise_decides}
use Rattle.layout.specs.Equality.{numbers}
use Rattle.layout.specs.Layout.{shape, AllLawful}
use Rattle.layout.specs.Shape.{Shape, columns, height, start, area, boundaries}
use Rattle.layout.proofs.Powers.{one-digit, powers_of_two}

-- the heights between boundaries
abbrev pub between : List ℕ → ℕ → ℕ
between bs y = get_or bs (y + 1) 0 - get_or bs y 0

pub same_shape : (S T : Shape) → S.rows ≡ T.rows → S.dense ≡ T.dense → S.heights ≡ T.heights → S ≡ T
same_shape S T rows dense heights i = record { rows = rows i; dense = dense i; heights = heights i }

pub start_more : (S : Shape) (y : ℕ) → y < columns S → start S (y + 1) ≡ start S y + height S y
start_more S y h = sum_by_more (λ x. x) S.heights y 0 h

pub area-start : (S : Shape) → start S (columns S) ≡ area S
area-start S = ap sum (take_all (columns S) S.heights (omega arith))

pub boundary_is : (S : Shape) (y : ℕ) → y ≤ columns S → get_or (boundaries S) y 0 ≡ start S y
boundary_is S y h = get_or-map-range_with_len (start S) 0 (columns S + 1) y y 0 (omega arith) (omega arith)

-- the heights follow from the boundaries
pub heights_tell : (S T : Shape) → columns S ≡ columns T → boundaries S ≡ boundaries T → S.heights ≡ T.heights
heights_tell S T count same =
    ext_get_or 0 S.heights T.heights count
    (λ y h.
    let at : (z : ℕ) → z ≤ columns S → start S z ≡ start T z =
    λ z l. sym (boundary_is S z l) ∙ ap (λ b. get_or b z 0) same ∙ boundary_is T z (omega arith) in
    omega (arith, start_more S y h, start_more T y (omega arith), at y (omega arith), at (y + 1) (omega arith)))

-- shapes with the same variables are equal where their boundaries are
pub shapes_decided : (S T : Shape) (r : Bool) → S.rows ≡ T.rows → S.dense ≡ T.dense → Decides r (boundaries S ≡ boundaries T) → Decides r (S ≡ T)
shapes_decided S T r rows dense told = (
  (λ t.
      let same = told.0 t in
      let long : (U : Shape) → length (boundaries U) ≡ columns U + 1 = λ U. length-map-range_with_len (start U) 0 (columns U + 1) in
      same_shape S T rows dense (heights_tell S T (omega (arith, long S, long T, ap length same)) same)),
  (λ e. told.1 (ap boundaries e)),
)

-- the numbers of two shapes are the same where the shapes are
pub numbers_decide : (S T : Shape) → Decides (pointwise nat_eq (numbers S) (numbers T)) (S ≡ T)
numbers_decide S T =
    let told = pointwise_decides unsigned_Decides (numbers S) (numbers T) in (
      (λ t.
          let same = told.0 t in
          same_shape S T (ap (λ l. get_or l 0 0) same) (ap (λ l. get_or l 1 0) same) (ap (drop 2) same)),
      (λ e. told.1 (ap numbers e)),
    )

module _ (l : JaggedLayout) where
  pub columns_are : columns (shape l) ≡ l.columns
  unfolding shape
  columns_are = length-map-range_with_len (between l.boundaries) 0 l.columns

  pub columns-power : 2 ^ count_trailing_zeros 64 (columns (shape l)) ≡ columns (shape l)
  columns-power =
      subst (λ n. 2 ^ count_trailing_zeros 64 n ≡ n) (sym columns_are)
      (one-digit 64 l.columns (omega (arith, l.few)) (eqb-true (ones l.columns) 1 l.power))

  pub height_is : (y : ℕ) → y < l.columns → height (shape l) y ≡ between l.boundaries y
  unfolding shape
  height_is y h = get_or-map-range_with_len (between l.boundaries) 0 l.columns y y 0 h (omega arith)

  pub start_is : (y : ℕ) → y ≤ l.columns → start (shape l) y ≡ get_or l.boundaries y 0
  start_is zero h = sym l.origin
  start_is (suc y) h =
      let below = start_is y (omega arith) in
      let more = start_more (shape l) y (omega (arith, columns_are)) in
      let gap = height_is y (omega arith) in
      let up = l.ascends y (omega arith) in
      subst (λ z. start (shape l) z ≡ get_or l.boundaries z 0) (add-one y) (omega arith)

  pub area_is : area (shape l) ≡ get_or l.boundaries l.columns 0
  area_is = sym (area-start (shape l)) ∙ ap (start (shape l)) columns_are ∙ start_is l.columns (omega arith)

  pub boundaries_are : take (l.columns + 1) l.boundaries ≡ boundaries (shape l)
  boundaries_are =
      fill_by_all (start (shape l)) (take (l.columns + 1) l.boundaries) (columns (shape l) + 1) 0
      (length-take-le (l.columns + 1) l.boundaries (omega (arith, l.few, l.long)) ∙ ap (λ n. n + 1) (sym columns_are))
      (λ k h. get_or-take (l.columns + 1) l.boundaries k 0 (omega (arith, columns_are)) ∙ sym (start_is k (omega (arith, columns_are))))

pub all_lawful : AllLawful
unfolding shape
all_lawful l =
    let power = (powers_of_two l.columns).0 l.power in
    record {
      power = (power.0, columns_are l ∙ power.1);
      few = omega (arith, columns_are l, l.few);
      rows_fit = l.rows;
      dense_fit = l.dense;
      bounded = λ y.
          ⊎_elim
          (λ h. omega (arith, height_is l y h, l.bounded y h))
          (λ h. omega (arith, get_or_past (shape l).heights y 0 (omega (arith, columns_are l))))
          (cases_lt y l.columns);
      covered = omega (arith, area_is l, l.covered);
    }

-- what a layout tells of its shape
pub ruleset read_off = (columns_are, columns-power, height_is, area_is)

-- the columns of heights whose boundaries these are
pub heights_are : (hs bs : List ℕ) → ((y : ℕ) → y ≤ length hs → get_or bs y 0 ≡ sum (take y hs)) → map (between bs) (range_with_len 0 (length hs)) ≡ hs
heights_are hs bs starts =
    sym (fill_by_all (between bs) hs (length hs) 0 refl
    (λ k h. omega (arith, sum_by_more (λ x. x) hs k 0 h, starts k (omega arith), starts (k + 1) (omega arith))))

pub zeros : (n y : ℕ) → ◌≡◌ {A = ℕ} (get_or (replicate n 0) y 0) 0
zeros zero y = refl
zeros (suc n) zero = refl
zeros (suc n) (suc y) = zeros n y
