-- A buffer whose first cells are weights by the first coordinates of a point. Assumes nothing.
use Rattle.std.proofs.Common.{◌≡◌, ℕ, suc, ◌+◌, ◌-◌, ◌/◌, ◌^◌, ◌<◌, ◌≤◌, List, map, length, get_or, set, sym, ap, ◌∙◌, ap₂, div-one, add-one, arith}
use native.Mathlib.Nat.{div-eq_of_lt}
use Rattle.std.proofs.lemmas.List.{length-map, map-set, get_or-set_same}
use Rattle.ring.specs.Operations.{Operations, Laws}
use Rattle.selector.specs.Weights.{bit, factor, eq}
use Rattle.selector.specs.Prefix.{Spread}
use Rattle.selector.proofs.Fronts.{front, front_more, half_left}

module _ (K : Operations) (L : Laws K) (scale : K.Value) (point : List K.Value) where
  -- the first n cells are weights by the first k coordinates
  abbrev pub Filled : ℕ → ℕ → List K.Value → Type 0
  Filled k n cells = (m : ℕ) → m < n → get_or cells m K.nought ≡ K.times scale (front K point k m)

  pub filled_first : (count width : ℕ) (cells : List K.Value) → 0 < count → count ≤ 2 ^ width → get_or cells 0 K.nought ≡ scale → Filled 0 ((count - 1) / 2 ^ (width - 0) + 1) cells
  filled_first count width cells some fits is m less =
      let all : width - 0 ≡ width = omega arith in
      let none : (count - 1) / 2 ^ (width - 0) ≡ 0 = ap (λ e. (count - 1) / 2 ^ e) all ∙ div-eq_of_lt (omega arith) in
      let zeroth : m ≡ 0 = omega arith in
      ap (λ i. get_or cells i K.nought) zeroth ∙ is ∙ sym (ap (λ i. K.times scale (front K point 0 i)) zeroth ∙ L.times-one scale)

  pub filled_more : (count width k wanted : ℕ) (x : K.Value) (before after : List K.Value) → k < width → x ≡ get_or point k K.one → wanted ≡ (count - 1) / 2 ^ (width - 1 - k) + 1 → Spread K x 0 wanted before after → Filled k ((count - 1) / 2 ^ (width - k) + 1) before → Filled (k + 1) ((count - 1) / 2 ^ (width - (k + 1)) + 1) after
  filled_more count width k wanted x before after below is_x is-wanted spread filled m less =
      let up : width - k ≡ suc (width - 1 - k) = omega arith in
      let down : width - (k + 1) ≡ width - 1 - k = omega arith in
      let half : (count - 1) / 2 ^ (width - k) ≡ (count - 1) / 2 ^ (width - 1 - k) / 2 = ap (λ e. (count - 1) / 2 ^ e) up ∙ half_left (count - 1) (width - 1 - k) in
      let same : (count - 1) / 2 ^ (width - (k + 1)) ≡ (count - 1) / 2 ^ (width - 1 - k) = ap (λ e. (count - 1) / 2 ^ e) down in
      spread m (omega arith) (omega arith)
      ∙ ap₂ (λ c y. K.times c (factor K (bit 0 m) y)) (filled (m / 2) (omega arith)) is_x
      ∙ L.times_assoc scale (front K point k (m / 2)) (factor K (bit 0 m) (get_or point k K.one))
      ∙ ap (K.times scale) (sym (front_more K L point k m) ∙ ap (λ j. front K point j m) (sym (add-one k)))

  pub filled_all : (count width k : ℕ) (cells : List K.Value) → 0 < count → k ≡ length point → width ≡ k → Filled k ((count - 1) / 2 ^ (width - k) + 1) cells → (i : ℕ) → i < count → get_or cells i K.nought ≡ K.times scale (eq K point i)
  filled_all count width k cells some is-k is-width filled i less =
      let none : width - k ≡ 0 = omega arith in
      let whole : (count - 1) / 2 ^ (width - k) ≡ count - 1 = ap (λ e. (count - 1) / 2 ^ e) none ∙ div-one (count - 1) in
      filled i (omega arith) ∙ ap (λ j. K.times scale (front K point j i)) is-k

pub first_cell : {A : Type 0} (K : Operations) (value : A → K.Value) (cells : List A) (x : A) → 0 < length cells → get_or (map value (set cells 0 x)) 0 K.nought ≡ value x
first_cell K value cells x some = ap (λ l. get_or l 0 K.nought) (map-set value cells 0 x) ∙ get_or-set_same (map value cells) 0 (value x) K.nought (simp length-map some)
