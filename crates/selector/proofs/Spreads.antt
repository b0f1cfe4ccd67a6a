-- Writing the weights of one coordinate more over those of the coordinates before it. Assumes nothing.
use Rattle.std.proofs.Common.{◌≡◌, ℕ, zero, suc, ◌+◌, ◌-◌, ◌*◌, ◌/◌, ◌%◌, ◌<◌, ◌≤◌, Bool, true, false, ltb, ◌≢◌, List, map, length, get_or, drop, set, sym, refl, ap, ◌∙◌, subst, ap₂, add-zero, arith, ltb-false, ltb-true}
use Rattle.std.proofs.lemmas.List.{length-map, map-set, get_or-set_same, get_or-set_other, get_or-map, get_or-drop, drop-drop, drop-set-lt, length-set}
use Rattle.ring.specs.Operations.{Operations, Laws}
use Rattle.ring.specs.Algebra.{plus_cancel}
use Rattle.selector.specs.Weights.{bit, factor}
use Rattle.selector.specs.Prefix.{Spread}
use Rattle.selector.proofs.Steps.{low_bit}

-- a - a x is a (1 - x)
pub minus-times : (K : Operations) (L : Laws K) (a x : K.Value) → K.minus a (K.times a x) ≡ K.times a (K.minus K.one x)
minus-times K L a x =
    plus_cancel K L _ _ (K.times a x)
    (L.minus_plus a (K.times a x) ∙ sym (sym (L.times-plus a (K.minus K.one x) x) ∙ ap (K.times a) (L.minus_plus K.one x) ∙ L.times-one a))

module _ (K : Operations) (L : Laws K) where
  -- a buffer whose cells below 2 i are as they were, and whose cells from 2 i on are spread
  pub record Half (x : K.Value) (i half : ℕ) (before now : List K.Value) : Type 0 where
    pub low : (m : ℕ) → m < 2 * i → get_or now m K.nought ≡ get_or before m K.nought
    pub high : Spread K x (2 * i) (2 * half) before now

  -- the pair of cell j, after those above it
  pub half_step : (x : K.Value) (j half : ℕ) (before now : List K.Value) (old up down : K.Value) → j < half → 2 * half ≤ length now → Half x (suc j) half before now → old ≡ get_or now j K.nought → up ≡ K.times old x → down ≡ K.minus old up → Half x j half before (set (set now (2 * j) down) (2 * j + 1) up)
  half_step x j half before now old up down below room h is-old is_up is_down = record {
    low = λ m less. let a : m ≢ 2 * j + 1 = omega arith in let b : m ≢ 2 * j = omega arith in get_or-set_other (set now (2 * j) down) (2 * j + 1) m up K.nought a ∙ get_or-set_other now (2 * j) m down K.nought b ∙ h.low m (omega arith);
    high = λ m from to. cases m from to (ltb m (2 * j + 1)) refl (ltb m (2 * j + 2)) refl;
  }
    where
      was : old ≡ get_or before j K.nought
      was = is-old ∙ h.low j (omega arith)

      cases : (m : ℕ) → 2 * j ≤ m → m < 2 * half → (b : Bool) → ltb m (2 * j + 1) ≡ b → (c : Bool) → ltb m (2 * j + 2) ≡ c → get_or (set (set now (2 * j) down) (2 * j + 1) up) m K.nought ≡ K.times (get_or before (m / 2) K.nought) (factor K (bit 0 m) x)
      cases m from to true t c u =
          let is : m ≡ 2 * j = omega (arith, ltb-true m (2 * j + 1) t) in
          let a : m ≢ 2 * j + 1 = omega arith in
          let place : m / 2 ≡ j = omega arith in
          get_or-set_other (set now (2 * j) down) (2 * j + 1) m up K.nought a
          ∙ ap (λ n. get_or (set now (2 * j) down) n K.nought) is
          ∙ get_or-set_same now (2 * j) down K.nought (omega arith)
          ∙ is_down
          ∙ ap (K.minus old) is_up
          ∙ minus-times K L old x
          ∙ ap₂ K.times (was ∙ ap (λ n. get_or before n K.nought) (sym place)) (ap (λ b. factor K b x) (sym (low_bit false j m (omega arith))))
      cases m from to false t true u =
          let is : m ≡ 2 * j + 1 = omega (arith, ltb-false m (2 * j + 1) t, ltb-true m (2 * j + 2) u) in
          let place : m / 2 ≡ j = omega arith in
          ap (λ n. get_or (set (set now (2 * j) down) (2 * j + 1) up) n K.nought) is
          ∙ get_or-set_same (set now (2 * j) down) (2 * j + 1) up K.nought (simp length-set (omega arith))
          ∙ is_up
          ∙ ap₂ K.times (was ∙ ap (λ n. get_or before n K.nought) (sym place)) (ap (λ b. factor K b x) (sym (low_bit true j m is)))
      cases m from to false t false u =
          let past = ltb-false m (2 * j + 2) u in
          let a : m ≢ 2 * j + 1 = omega arith in
          let b : m ≢ 2 * j = omega arith in
          get_or-set_other (set now (2 * j) down) (2 * j + 1) m up K.nought a
          ∙ get_or-set_other now (2 * j) m down K.nought b
          ∙ h.high m (omega arith) to

  -- the same in a buffer of elements, counting down
  pub half_back : {A : Type 0} (value : A → K.Value) (x : K.Value) (i half : ℕ) (before now : List A) (old up down : A) → 0 < i → i ≤ half → 2 * half ≤ length now → Half x i half (map value before) (map value now) → old ≡ get_or now (i - 1) old → value up ≡ K.times (value old) x → value down ≡ K.minus (value old) (value up) → Half x (i - 1) half (map value before) (map value (set (set now (2 * (i - 1)) down) (2 * (i - 1) + 1) up))
  half_back value x zero half before now old up down some below room h is-old is_up is_down = absurd (omega arith)
  half_back value x (suc j) half before now old up down some below room h is-old is_up is_down =
      let back : suc j - 1 ≡ j = omega arith in
      let told : map value (set (set now (2 * j) down) (2 * j + 1) up) ≡ set (set (map value now) (2 * j) (value down)) (2 * j + 1) (value up) = map-set value (set now (2 * j) down) (2 * j + 1) up ∙ ap (λ s. set s (2 * j + 1) (value up)) (map-set value now (2 * j) down) in
      let read : value old ≡ get_or (map value now) j K.nought = ap value (is-old ∙ ap (λ n. get_or now n old) back) ∙ sym (get_or-map value now j old K.nought (omega arith)) in
      subst (λ n. Half x n half (map value before) (map value (set (set now (2 * n) down) (2 * n + 1) up))) (sym back)
      (subst (Half x j half (map value before)) (sym told)
      (half_step x j half (map value before) (map value now) (value old) (value up) (value down) (omega arith) (simp length-map (omega arith)) h read is_up is_down))

  -- an odd number of cells: the last stands alone, and the pairs below it follow
  odd : {A : Type 0} (value : A → K.Value) (x : K.Value) (half : ℕ) (before exit : List A) (last product down : A) → 2 * half < length before → length exit ≡ length before → last ≡ get_or before half last → value product ≡ K.times (value last) x → value down ≡ K.minus (value last) (value product) → Spread K x 0 (2 * half) (map value (set before (2 * half) down)) (map value exit) → drop (2 * half) exit ≡ drop (2 * half) (set before (2 * half) down) → Spread K x 0 (2 * half + 1) (map value before) (map value exit) × (drop (2 * half + 1) exit ≡ drop (2 * half + 1) before)
  odd value x half before exit last product down room long is_last is-product is_down pairs rest =
      (λ m from to. cases m to (ltb m (2 * half)) refl, sym (drop-drop 1 (2 * half) exit) ∙ ap (drop 1) rest ∙ drop-drop 1 (2 * half) (set before (2 * half) down) ∙ drop-set-lt (2 * half + 1) before (2 * half) down (omega arith))
    where
      mid : (n : ℕ) → n < half → get_or (map value (set before (2 * half) down)) n K.nought ≡ get_or (map value before) n K.nought
      mid n less = let apart : n ≢ 2 * half = omega arith in ap (λ l. get_or l n K.nought) (map-set value before (2 * half) down) ∙ get_or-set_other (map value before) (2 * half) n (value down) K.nought apart

      top : get_or (map value exit) (2 * half) K.nought ≡ value down
      top =
          get_or-map value exit (2 * half) down K.nought (omega arith)
          ∙ ap value (ap (λ n. get_or exit n down) (sym (add-zero (2 * half))) ∙ sym (get_or-drop (2 * half) exit 0 down) ∙ ap (λ l. get_or l 0 down) rest ∙ get_or-drop (2 * half) (set before (2 * half) down) 0 down ∙ ap (λ n. get_or (set before (2 * half) down) n down) (add-zero (2 * half)) ∙ get_or-set_same before (2 * half) down down room)

      cases : (m : ℕ) → m < 2 * half + 1 → (b : Bool) → ltb m (2 * half) ≡ b → get_or (map value exit) m K.nought ≡ K.times (get_or (map value before) (m / 2) K.nought) (factor K (bit 0 m) x)
      cases m to true t =
          let less = ltb-true m (2 * half) t in
          pairs m (omega arith) less ∙ ap (λ y. K.times y (factor K (bit 0 m) x)) (mid (m / 2) (omega arith))
      cases m to false t =
          let is : m ≡ 2 * half = omega (arith, ltb-false m (2 * half) t) in
          let place : m / 2 ≡ half = omega arith in
          ap (λ n. get_or (map value exit) n K.nought) is
          ∙ top
          ∙ is_down
          ∙ ap (K.minus (value last)) is-product
          ∙ minus-times K L (value last) x
          ∙ ap₂ K.times (ap value is_last ∙ sym (get_or-map value before half last K.nought (omega arith)) ∙ ap (λ n. get_or (map value before) n K.nought) (sym place)) (ap (λ b. factor K b x) (sym (low_bit false half m (omega arith))))

  pub spread_odd : {A : Type 0} (value : A → K.Value) (x : K.Value) (wanted : ℕ) (before middle exit : List A) (last product down : A) → wanted % 2 ≡ 1 → wanted ≤ length before → length exit ≡ length before → middle ≡ set before (2 * (wanted / 2)) down → last ≡ get_or before (wanted / 2) last → value product ≡ K.times (value last) x → value down ≡ K.minus (value last) (value product) → Spread K x 0 (2 * (wanted / 2)) (map value middle) (map value exit) → drop (2 * (wanted / 2)) exit ≡ drop (2 * (wanted / 2)) middle → Spread K x 0 wanted (map value before) (map value exit) × (drop wanted exit ≡ drop wanted before)
  spread_odd value x wanted before middle exit last product down is_odd room long is-middle is_last is-product is_down pairs rest =
      let one_more : 2 * (wanted / 2) + 1 ≡ wanted = omega arith in
      subst (λ n. Spread K x 0 n (map value before) (map value exit) × (drop n exit ≡ drop n before)) one_more
      (odd value x (wanted / 2) before exit last product down (omega arith) long is_last is-product is_down (subst (λ l. Spread K x 0 (2 * (wanted / 2)) (map value l) (map value exit)) is-middle pairs) (rest ∙ ap (drop (2 * (wanted / 2))) is-middle))

  pub spread_even : {A : Type 0} (value : A → K.Value) (x : K.Value) (wanted : ℕ) (before middle exit : List A) → (wanted % 2 ≡ 1 → ⊥) → middle ≡ before → Spread K x 0 (2 * (wanted / 2)) (map value middle) (map value exit) → drop (2 * (wanted / 2)) exit ≡ drop (2 * (wanted / 2)) middle → Spread K x 0 wanted (map value before) (map value exit) × (drop wanted exit ≡ drop wanted before)
  spread_even value x wanted before middle exit is-even is-middle pairs rest =
      let whole : 2 * (wanted / 2) ≡ wanted = omega arith in
      subst (λ n. Spread K x 0 n (map value before) (map value exit) × (drop n exit ≡ drop n before)) whole
      (subst (λ l. Spread K x 0 (2 * (wanted / 2)) (map value l) (map value exit)) is-middle pairs, rest ∙ ap (drop (2 * (wanted / 2))) is-middle)
