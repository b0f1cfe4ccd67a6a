-- Cells of a buffer after a part of it was written, and the places of columns. Assumes nothing.
use Rattle.std.proofs.Common.{rules, ◌++◌, ◌≡◌, ℕ, zero, suc, ◌+◌, ◌-◌, ◌^◌, ◌<◌, ◌≤◌, Bool, true, false, ltb, List, map, length, get_or, take, drop, sym, refl, ap, ◌∙◌, subst, add-zero, add-suc, add-one, zero-add, length-drop, drop-drop, arith, ltb-false, ltb-true}
use borrow.Rule.Slice.PartMut.{put_mid}
use Rattle.std.proofs.lemmas.List.FromFn.{length-map-range_with_len, get_or-map-range_with_len, length-enumerate_from, get_or-enumerate_from}
use Rattle.std.proofs.lemmas.Slice.Zip.{length-zip, get_or-zip}
use Rattle.std.proofs.lemmas.Iterator.{YieldsList, YieldsList-from_slice, YieldsList-from_zip, zips}
use Rattle.std.proofs.lemmas.Iterator.Consumers.{YieldsList-at, YieldsList-from_enumerate}
use Rattle.std.proofs.iter.Yields.{fronts}
use Rattle.std.specs.declared.iter.Enumerate.{Enumerate}
use Rattle.std.specs.declared.iter.Zip.{Zip}
use Rattle.std.specs.declared.slice.Iter.{Iter}
use Rattle.std.specs.Iterator.Adapters.{enumerate_source, enumerate_count, enumerate_steps, zip_first, zip_second}
use Rattle.std.specs.Slice.Iter.{iter_rest}
use Rattle.std.specs.List.{enumerate_from, zip}
use Rattle.std.proofs.lemmas.List.{get_or_append_left, map-append, take-map, drop-map, length-map, get_or-drop, take_all, places}
use Rattle.ring.specs.Operations.{Operations}
use Rattle.layout.specs.Shape.{Shape, Lawful, columns, height, start, area, capacity, boundaries}
use Rattle.layout.proofs.Shapes.{start_more, area-start}
use Rattle.selector.specs.Selector.{Columns, Table}
use Rattle.selector.specs.Weights.{eq}

-- what is the same from a place on is the same from each later one
pub drop_more : {A : Type 0} (m n : ℕ) (xs ys : List A) → m ≤ n → drop m xs ≡ drop m ys → drop n xs ≡ drop n ys
drop_more m n xs ys later same =
    let split : m + (n - m) ≡ n = omega arith in
    subst (λ k. drop k xs ≡ drop k ys) split (sym (drop-drop (n - m) m xs) ∙ ap (drop (n - m)) same ∙ drop-drop (n - m) m ys)

map_put_mid : {A B : Type 0} (f : A → B) (a k : ℕ) (xs ys : List A) → map f (put_mid a k xs ys) ≡ put_mid a k (map f xs) (map f ys)
map_put_mid f a k xs ys = simp (map-append, take-map, drop-map)

-- the cells of a buffer after a part of it was written, through the values that they stand for
module _ {A B : Type 0} (f : A → B) (a k : ℕ) (xs ys : List A) (inside : a ≤ length xs) where
  pub map_below : (i : ℕ) (d : B) → i < a → get_or (map f (put_mid a k xs ys)) i d ≡ get_or (map f xs) i d
  map_below i d h = rw (map_put_mid f a k xs ys) (let long = length-map xs f in search (rules, places))

  pub map_in : (m i : ℕ) (d : B) → i ≡ a + m → m < length ys → get_or (map f (put_mid a k xs ys)) i d ≡ get_or (map f ys) m d
  map_in m i d is h =
      ap (λ n. get_or (map f (put_mid a k xs ys)) n d) is ∙ rw (map_put_mid f a k xs ys) (let long = length-map xs f in let written = length-map ys f in search (rules, places))

-- each boundary with the next one, counted
abbrev pub intervals : List ℕ → List (ℕ × (ℕ × ℕ))
intervals bs = enumerate_from 0 (zip bs (drop 1 bs))

-- what goes over the boundaries with the next ones beside them, counting
pub yields_intervals : {s t : Enumerate (Zip (Iter ℕ) (Iter ℕ))} {z : Zip (Iter ℕ) (Iter ℕ)} {i : Iter ℕ} (bs : List ℕ) → s ≡ t → enumerate_source t ≡ z → enumerate_count t ≡ 0 → zip_first z ≡ i → iter_rest i ≡ bs → iter_rest (zip_second z) ≡ take (length bs - 1) (drop 1 bs) → YieldsList (enumerate_steps (zips fronts fronts)) (λ p. (p.0, (p.1.0.now, p.1.1.now))) s (intervals bs)
yields_intervals bs same source count first all rest =
    YieldsList-at same (YieldsList-from_enumerate (YieldsList-at source (YieldsList-from_zip (YieldsList-at first (YieldsList-from_slice bs all)) (YieldsList-from_slice (drop 1 bs) (rest ∙ take_all (length bs - 1) (drop 1 bs) (omega (arith, length-drop 1 bs)))))) count)

module _ (S : Shape) where
  -- a column starts where the one before it ends
  pub start_next : (y : ℕ) → y < columns S → start S (suc y) ≡ start S y + height S y
  start_next y h = ap (start S) (sym (add-one y)) ∙ start_more S y h

  start_up : (k y : ℕ) → y + k ≤ columns S → start S y ≤ start S (y + k)
  start_up zero y h = let e = ap (start S) (add-zero y) in omega arith
  start_up (suc k) y h = let e = ap (start S) (add-suc y k) in let next = start_next (y + k) (omega arith) in let below = start_up k y (omega arith) in omega arith

  -- columns do not overlap
  pub start_mono : (x y : ℕ) → x ≤ y → y ≤ columns S → start S x ≤ start S y
  start_mono x y h inside = let e : x + (y - x) ≡ y = omega arith in subst (λ n. start S x ≤ start S n) e (start_up (y - x) x (omega arith))

  pub length-boundaries : length (boundaries S) ≡ columns S + 1
  length-boundaries = length-map-range_with_len (start S) 0 (columns S + 1)

  -- what the boundaries tell of a column
  pub record Column (y s e : ℕ) : Type 0 where
    pub inside : y < columns S
    pub from : s ≡ start S y
    pub to : e ≡ start S (y + 1)
    pub gap : e - s ≡ height S y
    pub ordered : s ≤ e
    pub within : e ≤ capacity S
    pub tall : e - s ≤ 2 ^ S.rows

  pub length-intervals : (bs : List ℕ) → bs ≡ boundaries S → length (intervals bs) ≡ columns S
  length-intervals bs is = omega (arith, length-enumerate_from 0 (zip bs (drop 1 bs)), length-zip bs (drop 1 bs), length-drop 1 bs, ap length is, length-boundaries)

  -- the interval of a turn
  pub column_of : (n : ℕ) (p : ℕ × (ℕ × ℕ)) (bs : List ℕ) → Lawful S → bs ≡ boundaries S → (n < length (intervals bs)) × (p ≡ get_or (intervals bs) n p) → (p.0 ≡ n) × Column p.0 p.1.0 p.1.1
  column_of n p bs lawful is turn = (place, record { inside = omega (arith, inside, place); from = from; to = to; gap = omega (arith, from, to, next); ordered = omega (arith, from, to, next); within = omega (arith, to, last, lawful.covered); tall = omega (arith, from, to, next, lawful.bounded p.0) })
    where
      inside : n < columns S
      inside = omega (arith, turn.0, length-intervals bs is)

      long : length bs ≡ columns S + 1
      long = ap length is ∙ length-boundaries

      counted : p ≡ (0 + n, get_or (zip bs (drop 1 bs)) n p.1)
      counted = turn.1 ∙ get_or-enumerate_from 0 (zip bs (drop 1 bs)) n p (omega (arith, turn.0, length-enumerate_from 0 (zip bs (drop 1 bs))))

      paired : get_or (zip bs (drop 1 bs)) n p.1 ≡ (get_or bs n p.1.0, get_or (drop 1 bs) n p.1.1)
      paired = get_or-zip bs (drop 1 bs) n p.1 (omega (arith, inside, long)) (omega (arith, inside, long, length-drop 1 bs))

      place : p.0 ≡ n
      place = ap {B = ℕ} (λ q. q.0) counted ∙ zero-add n

      -- a boundary, whatever stands past the last one
      boundary : (x d : ℕ) → x ≤ columns S → get_or bs x d ≡ start S x
      boundary x d h = ap (λ l. get_or l x d) is ∙ get_or-map-range_with_len (start S) 0 (columns S + 1) x x d (omega arith) (omega arith)

      from : p.1.0 ≡ start S p.0
      from = ap {B = ℕ} (λ q. q.1.0) counted ∙ ap {B = ℕ} (λ q. q.0) paired ∙ boundary n p.1.0 (omega (arith, inside)) ∙ ap (start S) (sym place)

      to : p.1.1 ≡ start S (p.0 + 1)
      to =
          let up : 1 + n ≡ p.0 + 1 = omega (arith, place) in
          ap {B = ℕ} (λ q. q.1.1) counted ∙ ap {B = ℕ} (λ q. q.1) paired ∙ get_or-drop 1 bs n p.1.1 ∙ boundary (1 + n) p.1.1 (omega (arith, inside)) ∙ ap (start S) up

      next : start S (p.0 + 1) ≡ start S p.0 + height S p.0
      next = start_more S p.0 (omega (arith, inside, place))

      last : start S (p.0 + 1) ≤ area S
      last = omega (arith, start_mono (p.0 + 1) (columns S) (omega (arith, inside, place)) (omega arith), area-start S)

module _ (K : Operations) (S : Shape) (row column : List K.Value) where
  -- one column more
  pub columns_more : (y s e : ℕ) (before after : List K.Value) (weight : K.Value) → Column S y s e → weight ≡ eq K column y → Columns K S y row column before → ((i : ℕ) → i < s → get_or after i K.nought ≡ get_or before i K.nought) → ((i : ℕ) → i < e - s → get_or after (s + i) K.nought ≡ K.times (eq K row i) weight) → Columns K S (y + 1) row column after
  columns_more y s e before after weight col is-weight done low cells z r below short = go (ltb z y) refl
    where
      go : (b : Bool) → ltb z y ≡ b → get_or after (start S z + r) K.nought ≡ K.times (eq K row r) (eq K column z)
      go true t =
          let less = ltb-true z y t in
          let next = start_more S z (omega (arith, col.inside)) in
          let up = start_mono S (z + 1) y (omega arith) (omega (arith, col.inside)) in
          low (start S z + r) (omega (arith, col.from)) ∙ done z r less short
      go false t =
          let same : z ≡ y = omega (arith, ltb-false z y t) in
          let place : start S z + r ≡ s + r = omega (arith, ap (start S) same, col.from) in
          ap (λ i. get_or after i K.nought) place ∙ cells r (omega (arith, col.gap, ap (height S) same)) ∙ ap (K.times (eq K row r)) (is-weight ∙ ap (eq K column) (sym same))

  -- the table stays where other cells follow
  pub table_front : (cells rest : List K.Value) → Lawful S → length cells ≡ capacity S → Table K S row column cells → Table K S row column (cells ++ rest)
  table_front cells rest lawful long table = record {
    live = λ y r inside short.
        let next = start_more S y inside in
        let last = start_mono S (y + 1) (columns S) (omega arith) (omega arith) in
        get_or_append_left cells rest K.nought (start S y + r) (omega (arith, area-start S, lawful.covered)) ∙ table.live y r inside short;
    padding = λ i from to. get_or_append_left cells rest K.nought i (omega arith) ∙ table.padding i from to;
  }
