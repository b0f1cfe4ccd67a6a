-- Numbers written one after the other, and what their bytes tell. Assumes nothing.
use Rattle.std.proofs.Common.{◌≡◌, ℕ, ◌+◌, ◌*◌, ◌^◌, ◌<◌, ◌≤◌, List, [], ◌∷◌, ◌++◌, map, length, get_or, take, drop, sym, refl, ap, ◌∙◌, arith}
use lib.Seq.{paste}
use Rattle.std.specs.List.{range_with_len, flat_map, AllByRecursion as All}
use Rattle.std.proofs.lemmas.Nat.{pow_below}
use Rattle.std.proofs.lemmas.List.FromFn.{length-map-range_with_len}
use Rattle.std.proofs.lemmas.List.{append_assoc, take_all, take_at, drop_at, drop-drop, length-append, length-take-le, flat_map_more, take_more}
use Rattle.std.proofs.lemmas.List.Sums.{sum_by-take-le}
use Rattle.ring.specs.Bytes.{eight, over}
use Rattle.ring.specs.Spellings.{same_from_eight}
use Rattle.layout.specs.Encoding.{layout_bytes, layout_length, BytesTell}
use Rattle.layout.specs.Shape.{Shape, Lawful, columns, start, boundaries}
use Rattle.layout.proofs.Shapes.{same_shape, heights_tell}

-- a write right after another
pub paste_more : (d xs ys : List ℕ) (at n k : ℕ) → length xs ≡ n → length ys ≡ k → at + n ≤ length d → paste (paste d at xs n) (at + n) ys k ≡ paste d at (xs ++ ys) (n + k)
paste_more d xs ys at n k long-xs long-ys fits =
    let front = take at d ++ take n xs in
    let whole : take n xs ≡ xs = take_all n xs (omega arith) in
    let long : length front ≡ at + n = length-append (take at d) (take n xs) ∙ omega (arith, length-take-le at d (omega arith), ap length whole) in
    let before = take_at front (drop (at + n) d) (at + n) long in
    let after : drop (at + n + k) (front ++ drop (at + n) d) ≡ drop (at + n + k) d =
    sym (drop-drop k (at + n) (front ++ drop (at + n) d)) ∙ ap (drop k) (drop_at front (drop (at + n) d) (at + n) long) ∙ drop-drop k (at + n) d in
    let both : take (n + k) (xs ++ ys) ≡ take n xs ++ take k ys =
    take_all (n + k) (xs ++ ys) (omega (arith, length-append xs ys)) ∙ ap (λ l. l ++ ys) (sym whole) ∙ ap (λ l. take n xs ++ l) (sym (take_all k ys (omega arith))) in
    let sums : at + n + k ≡ at + (n + k) = omega arith in
    ap (λ l. (l ++ take k ys) ++ drop (at + n + k) (front ++ drop (at + n) d)) before
    ∙ ap (λ l. (front ++ take k ys) ++ l) (after ∙ ap (λ m. drop m d) sums)
    ∙ ap (λ l. l ++ drop (at + (n + k)) d) (append_assoc (take at d) (take n xs) (take k ys) ∙ ap (λ l. take at d ++ l) (sym both))

-- a write at the front
pub paste_over : (d xs : List ℕ) (n : ℕ) → length xs ≡ n → paste d 0 xs n ≡ over xs d
paste_over d xs n long =
    let same : 0 + n ≡ length xs = omega arith in
    ap (λ l. l ++ drop (0 + n) d) (take_all n xs (omega arith)) ∙ ap (λ m. xs ++ drop m d) same

pub length_numbers : (ns : List ℕ) → length (flat_map eight ns) ≡ 8 * length ns
length_numbers [] = refl
length_numbers (n ∷ ns) = omega (arith, length_numbers ns)

-- one number more
pub numbers_more : (ns : List ℕ) (i : ℕ) → i < length ns → flat_map eight (take (i + 1) ns) ≡ flat_map eight (take i ns) ++ eight (get_or ns i 0)
numbers_more ns i h = ap (flat_map eight) (take_more ns i 0 h) ∙ sym (flat_map_more eight [] (take i ns) (get_or ns i 0))

numbers_tell : (ms ns : List ℕ) → All (λ x. x < 2 ^ 64) ms → All (λ x. x < 2 ^ 64) ns → flat_map eight ms ≡ flat_map eight ns → ms ≡ ns
numbers_tell [] [] p q h = refl
numbers_tell [] (n ∷ ns) p q h = absurd (omega (arith, ap length h))
numbers_tell (m ∷ ms) [] p q h = absurd (omega (arith, ap length h))
numbers_tell (m ∷ ms) (n ∷ ns) p q h =
    let first = same_from_eight m n p.0 q.0 (ap (take 8) h) in
    let rest = numbers_tell ms ns p.1 q.1 (ap (drop 8) h) in
    cc

all_map : (P : ℕ → Type 0) (f : ℕ → ℕ) (xs : List ℕ) → ((x : ℕ) → P (f x)) → All P (map f xs)
all_map P f [] h = tt
all_map P f (x ∷ xs) h = (h x, all_map P f xs h)

numbers_fit : (S : Shape) → Lawful S → All (λ x. x < 2 ^ 64) (S.rows ∷ S.dense ∷ (columns S + 1) ∷ boundaries S)
numbers_fit S lawful = (
  omega (arith, lawful.rows_fit),
  (
    omega (arith, lawful.dense_fit),
    (
      omega (arith, lawful.few),
      all_map (λ x. x < 2 ^ 64) (start S) (range_with_len 0 (columns S + 1))
          (λ y. omega (arith, sum_by-take-le (λ x. x) S.heights y, lawful.covered, pow_below S.dense 64 (omega (arith, lawful.dense_fit)))),
    ),
  ),
)

pub bytes_tell_shapes : BytesTell
unfolding layout_bytes
bytes_tell_shapes S T p q = (
  (λ h.
      let same = numbers_tell (S.rows ∷ S.dense ∷ (columns S + 1) ∷ boundaries S) (T.rows ∷ T.dense ∷ (columns T + 1) ∷ boundaries T) (numbers_fit S p) (numbers_fit T q) h in
      let count = ap (λ l. get_or l 2 0) same in
      same_shape S T (ap (λ l. get_or l 0 0) same) (ap (λ l. get_or l 1 0) same) (heights_tell S T (omega arith) (ap (drop 3) same))),
  (λ e. ap layout_bytes e),
)

pub bytes_long : (S : Shape) → length (layout_bytes S) ≡ layout_length S
unfolding layout_bytes
bytes_long S = omega (arith, length_numbers (boundaries S), length-map-range_with_len (start S) 0 (columns S + 1))

-- the three numbers at the front, and the boundaries right after them
pub written : (S : Shape) (d₀ d₁ d₂ bs : List ℕ) → 24 ≤ length d₀ → bs ≡ boundaries S → d₁ ≡ paste d₀ 0 (flat_map eight (S.rows ∷ S.dense ∷ (columns S + 1) ∷ [])) 24 → d₂ ≡ paste d₁ 24 (flat_map eight bs) (8 * length bs) → d₂ ≡ over (layout_bytes S) d₀
unfolding layout_bytes
written S d₀ d₁ d₂ bs fits same head rest =
    let three = flat_map eight (S.rows ∷ S.dense ∷ (columns S + 1) ∷ []) in
    rest
    ∙ ap (λ b. paste b 24 (flat_map eight bs) (8 * length bs)) head
    ∙ paste_more d₀ three (flat_map eight bs) 0 24 (8 * length bs) refl (length_numbers bs) (omega arith)
    ∙ paste_over d₀ (three ++ flat_map eight bs) (24 + 8 * length bs) (omega (arith, length_numbers bs))
    ∙ ap (λ l. over (three ++ flat_map eight l) d₀) same
