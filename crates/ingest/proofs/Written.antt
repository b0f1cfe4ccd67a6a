-- Rows written one by one, and leaves one after the other. Assumes nothing.
use Rattle.std.proofs.Common.{◌≡◌, ℕ, ◌+◌, ◌-◌, ◌*◌, ◌<◌, ◌≤◌, List, [], ◌++◌, map, length, get_or, take, drop, set, sym, ap, ◌∙◌, subst, ⊎_elim, arith}
use Rattle.std.proofs.lemmas.Nat.{mul-le}
use borrow.Rule.Slice.PartMut.{put_mid}
use Rattle.std.specs.List.{range_with_len, flat_map}
use Rattle.ring.specs.Bytes.{over}
use Rattle.std.proofs.lemmas.List.FromFn.{fill_by_all, length-map-range_with_len}
use Rattle.std.proofs.lemmas.Grind.{flat_map-append}
use Rattle.std.proofs.lemmas.List.{append_assoc, drop_at, drop-drop, drop-map, get_or-drop, get_or-set_same, get_or-set_other, get_or-take, flat_map_more, length-append, length-drop, length-map, length-take-le, map-append, map-set, take-append-drop, take_at, take-map, take_more}
use Rattle.ring.specs.Operations.{Operations}
use Rattle.ingest.specs.declared.record.Record.{Record}
use Rattle.ingest.specs.Order.{record_at}
use Rattle.ingest.specs.Rows.{leaf_row, leaf_rows, found_rows}
use Rattle.ingest.specs.Table.{leaf_height}
use Rattle.std.proofs.lemmas.Bool.{cases_eq}

-- one row more
pub row_more : {A B : Type 0} (f : A → B) (F : ℕ → B) (d : B) (xs : List A) (i : ℕ) (x : A) → i < length xs → f x ≡ F i → ((k : ℕ) → k < i → get_or (map f xs) k d ≡ F k) → (k : ℕ) → k < i + 1 → get_or (map f (set xs i x)) k d ≡ F k
row_more f F d xs i x within here before k h =
    ap (λ l. get_or l k d) (map-set f xs i x)
    ∙ ⊎_elim
    (λ same. subst (λ n. get_or (set (map f xs) i (f x)) n d ≡ F n) (sym same) (get_or-set_same (map f xs) i (f x) d (omega (arith, length-map xs f)) ∙ here))
    (λ other. get_or-set_other (map f xs) i k (f x) d other ∙ before k (omega arith))
    (cases_eq k i)

-- a row before the last lies no further than the last
pub row_le : (row rows stride : ℕ) → row < rows → row * stride ≤ (rows - 1) * stride
row_le row rows stride h = mul-le row stride (rows - 1) stride (omega arith) (omega arith)

-- a run of cells is its rows one by one
pub dense_rows : {A B : Type 0} (f : A → B) (d : B) (cells out : List A) (place height : ℕ) → place + height ≤ length cells → out ≡ take height (drop place cells) → map f out ≡ map (λ r. get_or (map f cells) (place + r) d) (range_with_len 0 height)
dense_rows f d cells out place height within e =
    let part = take height (drop place (map f cells)) in
    let long : length part ≡ height = length-take-le height (drop place (map f cells)) (omega (arith, length-drop place (map f cells), length-map cells f)) in
    ap (map f) e ∙ sym (take-map f height (drop place cells)) ∙ ap (take height) (sym (drop-map f place cells))
    ∙ fill_by_all (λ r. get_or (map f cells) (place + r) d) part height d long
    (λ k h. get_or-take height (drop place (map f cells)) k d h ∙ get_or-drop place (map f cells) k d)

-- rows that are known one by one
pub rows_from : {A B : Type 0} (f : A → B) (F : ℕ → B) (d : B) (out : List A) (height : ℕ) → length out ≡ height → ((k : ℕ) → k < height → get_or (map f out) k d ≡ F k) → map f out ≡ map F (range_with_len 0 height)
rows_from f F d out height long each = fill_by_all F (map f out) height d (length-map out f ∙ long) each

-- the rows of one more leaf, after those of the leaves before it
pub leaf_more : {A B : Type 0} (f : A → B) (xs ys : List A) (before here old : List B) (at k : ℕ) → map f xs ≡ over before old → map f ys ≡ here → at ≡ length before → k ≡ length here → map f (put_mid at k xs ys) ≡ over (before ++ here) old
leaf_more f xs ys before here old at k was wrote e1 e2 =
    map-append f (take at xs) (ys ++ drop k (drop at xs))
    ∙ ap (λ l. map f (take at xs) ++ l) (map-append f ys (drop k (drop at xs)))
    ∙ ap (λ l. l ++ (map f ys ++ map f (drop k (drop at xs)))) (sym (take-map f at xs) ∙ ap (take at) was ∙ take_at before (drop (length before) old) at (sym e1))
    ∙ ap (λ l. before ++ (l ++ map f (drop k (drop at xs)))) wrote
    ∙ ap (λ l. before ++ (here ++ l)) (sym (drop-map f k (drop at xs)) ∙ ap (drop k) (sym (drop-map f at xs) ∙ ap (drop at) was ∙ drop_at before (drop (length before) old) at (sym e1)) ∙ drop-drop k (length before) old ∙ ap (λ n. drop (length before + n) old) e2)
    ∙ sym (append_assoc before here (drop (length before + length here) old))
    ∙ ap (λ n. (before ++ here) ++ drop n old) (sym (length-append before here))

-- the leaves up to one of them and that one, and what is left after it
flat_map-take : {A B : Type 0} (g : A → List B) (xs : List A) (k : ℕ) (d : A) → k < length xs → flat_map g (take (k + 1) xs) ≡ flat_map g (take k xs) ++ g (get_or xs k d)
flat_map-take g xs k d h = ap (flat_map g) (take_more xs k d h) ∙ sym (flat_map_more g [] (take k xs) (get_or xs k d))

flat_map_le : {A B : Type 0} (g : A → List B) (xs : List A) (k : ℕ) → length (flat_map g (take k xs)) ≤ length (flat_map g xs)
flat_map_le g xs k = omega (arith, ap length (ap (flat_map g) (sym (take-append-drop k xs)) ∙ flat_map-append g (take k xs) (drop k xs)), length-append (flat_map g (take k xs)) (flat_map g (drop k xs)))

module _ (K : Operations) (cells : List K.Value) (words : List ℕ) (t : List Record) where
  pub leaf_rows_long : (r : Record) → length (leaf_rows K cells words r) ≡ leaf_height r
  leaf_rows_long r = length-map-range_with_len (leaf_row K cells words r) 0 (leaf_height r)

  -- leaf k of those that were found
  module _ (numbers : List ℕ) (k : ℕ) (h : k < length numbers) where
    pub found_more : found_rows K cells words t (take (k + 1) numbers) ≡ found_rows K cells words t (take k numbers) ++ leaf_rows K cells words (record_at t (get_or numbers k 0))
    found_more = flat_map-take (λ m. leaf_rows K cells words (record_at t m)) numbers k 0 h

    -- where there is room for all leaves, its rows end within it
    pub leaf_ends : (at rows room : ℕ) → at ≡ length (found_rows K cells words t (take k numbers)) → rows ≡ leaf_height (record_at t (get_or numbers k 0)) → length (found_rows K cells words t numbers) ≤ room → at + rows ≤ room
    leaf_ends at rows room start tall fits =
        omega (arith, ap length found_more, length-append (found_rows K cells words t (take k numbers)) (leaf_rows K cells words (record_at t (get_or numbers k 0))), leaf_rows_long (record_at t (get_or numbers k 0)), flat_map_le (λ m. leaf_rows K cells words (record_at t m)) numbers (k + 1))
