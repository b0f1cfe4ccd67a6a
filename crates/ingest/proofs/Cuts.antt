-- Leaves cut and nested in other ways, with the same rows. Assumes nothing.
use Rattle.std.proofs.Common.{◌≡◌, ℕ, ◌+◌, ◌-◌, ◌*◌, ◌/◌, ◌%◌, ◌^◌, ◌<◌, ◌≤◌, cond, eqb, List, [], ◌∷◌, ◌++◌, map, length, get_or, take, replicate, sym, refl, ap, ◌∙◌, ⊎_elim, add-mul, arith}
use Rattle.std.proofs.lemmas.List.FromFn.{fill_by_all, get_or-map-range_with_len, length-map-range_with_len}
use Rattle.std.proofs.lemmas.Grind.{flat_map-append}
use Rattle.std.proofs.lemmas.List.Folds.{flat_map-map}
use Rattle.std.proofs.lemmas.List.{append_assoc, ext_get_or, get_or_append_left, get_or-append_right, get_or-take, length-append, length-take-le}
use Rattle.std.proofs.lemmas.Bool.{cases_lt}
use Rattle.std.specs.List.{range_with_len, flat_map}
use Rattle.ring.specs.Bytes.{over}
use Rattle.ring.specs.Operations.{Operations}
use Rattle.layout.specs.Shape.{Shape, columns, area, capacity}
use Rattle.ingest.specs.declared.record.Record.{Record}
use Rattle.ingest.specs.declared.record.Record.TheVariants.{Bits}
use Rattle.ingest.specs.Cuts.{leaf_records, Cut, cut_dense, cut_interleaved, cut_bits, Recut, recut_none, recut_one, recut_joined, recut_again, CutsKeepRows, RowLaws, PieceByRows, ColumnsByRows, PieceByCuts, ColumnsByCuts}
use Rattle.ingest.specs.Order.{record_at}
use Rattle.ingest.specs.Reading.{assembled}
use Rattle.ingest.specs.Rows.{leaf_row, leaf_rows, rows_of, rows_at}
use Rattle.ingest.specs.Table.{Sound, flat, leaves_at}
use Rattle.ingest.proofs.Parts.{leaves_by_parts, rows_by_parts}
use Rattle.ingest.proofs.Placed.{rows_at_leaves, rows_long}

-- what is counted up to a, and then up to b
counted_apart : {X : Type 0} (F G H : ℕ → X) (a b : ℕ) (d : X) → ((r : ℕ) → G r ≡ F r) → ((r : ℕ) → H r ≡ F (a + r)) → map F (range_with_len 0 (a + b)) ≡ map G (range_with_len 0 a) ++ map H (range_with_len 0 b)
counted_apart F G H a b d front back =
    let xs = map G (range_with_len 0 a) in
    let ys = map H (range_with_len 0 b) in
    let long-1 = length-map-range_with_len G 0 a in
    let long-2 = length-map-range_with_len H 0 b in
    sym (fill_by_all F (xs ++ ys) (a + b) d (omega (arith, length-append xs ys))
    (λ k h. ⊎_elim
    (λ low. get_or_append_left xs ys d k (omega arith) ∙ get_or-map-range_with_len G 0 a k k d low (omega arith) ∙ front k)
    (λ high. let e : a + (k - a) ≡ k = omega arith in get_or-append_right xs ys a k d long-1 high ∙ get_or-map-range_with_len H 0 b (k - a) (k - a) d (omega arith) (omega arith) ∙ back (k - a) ∙ ap F e)
    (cases_lt k a)))

module _ (K : Operations) (cells : List K.Value) (words : List ℕ) where
  abbrev rows : Record → List K.Value
  rows r = leaf_rows K cells words r

  -- a cut keeps the rows
  cut_rows : (whole front back : Record) → Cut whole front back → rows whole ≡ rows front ++ rows back
  cut_rows _ _ _ (cut_dense place a b) =
      counted_apart (λ r. get_or cells (place + r) K.nought) (λ r. get_or cells (place + r) K.nought) (λ r. get_or cells ((place + a) + r) K.nought) a b K.nought
      (λ r. refl)
      (λ r. let e : (place + a) + r ≡ place + (a + r) = omega arith in ap (λ n. get_or cells n K.nought) e)
  cut_rows _ _ _ (cut_interleaved place len len-1 len-2 first stride a b) =
      counted_apart (λ r. get_or cells (place + (first + r * stride)) K.nought) (λ r. get_or cells (place + (first + r * stride)) K.nought) (λ r. get_or cells (place + ((first + a * stride) + r * stride)) K.nought) a b K.nought
      (λ r. refl)
      (λ r. let e : place + ((first + a * stride) + r * stride) ≡ place + (first + (a + r) * stride) = omega (arith, add-mul a r stride) in ap (λ n. get_or cells n K.nought) e)
  cut_rows _ _ _ (cut_bits place count count-1 count-2 w b) =
      counted_apart (λ r. leaf_row K cells words (Bits place count (w * 64 + b)) r) (λ r. leaf_row K cells words (Bits place count-1 (w * 64)) r) (λ r. leaf_row K cells words (Bits (place + w) count-2 b) r) (w * 64) b K.nought
      (λ r. refl)
      (λ r.
      let q : (place + w) + r / 64 ≡ place + (w * 64 + r) / 64 = omega arith in
      let m : r % 64 ≡ (w * 64 + r) % 64 = omega arith in
      ap (λ n. cond (eqb (get_or words n 0 / 2 ^ (r % 64) % 2) 1) K.one K.nought) q
      ∙ ap (λ n. cond (eqb (get_or words (place + (w * 64 + r) / 64) 0 / 2 ^ n % 2) 1) K.one K.nought) m)

  recut_rows : (xs ys : List Record) → Recut xs ys → flat_map rows xs ≡ flat_map rows ys
  recut_rows _ _ (recut_none leaves) = refl
  recut_rows _ _ (recut_one before after whole front back c) =
      flat_map-append rows before (whole ∷ after)
      ∙ ap (λ l. flat_map rows before ++ (l ++ flat_map rows after)) (cut_rows whole front back c)
      ∙ ap (λ l. flat_map rows before ++ l) (append_assoc (rows front) (rows back) (flat_map rows after))
      ∙ sym (flat_map-append rows before (front ∷ back ∷ after))
  recut_rows _ _ (recut_joined xs ys r) = sym (recut_rows xs ys r)
  recut_rows _ _ (recut_again xs ys zs r s) = recut_rows xs ys r ∙ recut_rows ys zs s

  -- the rows of a record are those of its leaves
  by_leaf_records : (t : List Record) (i : ℕ) → rows_at K cells words t i ≡ flat_map rows (leaf_records t i)
  by_leaf_records t i = rows_at_leaves K cells words t i ∙ sym (flat_map-map rows (record_at t) (leaves_at t i))

  cuts_keep_rows : (t : List Record) → CutsKeepRows K cells words t
  cuts_keep_rows t other i j r = by_leaf_records other j ∙ sym (recut_rows (leaf_records t i) (leaf_records other j) r) ∙ sym (by_leaf_records t i)

  pub row_laws : (t : List Record) → Sound t → RowLaws K cells words t
  row_laws t sound = record { parts = rows_by_parts t sound K cells words; leaves = leaves_by_parts t sound; cuts = cuts_keep_rows t }

  module _ (t : List Record) (old out : List K.Value) where
    pub piece_by_rows : out ≡ over (rows_at K cells words t 0) old → PieceByRows K cells words t old out
    piece_by_rows wrote cells-2 words-2 table-2 same = ap (λ l. over l old) same ∙ sym wrote

    pub piece_by_cuts : PieceByRows K cells words t old out → PieceByCuts K cells words t old out
    piece_by_cuts by_rows other r = by_rows cells words other (cuts_keep_rows t other 0 0 r)

    pub columns_by_cuts : (S : Shape) → ColumnsByRows K S cells words t old out → ColumnsByCuts K S cells words t old out
    columns_by_cuts S by_rows other present r = by_rows cells words other present (λ y h. cuts_keep_rows t other y y (r y h))

    pub columns_by_rows : (S : Shape) → columns S ≤ length t → out ≡ over (assembled K S cells words t) old → ColumnsByRows K S cells words t old out
    columns_by_rows S present wrote cells-2 words-2 table-2 present-2 same =
        let xs = rows_of K cells-2 words-2 table-2 in
        let ys = rows_of K cells words t in
        let long-1 = length-take-le (columns S) xs (omega (arith, rows_long K cells-2 words-2 table-2)) in
        let long-2 = length-take-le (columns S) ys (omega (arith, rows_long K cells words t)) in
        let fronts = ext_get_or [] (take (columns S) xs) (take (columns S) ys) (long-1 ∙ sym long-2)
        (λ y h. let below : y < columns S = omega arith in get_or-take (columns S) xs y [] below ∙ same y below ∙ sym (get_or-take (columns S) ys y [] below)) in
        ap (λ l. over (flat l ++ replicate (capacity S - area S) K.nought) old) fronts ∙ sym wrote
