-- The rows of a table, by its leaves and by its heights. Assumes nothing.
use Rattle.std.proofs.Common.{◌≡◌, ℕ, zero, suc, ◌+◌, ◌-◌, ◌<◌, ◌≤◌, Bool, true, false, ◌&&◌, ltb, List, [], ◌∷◌, ◌++◌, length, get_or, take, drop, replicate, is_some, Some, None, Ok, sum, Option, Result, sym, refl, ap, ◌∙◌, subst, add-one, arith}
use Rattle.std.proofs.lemmas.List.{append_assoc, ext_get_or, get_or_append_left, get_or-append_right, get_or-take, length-append, length-take-le, take-take}
use Rattle.std.proofs.lemmas.List.Sums.{sum_by-cons}
use Rattle.std.proofs.lemmas.Bool.{both_ways, eqb-true, lt-ltb, ltb-false, not-false}
use Rattle.ring.specs.Checks.{Check, Passed, verdict}
use Rattle.ring.specs.Operations.{Operations}
use Rattle.ring.proofs.Verdicts.{passed-at, passed_from_ok, passed_left, passed_right}
use Rattle.layout.specs.Shape.{Shape, columns, height, start, area, capacity}
use Rattle.layout.proofs.Shapes.{area-start}
use Rattle.ring.specs.Bytes.{over}
use Rattle.ingest.specs.declared.fault.JaggedIngestError.{JaggedIngestError}
use Rattle.ingest.specs.declared.fault.LeafError.{LeafError}
use Rattle.ingest.specs.declared.record.Record.{Record}
use Rattle.ingest.specs.declared.record.Record.TheVariants.{Dense, Interleaved, Bits, Chunked}
use Rattle.ingest.specs.Leaves.{leaf_checks, checks_of, checks_at, reach}
use Rattle.ingest.specs.Order.{record_at, wrong_record}
use Rattle.ingest.specs.Reading.{one_checks, columns_checks, read_checks, assembled, RowsPlaced, HeightsCountRows}
use Rattle.ingest.specs.Rows.{leaf_rows, found_rows, rows_of, rows_at, Sits, Within}
use Rattle.ingest.specs.Table.{flat, leaf_height, heights_of, height_of, leaves_of, leaves_at}
use Rattle.ingest.proofs.Tall.{heights_long}
use Rattle.ingest.specs.Charges.{outcome}
use Rattle.ingest.specs.Vector.{buffer_checks}
use Rattle.ingest.proofs.Orders.{sources_present}
use Rattle.ingest.proofs.Passings.{down_passed}
use Rattle.ingest.proofs.Related.{Both, both_at, both_take, by_leaves, related, run_by_leaves}
use Rattle.ingest.specs.Walks.{run_of}
use Rattle.std.specs.List.{All, flat_map}
use Rattle.std.proofs.lemmas.List.Elements.{All-append, All-cons, All-nil}
use Rattle.ingest.proofs.Yields.{length-yields, leaves_long, run_more, run_split}
use Rattle.ingest.proofs.Written.{leaf_rows_long}

regroup : {A : Type 0} (a b c d e : List A) → ((a ++ (b ++ c)) ++ d) ++ e ≡ a ++ (b ++ (c ++ (d ++ e)))
regroup a b c d e = simp append_assoc

module _ (K : Operations) (cells : List K.Value) (words : List ℕ) (t : List Record) where
  pub rows_long : length (rows_of K cells words t) ≡ length t
  unfolding rows_of
  rows_long = length-yields (λ _ r. leaf_rows K cells words r) flat 0 t

  -- the rows of a record are those of its leaves
  pub rows_at_leaves : (i : ℕ) → rows_at K cells words t i ≡ found_rows K cells words t (leaves_at t i)
  unfolding rows_of
  rows_at_leaves i = by_leaves (λ _ r. leaf_rows K cells words r) t i

  -- so are those of the first records
  pub run_rows : (s : ℕ) → run_of (rows_of K cells words t) 0 s ≡ found_rows K cells words t (run_of (leaves_of t) 0 s)
  unfolding rows_of
  run_rows s = run_by_leaves (λ _ r. leaf_rows K cells words r) t s

  abbrev Tall : List K.Value → ℕ → Type 0
  Tall rows n = length rows ≡ n

  tall_flat : (xs : List (List K.Value)) (ys : List ℕ) → Both Tall xs ys → length (flat xs) ≡ sum ys
  tall_flat [] [] b = refl
  tall_flat [] (y ∷ ys) b = absurd b
  tall_flat (x ∷ xs) [] b = absurd b
  tall_flat (x ∷ xs) (y ∷ ys) b = omega (arith, length-append x (flat xs), b.0, tall_flat xs ys b.1, sum_by-cons (λ n. n) y ys)

  all_tall : Both Tall (rows_of K cells words t) (heights_of t)
  unfolding rows_of heights_of
  all_tall = related Tall (λ _ r. leaf_rows K cells words r) (λ _ r. leaf_height r) flat sum t (λ i h. leaf_rows_long K cells words t (record_at t i)) tall_flat

  pub heights_count : HeightsCountRows K cells words t
  heights_count i = both_at Tall [] 0 refl i (rows_of K cells words t) (heights_of t) all_tall

  module _ (S : Shape) (present : columns S ≤ length t) (same : (y : ℕ) → y < columns S → height_of t y ≡ height S y) where
    heights_are : take (columns S) (heights_of t) ≡ S.heights
    heights_are =
        let long = length-take-le (columns S) (heights_of t) (omega (arith, heights_long t)) in
        ext_get_or 0 (take (columns S) (heights_of t)) S.heights long
        (λ y h. let below : y < columns S = omega arith in get_or-take (columns S) (heights_of t) y 0 below ∙ same y below)

    -- the rows of the columns before y fill the vector up to its start
    front_long : (y : ℕ) → y ≤ columns S → length (flat (take y (rows_of K cells words t))) ≡ start S y
    front_long y h =
        tall_flat (take y (rows_of K cells words t)) (take y (heights_of t)) (both_take Tall y (rows_of K cells words t) (heights_of t) all_tall)
        ∙ ap sum (sym (take-take y (columns S) (heights_of t) h) ∙ ap (take y) heights_are)

    -- columns of the layout's heights fill its area
    rows_fill : length (flat (take (columns S) (rows_of K cells words t))) ≡ area S
    rows_fill = front_long (columns S) (omega arith) ∙ area-start S

    rows_placed : (old : List K.Value) → RowsPlaced K S cells words t (over (assembled K S cells words t) old)
    rows_placed old y k h l =
        let ys = rows_of K cells words t in
        let split = run_split ys 0 (columns S) y y (omega arith) h (omega (arith, rows_long)) in
        let pad = replicate (capacity S - area S) K.nought in
        let tail = drop (length (assembled K S cells words t)) old in
        let joined-up = ap (λ l. (l ++ pad) ++ tail) split.1 ∙ regroup (flat (take y ys)) (get_or ys y []) split.0 pad tail in
        let back : (start S y + k) - start S y ≡ k = omega arith in
        let tall = heights_count y in
        ap (λ l. get_or l (start S y + k) K.nought) joined-up
        ∙ get_or-append_right (flat (take y ys)) (get_or ys y [] ++ (split.0 ++ (pad ++ tail))) (start S y) (start S y + k) K.nought (front_long y (omega arith)) (omega arith)
        ∙ ap (λ n. get_or (get_or ys y [] ++ (split.0 ++ (pad ++ tail))) n K.nought) back
        ∙ get_or_append_left (get_or ys y []) (split.0 ++ (pad ++ tail)) K.nought k (omega (arith, tall, same y h))

second : (x y : Bool) → x ≡ true → (x && y) ≡ false → y ≡ false
second true y e h = h
second false y e h = absurd (both_ways false refl e)

-- what the checks of a leaf tell
pub within_from_passed : (cells words column i : ℕ) (r : Record) → Passed (leaf_checks cells words column i r) → Within cells words r
within_from_passed cells words column i (Dense place height) p = ltb-false cells (place + height) p.0
within_from_passed cells words column i (Interleaved place len first stride height) p = (
  ltb-false cells (place + len) p.0,
  (λ some. ltb-false len (reach first stride height) (second (ltb 0 height) (ltb len (reach first stride height)) (lt-ltb 0 height some) p.1.1.0)),
)
within_from_passed cells words column i (Bits place count height) p = (ltb-false words (place + count) p.0, ltb-false count _ p.1.0)
within_from_passed cells words column i (Chunked from count) p = tt

module _ (cells words : ℕ) (t : List Record) where
  pub checks_by_leaves : (column i : ℕ) → checks_at cells words column t i ≡ flat_map (λ n. leaf_checks cells words column n (record_at t n)) (leaves_at t i)
  unfolding checks_of
  checks_by_leaves column i = by_leaves (leaf_checks cells words column) t i

  checked_flat : (xs : List (List (Check LeafError))) (ys : List (List ℕ)) → Both (λ cs ls. Passed cs → All (Sits cells words t) ls) xs ys → Passed (flat xs) → All (Sits cells words t) (flat ys)
  checked_flat [] [] b p = All-nil (Sits cells words t)
  checked_flat [] (y ∷ ys) b p = absurd b
  checked_flat (x ∷ xs) [] b p = absurd b
  checked_flat (x ∷ xs) (y ∷ ys) b p = All-append (Sits cells words t) y (flat ys) (b.0 (passed_left x (flat xs) p)) (checked_flat xs ys b.1 (passed_right x (flat xs) p))

  -- the leaves of a record whose checks pass
  pub leaves_sit : (column i : ℕ) → Passed (checks_at cells words column t i) → All (Sits cells words t) (leaves_at t i)
  unfolding checks_of leaves_of
  leaves_sit column i =
      both_at (λ cs ls. Passed cs → All (Sits cells words t) ls) [] [] (λ _. All-nil (Sits cells words t)) i (checks_of cells words column t) (leaves_of t)
      (related (λ cs ls. Passed cs → All (Sits cells words t) ls) (leaf_checks cells words column) (λ j _. j ∷ []) flat flat t
      (λ j h p. All-cons (Sits cells words t) j [] (h, within_from_passed cells words column j (record_at t j) p) (All-nil (Sits cells words t)))
      checked_flat)

  columns_sit : (s : ℕ) → s ≤ length t → ((y : ℕ) → y < s → All (Sits cells words t) (leaves_at t y)) → All (Sits cells words t) (run_of (leaves_of t) 0 s)
  columns_sit zero h each = All-nil (Sits cells words t)
  columns_sit (suc s) h each =
      subst (λ n. All (Sits cells words t) (run_of (leaves_of t) 0 n)) (add-one s)
      (subst (All (Sits cells words t)) (sym (run_more (leaves_of t) 0 s s (omega arith) (omega (arith, leaves_long t)))) (All-append (Sits cells words t) (run_of (leaves_of t) 0 s) (leaves_at t s) (columns_sit s (omega arith) (λ y l. each y (omega arith))) (each s (omega arith))))

  -- what the checks of all columns tell
  module _ (S : Shape) (present : columns S ≤ length t) (passed : Passed (columns_checks S t cells words)) where
    one_passed : (y : ℕ) → y < columns S → Passed (one_checks t cells words y (height S y))
    one_passed y h = passed-at (λ y. one_checks t cells words y (height S y)) (columns S) y h passed

    heights_same : (y : ℕ) → y < columns S → height_of t y ≡ height S y
    heights_same y h = eqb-true (height_of t y) (height S y) (not-false _ (one_passed y h).1.0)

    all_sit : All (Sits cells words t) (run_of (leaves_of t) 0 (columns S))
    all_sit = columns_sit (columns S) present (λ y h. leaves_sit y y (down_passed (checks_at cells words y t y) (one_passed y h).1.1))

pub no_some : (w : Option ℕ) → is_some w ≡ false → w ≡ None
no_some None e = refl
no_some (Some n) e = absurd (both_ways true e refl)

-- what an accepted reading tells
pub record Accepted (S : Shape) (t : List Record) (sources cells words buffer : ℕ) : Type 0 where
  pub same : sources ≡ columns S
  pub none : wrong_record t sources ≡ None
  pub present : columns S ≤ length t
  pub passed : Passed (columns_checks S t cells words)
  pub room : capacity S ≤ buffer

accepted : {A : Type 0} (S : Shape) (t : List Record) (sources n m n-told m-told buffer : ℕ) (r : Result A JaggedIngestError) (x : A) → outcome r ≡ verdict (read_checks S t sources n-told m-told buffer) tt → r ≡ Ok x → n-told ≡ n → m-told ≡ m → Accepted S t sources n m buffer
accepted S t sources n m n-told m-told buffer r x answer is n-same m-same =
    let p-told = passed_from_ok (read_checks S t sources n-told m-told buffer) tt tt (sym answer ∙ ap outcome is) in
    let p = subst (λ i. Passed (read_checks S t sources i m buffer)) n-same (subst (λ i. Passed (read_checks S t sources n-told i buffer)) m-same p-told) in
    let same = eqb-true sources (columns S) (not-false _ p.0) in
    let none = no_some (wrong_record t sources) p.1.0 in
    record {
      same = same;
      none = none;
      present = omega (arith, sources_present t sources none);
      passed = passed_left (columns_checks S t n m) (buffer_checks S buffer) p.1.1;
      room = ltb-false buffer (capacity S) (passed_right (columns_checks S t n m) (buffer_checks S buffer) p.1.1).0;
    }

-- and of the records that were checked, once their leaves are found
pub record Ready (K : Operations) (cells : List K.Value) (words : List ℕ) (S : Shape) (t o : List Record) (leaves : List ℕ) (sources n m buffer : ℕ) : Type 0 where
  pub ok : Accepted S t sources n m buffer
  pub sits : All (Sits n m o) leaves
  pub rows_are : found_rows K cells words o leaves ≡ run_of (rows_of K cells words t) 0 (columns S)
  pub fill : length (run_of (rows_of K cells words t) 0 (columns S)) ≡ area S
  pub placed : (old : List K.Value) → RowsPlaced K S cells words t (over (assembled K S cells words t) old)

pub ready : {A : Type 0} (K : Operations) (cells : List K.Value) (words : List ℕ) (S : Shape) (t o : List Record) (leaves : List ℕ) (sources n m n-told m-told buffer s-told : ℕ) (r : Result A JaggedIngestError) (x : A) → outcome r ≡ verdict (read_checks S t sources n-told m-told buffer) tt → r ≡ Ok x → o ≡ t → s-told ≡ sources → n-told ≡ n → m-told ≡ m → leaves ≡ run_of (leaves_of o) 0 s-told → Ready K cells words S t o leaves sources n m buffer
ready K cells words S t o leaves sources n m n-told m-told buffer s-told r x answer is same s-same n-same m-same found-are =
    let ok = accepted S t sources n m n-told m-told buffer r x answer is n-same m-same in
    let heights = heights_same n m t S ok.present ok.passed in
    let are = found-are ∙ ap (λ u. run_of (leaves_of u) 0 s-told) same ∙ ap (run_of (leaves_of t) 0) (s-same ∙ ok.same) in
    subst (λ u. Ready K cells words S t u leaves sources n m buffer) (sym same)
    (record {
      ok = ok;
      sits = subst (All (Sits n m t)) (sym are) (all_sit n m t S ok.present ok.passed);
      rows_are = ap (found_rows K cells words t) are ∙ sym (run_rows K cells words t (columns S));
      fill = rows_fill K cells words t S ok.present heights;
      placed = rows_placed K cells words t S ok.present heights;
    })
