-- What one record yields, by what its parts yield. Assumes nothing.
use Rattle.std.proofs.Common.{◌≡◌, ℕ, zero, suc, ◌+◌, ◌-◌, ◌<◌, ◌≤◌, List, [], ◌∷◌, ◌++◌, length, get_or, take, drop, sym, refl, ap, ◌∙◌, add-zero, arith}
use Rattle.std.proofs.lemmas.List.{append_assoc, append-nil, drop-drop, drop_more, get_or-drop, get_or-take, flat_map_more, length-append, length-drop, length-take-le, take_more, take-take}
use Rattle.ingest.specs.declared.record.Record.{Record}
use Rattle.ingest.specs.declared.record.Record.TheVariants.{Dense, Interleaved, Bits, Chunked}
use Rattle.ingest.specs.Order.{record_at}
use Rattle.ingest.specs.Table.{yielded, yields, flat, leaves_of, leaves_at}
use Rattle.ingest.specs.Walks.{run_of}

module _ {A : Type 0} (leaf : ℕ → Record → A) (chunk : List A → A) where
  pub length-yields : (a : ℕ) (t : List Record) → length (yields leaf chunk a t) ≡ length t
  length-yields a [] = refl
  length-yields a (r ∷ rs) = ap suc (length-yields (a + 1) rs)

  -- a leaf yields what it holds itself
  pub yielded_leaf : (i : ℕ) (r : Record) (later : List A) → ((from count : ℕ) → r ≡ Chunked from count → ⊥) → yielded leaf chunk i r later ≡ leaf i r
  yielded_leaf i (Dense place height) later no_Chunk = refl
  yielded_leaf i (Interleaved place len first stride height) later no_Chunk = refl
  yielded_leaf i (Bits place words height) later no_Chunk = refl
  yielded_leaf i (Chunked from count) later no_Chunk = absurd (no_Chunk from count refl)

  from_number : (a i : ℕ) (t : List Record) (d : A) → i < length t → get_or (yields leaf chunk a t) i d ≡ yielded leaf chunk (a + i) (record_at t i) (drop (i + 1) (yields leaf chunk a t))
  from_number a i [] d h = absurd (omega arith)
  from_number a zero (r ∷ rs) d h = ap (λ n. yielded leaf chunk n r (yields leaf chunk (a + 1) rs)) (sym (add-zero a))
  from_number a (suc i) (r ∷ rs) d h =
      let e : (a + 1) + i ≡ a + suc i = omega arith in
      let e2 : suc (i + 1) ≡ suc i + 1 = omega arith in
      from_number (a + 1) i rs d (omega arith)
      ∙ ap (λ n. yielded leaf chunk n (record_at rs i) (drop (i + 1) (yields leaf chunk (a + 1) rs))) e
      ∙ ap (λ n. yielded leaf chunk (a + suc i) (record_at rs i) (drop n (yields leaf chunk a (r ∷ rs)))) e2

  module _ (t : List Record) (i : ℕ) (d : A) (within : i < length t) where
    pub yield_is : (r : Record) → record_at t i ≡ r → get_or (yields leaf chunk 0 t) i d ≡ yielded leaf chunk i r (drop (i + 1) (yields leaf chunk 0 t))
    yield_is r e =
        let z : 0 + i ≡ i = omega arith in
        from_number 0 i t d within ∙ ap (λ n. yielded leaf chunk n (record_at t i) (drop (i + 1) (yields leaf chunk 0 t))) z ∙ ap (λ x. yielded leaf chunk i x (drop (i + 1) (yields leaf chunk 0 t))) e

    pub yield_leaf : ((from count : ℕ) → record_at t i ≡ Chunked from count → ⊥) → get_or (yields leaf chunk 0 t) i d ≡ leaf i (record_at t i)
    yield_leaf no_Chunk = yield_is (record_at t i) refl ∙ yielded_leaf i (record_at t i) (drop (i + 1) (yields leaf chunk 0 t)) no_Chunk

    -- a chunk whose run comes later is made of that run
    pub yield_chunk : (from count : ℕ) → record_at t i ≡ Chunked from count → i < from → get_or (yields leaf chunk 0 t) i d ≡ chunk (take count (drop from (yields leaf chunk 0 t)))
    yield_chunk from count e later =
        let back : (i + 1) + (from - (i + 1)) ≡ from = omega arith in
        yield_is (Chunked from count) e
        ∙ ap (λ l. chunk (take count l)) (drop-drop (from - (i + 1)) (i + 1) (yields leaf chunk 0 t) ∙ ap (λ n. drop n (yields leaf chunk 0 t)) back)

-- a run of one record
pub one_run : {A : Type 0} (ys : List (List A)) (i : ℕ) → i < length ys → run_of ys i 1 ≡ get_or ys i []
one_run ys i h = ap (λ l. flat (take 1 l)) (drop_more ys i [] h) ∙ append-nil (get_or ys i [])

-- a run of k parts, and one part more
pub run_more : {A : Type 0} (ys : List (List A)) (from k p : ℕ) → from + k ≡ p → p < length ys → run_of ys from (k + 1) ≡ run_of ys from k ++ get_or ys p []
run_more ys from k p at h =
    ap flat (take_more (drop from ys) k [] (omega (arith, length-drop from ys)))
    ∙ sym (flat_map_more (λ part. part) [] (take k (drop from ys)) (get_or (drop from ys) k []))
    ∙ ap (λ x. run_of ys from k ++ x) (get_or-drop from ys k [] ∙ ap (λ n. get_or ys n []) at)

split_at : {A : Type 0} (zs : List (List A)) (k : ℕ) → k < length zs → flat zs ≡ flat (take k zs) ++ (get_or zs k [] ++ flat (drop (k + 1) zs))
split_at [] k h = absurd (omega arith)
split_at (z ∷ zs) zero h = refl
split_at (z ∷ zs) (suc k) h =
    let e : suc (k + 1) ≡ suc k + 1 = omega arith in
    ap (λ l. z ++ l) (split_at zs k (omega arith)) ∙ sym (append_assoc z (flat (take k zs)) (get_or zs k [] ++ flat (drop (k + 1) zs)))
    ∙ ap (λ n. (z ++ flat (take k zs)) ++ (get_or zs k [] ++ flat (drop n (z ∷ zs)))) e

-- a run, up to one of its parts and past it
pub run_split : {A : Type 0} (ys : List (List A)) (from count k p : ℕ) → from + k ≡ p → k < count → from + count ≤ length ys → (rest : List A) × (run_of ys from count ≡ run_of ys from k ++ (get_or ys p [] ++ rest))
run_split ys from count k p at h present =
    let zs = take count (drop from ys) in
    let long : length zs ≡ count = length-take-le count (drop from ys) (omega (arith, length-drop from ys)) in (
      flat (drop (k + 1) zs),
      split_at zs k (omega arith)
          ∙ ap (λ l. flat l ++ (get_or zs k [] ++ flat (drop (k + 1) zs))) (take-take k count (drop from ys) (omega arith))
          ∙ ap (λ x. run_of ys from k ++ (x ++ flat (drop (k + 1) zs))) (get_or-take count (drop from ys) k [] h ∙ get_or-drop from ys k [] ∙ ap (λ n. get_or ys n []) at),
    )

-- a part and those before it are no longer than the run
pub run_le : {A : Type 0} (ys : List (List A)) (from count k p : ℕ) → from + k ≡ p → k < count → from + count ≤ length ys → length (run_of ys from k) + length (get_or ys p []) ≤ length (run_of ys from count)
run_le ys from count k p at h present =
    let split = run_split ys from count k p at h present in
    omega (arith, ap length split.1, length-append (run_of ys from k) (get_or ys p [] ++ split.0), length-append (get_or ys p []) split.0)

module _ (t : List Record) where
  pub leaves_long : length (leaves_of t) ≡ length t
  unfolding leaves_of
  leaves_long = length-yields (λ i _. i ∷ []) flat 0 t

  pub leaves_leaf : (i : ℕ) → i < length t → ((from count : ℕ) → record_at t i ≡ Chunked from count → ⊥) → leaves_at t i ≡ i ∷ []
  unfolding leaves_of
  leaves_leaf i h no_Chunk = yield_leaf (λ i _. i ∷ []) flat t i [] h no_Chunk

  pub leaves_chunk : (i from count : ℕ) → i < length t → record_at t i ≡ Chunked from count → i < from → leaves_at t i ≡ run_of (leaves_of t) from count
  unfolding leaves_of
  leaves_chunk i from count h e later = yield_chunk (λ i _. i ∷ []) flat t i [] h from count e later
