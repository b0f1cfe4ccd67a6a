-- What a table tells of a record, by what it tells of the parts. Assumes nothing.
use Rattle.std.proofs.Common.{◌≡◌, ℕ, zero, suc, ◌+◌, ◌<◌, ◌≤◌, ◌⊎◌, List, [], ◌∷◌, map, length, get_or, take, drop, fold, sum, sym, refl, ap, ◌∙◌, subst, inl, inr, ⊎_elim, arith}
use Rattle.std.proofs.lemmas.List.{drop_more}
use Rattle.std.proofs.lemmas.Bool.{cond-true, cond-false, lt-ltb, le-ltb, cases_lt, cases_eq}
use Rattle.std.specs.List.{range_with_len}
use Rattle.ring.specs.Operations.{Operations}
use Rattle.ingest.specs.declared.record.ConversionPass.{ConversionPass}
use Rattle.ingest.specs.declared.record.ConversionPass.TheVariants.{Shared, Copied, Gathered, Widened}
use Rattle.ingest.specs.declared.record.Record.{Record}
use Rattle.ingest.specs.declared.record.Record.TheVariants.{Dense, Interleaved, Bits, Chunked}
use Rattle.ingest.specs.Order.{record_at}
use Rattle.ingest.specs.Parts.{by_parts, ByParts, HeightsByParts, LeavesByParts, RowsByParts, PassIs, PassesByParts}
use Rattle.ingest.specs.Passes.{rank_of, higher_of}
use Rattle.ingest.specs.Rows.{leaf_rows, rows_of}
use Rattle.ingest.specs.Table.{yields, Sound, flat, leaf_height, heights_of, leaf_pass, highest, passes_of, pass_of, leaves_of}
use Rattle.ingest.proofs.Yields.{length-yields, yield_is, yield_chunk}

-- a run, record by record
run_told : {A : Type 0} (ys : List A) (from count : ℕ) (d : A) → from + count ≤ length ys → take count (drop from ys) ≡ map (λ p. get_or ys p d) (range_with_len from count)
run_told ys from zero d h = refl
run_told ys from (suc count) d h =
    ap (take (suc count)) (drop_more ys from d (omega arith)) ∙ ap (λ l. get_or ys from d ∷ l) (run_told ys (from + 1) count d (omega arith))

module _ {A : Type 0} (leaf : ℕ → Record → A) (chunk : List A → A) (t : List Record) (d : A) where
  abbrev told : ℕ → A
  told i = get_or (yields leaf chunk 0 t) i d

  at_record : Sound t → (i : ℕ) → i < length t → (r : Record) → record_at t i ≡ r → told i ≡ by_parts leaf chunk told i r
  at_record sound i h (Dense place height) e = yield_is leaf chunk t i d h (Dense place height) e
  at_record sound i h (Interleaved place len first stride height) e = yield_is leaf chunk t i d h (Interleaved place len first stride height) e
  at_record sound i h (Bits place words height) e = yield_is leaf chunk t i d h (Bits place words height) e
  at_record sound i h (Chunked from count) e =
      let s = sound i from count h e in
      yield_chunk leaf chunk t i d h from count e s.0 ∙ ap chunk (run_told (yields leaf chunk 0 t) from count d (omega (arith, length-yields leaf chunk 0 t, s.1)))

  pub by_parts_lem : Sound t → ByParts leaf chunk (λ i. get_or (yields leaf chunk 0 t) i d) t
  by_parts_lem sound i h = at_record sound i h (record_at t i) refl

module _ (t : List Record) (sound : Sound t) where
  pub heights_by_parts : HeightsByParts t
  unfolding heights_of
  heights_by_parts = by_parts_lem (λ _ r. leaf_height r) sum t 0 sound

  pub leaves_by_parts : LeavesByParts t
  unfolding leaves_of
  leaves_by_parts = by_parts_lem (λ i _. i ∷ []) flat t [] sound

  pub rows_by_parts : (K : Operations) (cells : List K.Value) (words : List ℕ) → RowsByParts K cells words t
  unfolding rows_of
  rows_by_parts K cells words = by_parts_lem (λ _ r. leaf_rows K cells words r) flat t [] sound

  pass_by_parts : ByParts (λ _ r. leaf_pass r) highest (pass_of t) t
  unfolding passes_of
  pass_by_parts = by_parts_lem (λ _ r. leaf_pass r) highest t Copied sound

-- the higher of two passes
higher_cases : (p q : ConversionPass) → (rank_of p ≤ rank_of (higher_of p q)) × (rank_of q ≤ rank_of (higher_of p q)) × ((higher_of p q ≡ p) ⊎ (higher_of p q ≡ q))
higher_cases p q =
    ⊎_elim
    (λ lower. let e : higher_of p q ≡ q = cond-true _ _ _ (lt-ltb (rank_of p) (rank_of q) lower) in (omega (arith, ap rank_of e), omega (arith, ap rank_of e), inr e))
    (λ other. let e : higher_of p q ≡ p = cond-false _ _ _ (le-ltb (rank_of p) (rank_of q) other) in (omega (arith, ap rank_of e), omega (arith, ap rank_of e), inl e))
    (cases_lt (rank_of p) (rank_of q))

-- a run from a pass on: what comes out is that pass or one of the run's, and none is higher
record RunPass (told : ℕ → ConversionPass) (b : ConversionPass) (from count : ℕ) (pass : ConversionPass) : Type 0 where
  starts : rank_of b ≤ rank_of pass
  one : (pass ≡ b) ⊎ ((p : ℕ) × ((from ≤ p) × (p < from + count) × (told p ≡ pass)))
  none_higher : (p : ℕ) → from ≤ p → p < from + count → rank_of (told p) ≤ rank_of pass

run_pass : (told : ℕ → ConversionPass) (b : ConversionPass) (from count : ℕ) → RunPass told b from count (fold higher_of b (map told (range_with_len from count)))
run_pass told b from zero = record { starts = omega arith; one = inl refl; none_higher = λ p low high. absurd (omega arith) }
run_pass told b from (suc count) =
    let later = run_pass told (higher_of b (told from)) (from + 1) count in
    let here = higher_cases b (told from) in
    record {
      starts = omega (arith, later.starts, here.0);
      one = ⊎_elim
          (λ e. ⊎_elim (λ first. inl (e ∙ first)) (λ second. inr (from, (omega arith, omega arith, sym (e ∙ second)))) here.2)
          (λ q. inr (q.0, (omega (arith, q.1.0), omega (arith, q.1.1), q.1.2)))
          later.one;
      none_higher = λ p low high. ⊎_elim
          (λ first. subst (λ n. rank_of (told n) ≤ rank_of (fold higher_of (higher_of b (told from)) (map told (range_with_len (from + 1) count)))) (sym first) (omega (arith, later.starts, here.1)))
          (λ other. later.none_higher p (omega arith) (omega arith))
          (cases_eq p from);
    }

copied_from_rank : (p : ConversionPass) → 1 ≤ rank_of p → rank_of p ≤ 1 → p ≡ Copied
copied_from_rank Shared low high = absurd (omega arith)
copied_from_rank Copied low high = refl
copied_from_rank Gathered low high = absurd (omega arith)
copied_from_rank Widened low high = absurd (omega arith)

-- nothing in a table is shared
module _ (t : List Record) (sound : Sound t) where
  converted : (i : ℕ) (r : Record) → pass_of t i ≡ by_parts (λ _ r. leaf_pass r) highest (pass_of t) i r → 1 ≤ rank_of (pass_of t i)
  converted i (Dense place height) e = omega (arith, ap rank_of e)
  converted i (Interleaved place len first stride height) e = omega (arith, ap rank_of e)
  converted i (Bits place words height) e = omega (arith, ap rank_of e)
  converted i (Chunked from count) e = omega (arith, ap rank_of e, (run_pass (pass_of t) Copied from count).starts)

  pub pass_converted : (i : ℕ) → i < length t → 1 ≤ rank_of (pass_of t i)
  pass_converted i h = converted i (record_at t i) (pass_by_parts t sound i h)

  pass_at : (i : ℕ) (r : Record) → i < length t → record_at t i ≡ r → pass_of t i ≡ by_parts (λ _ r. leaf_pass r) highest (pass_of t) i r → PassIs (pass_of t) r (pass_of t i)
  pass_at i (Dense place height) h at e = e
  pass_at i (Interleaved place len first stride height) h at e = e
  pass_at i (Bits place words height) h at e = e
  pass_at i (Chunked from count) h at e =
      let s = sound i from count h at in
      let run = run_pass (pass_of t) Copied from count in
      record {
        one = ⊎_elim
            (λ none. inl (none, e ∙ ap (λ n. highest (map (pass_of t) (range_with_len from n))) none))
            (λ some. ⊎_elim
            (λ copied. let l : from < length t = omega (arith, s.1, some) in inr (from, (omega arith, omega arith, copied_from_rank (pass_of t from) (converted from (record_at t from) (pass_by_parts t sound from l)) (omega (arith, run.none_higher from (omega arith) (omega arith), ap rank_of copied)) ∙ sym (e ∙ copied))))
            (λ q. inr (q.0, (q.1.0, q.1.1, q.1.2 ∙ sym e)))
            run.one)
            (⊎_elim (λ below. inr below) (λ none. inl (omega arith)) (cases_lt 0 count));
        none_higher = λ p low high. omega (arith, ap rank_of e, run.none_higher p low high);
      }

pub passes_by_parts : (t : List Record) → Sound t → PassesByParts t
passes_by_parts t sound i h = pass_at t sound i (record_at t i) h refl (pass_by_parts t sound i h)
