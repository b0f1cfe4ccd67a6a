-- The scan for a record that is out of order, step by step. Assumes nothing.
use Rattle.std.proofs.Common.{◌≡◌, ℕ, zero, suc, ◌+◌, ◌<◌, ◌≤◌, Bool, true, false, cond, not, ◌||◌, leb, ◌⊎◌, List, [], ◌∷◌, length, drop, is_some, Some, None, Ok, Err, Option, Result, unwrap_or, sym, refl, ap, ◌∙◌, subst, ⊎_elim, arith}
use Rattle.std.proofs.lemmas.List.{at_drop_more, at_drop_all}
use Rattle.std.proofs.lemmas.Bool.{cond-true, cond-false, lt-ltb, le-ltb, le-leb, lt-leb, or_left, or_right, or_from, or_parts, not-false, leb-false, eqb-true, cases_Bool, cases_lt, cases_eq, not_from_true, not_from_false}
use Rattle.ring.specs.Checks.{Check, verdict, when}
use Rattle.ingest.specs.declared.fault.JaggedIngestError.{JaggedIngestError}
use Rattle.ingest.specs.declared.fault.JaggedIngestError.TheVariants.{TableOutOfOrder}
use Rattle.ingest.specs.declared.record.Record.{Record}
use Rattle.ingest.specs.declared.record.Record.TheVariants.{Dense, Interleaved, Bits, Chunked}
use Rattle.ingest.specs.Table.{Sound}
use Rattle.ingest.specs.Order.{max_records, record_at, begins_at, run_end, wrong_from, wrong_record, order_check}

-- a leaf begins no run
pub leaf_begins : (next : ℕ) (r : Record) → ((from count : ℕ) → r ≡ Chunked from count → ⊥) → (begins_at next r ≡ true) × (run_end next r ≡ next)
leaf_begins next (Dense place height) no_Chunk = (refl, refl)
leaf_begins next (Interleaved place len first stride height) no_Chunk = (refl, refl)
leaf_begins next (Bits place words height) no_Chunk = (refl, refl)
leaf_begins next (Chunked from count) no_Chunk = absurd (no_Chunk from count refl)

some_none : (i : ℕ) → None ≡ Some i → ⊥
some_none i e = let z : ◌≡◌ {A = ℕ} 0 1 = cc in omega arith

none_from : (w : Option ℕ) → ◌≡◌ {A = Result (Unit {0}) JaggedIngestError} (verdict (when (is_some w) (TableOutOfOrder (unwrap_or w 0)) ∷ []) tt) (Ok tt) → w ≡ None
none_from None e = refl
none_from (Some i) e = let z : ◌≡◌ {A = ℕ} 0 1 = cc in absurd (omega arith)

module _ (t : List Record) where
  bad : ℕ → ℕ → Bool
  bad i next = leb next i || leb max_records i || not (begins_at next (record_at t i))

  step : (i next : ℕ) → i < length t → wrong_from i next (drop i t) ≡ cond (bad i next) (Some i) (wrong_from (i + 1) (run_end next (record_at t i)) (drop (i + 1) t))
  unfolding bad
  step i next h = at_drop_more (wrong_from i next) t i (Dense 0 0) h

  -- a record that is out of order stops the scan
  pub wrong_here : (i next : ℕ) → i < length t → (next ≤ i) ⊎ ((max_records ≤ i) ⊎ (begins_at next (record_at t i) ≡ false)) → wrong_from i next (drop i t) ≡ Some i
  unfolding bad
  wrong_here i next h why =
      step i next h
      ∙ cond-true (bad i next) _ _
      (⊎_elim
      (λ w. or_left _ _ (or_left _ _ (le-leb next i w)))
      (⊎_elim (λ w. or_left _ _ (or_right (leb next i) _ (le-leb max_records i w))) (λ w. or_right _ _ (not_from_false _ w)))
      why)

  -- the scan goes on past any other
  pub wrong_later : (i next : ℕ) → i < length t → i < next → i < max_records → begins_at next (record_at t i) ≡ true → wrong_from i next (drop i t) ≡ wrong_from (i + 1) (run_end next (record_at t i)) (drop (i + 1) t)
  unfolding bad
  wrong_later i next h below few begins =
      step i next h
      ∙ cond-false (bad i next) _ _ (or_from _ _ (or_from _ _ (lt-leb next i below) (lt-leb max_records i few)) (not_from_true _ begins))

  -- past the last record, one that is wanted is absent
  pub wrong_absent : (i next : ℕ) → length t ≤ i → i < next → wrong_from i next (drop i t) ≡ Some i
  wrong_absent i next h wanted = at_drop_all (wrong_from i next) t i h ∙ cond-true _ _ _ (lt-ltb i next wanted)

  pub none_wrong : (i next : ℕ) → length t ≤ i → next ≤ i → wrong_from i next (drop i t) ≡ None
  none_wrong i next h reached = at_drop_all (wrong_from i next) t i h ∙ cond-false _ _ _ (le-ltb i next reached)

  -- what is answered
  abbrev answered : Option ℕ → Result (Unit {0}) JaggedIngestError
  answered w = verdict (when (is_some w) (TableOutOfOrder (unwrap_or w 0)) ∷ []) tt

  pub order_refused : (sources i : ℕ) → wrong_record t sources ≡ Some i → ◌≡◌ {A = Result (Unit {0}) JaggedIngestError} (Err (TableOutOfOrder i)) (verdict (order_check t sources ∷ []) tt)
  order_refused sources i e = sym (ap (λ w. answered w) e)

  pub order_passed : (sources : ℕ) → wrong_record t sources ≡ None → ◌≡◌ {A = Result (Unit {0}) JaggedIngestError} (Ok tt) (verdict (order_check t sources ∷ []) tt)
  order_passed sources e = sym (ap (λ w. answered w) e)

  -- a record that the scan passed
  pub passed : (i next : ℕ) → i < length t → wrong_from i next (drop i t) ≡ None → (i < next) × (i < max_records) × (begins_at next (record_at t i) ≡ true) × (wrong_from (i + 1) (run_end next (record_at t i)) (drop (i + 1) t) ≡ None)
  unfolding bad
  passed i next h none =
      ⊎_elim
      (λ stops. absurd (some_none i (sym (sym (step i next h) ∙ none) ∙ cond-true _ _ _ stops)))
      (λ goes.
      let parts = or_parts _ _ goes in
      let first-parts = or_parts _ _ parts.0 in
      (leb-false next i first-parts.0, leb-false max_records i first-parts.1, not-false _ parts.1, sym (cond-false (bad i next) (Some i) (wrong_from (i + 1) (run_end next (record_at t i)) (drop (i + 1) t)) goes) ∙ sym (step i next h) ∙ none))
      (cases_Bool (bad i next))

  -- runs do not shrink what they have reached
  pub next_grows : (next : ℕ) (r : Record) → begins_at next r ≡ true → next ≤ run_end next r
  next_grows next (Dense place height) e = omega arith
  next_grows next (Interleaved place len first stride height) e = omega arith
  next_grows next (Bits place words height) e = omega arith
  next_grows next (Chunked from count) e = omega (arith, eqb-true from next e)

  pub begins_chunk : (next i from count : ℕ) → record_at t i ≡ Chunked from count → begins_at next (record_at t i) ≡ true → (from ≡ next) × (run_end next (record_at t i) ≡ from + count)
  begins_chunk next i from count e b = (eqb-true from next (sym (ap (begins_at next) e) ∙ b), ap (run_end next) e)

  sound_from : (k i next : ℕ) → i + k ≡ length t → wrong_from i next (drop i t) ≡ None → (next ≤ length t) × ((j from count : ℕ) → i ≤ j → j < length t → record_at t j ≡ Chunked from count → (j < from) × (from + count ≤ length t))
  sound_from zero i next e none = (
    ⊎_elim (λ wanted. absurd (some_none i (sym none ∙ wrong_absent i next (omega arith) wanted))) (λ reached. omega arith) (cases_lt i next),
    (λ j from count low high chunk. absurd (omega arith)),
  )
  sound_from (suc k) i next e none =
      let p = passed i next (omega arith) none in
      let later = sound_from k (i + 1) (run_end next (record_at t i)) (omega arith) p.3 in
      let grows = next_grows next (record_at t i) p.2 in (
        omega (arith, later.0),
        (λ j from count low high chunk.
            ⊎_elim
            (λ same.
            let at_i : record_at t i ≡ Chunked from count = subst (λ n. record_at t n ≡ Chunked from count) same chunk in
            let b = begins_chunk next i from count at_i p.2 in
            (omega (arith, p.0, b.0), omega (arith, later.0, b.1)))
            (λ other. later.1 j from count (omega arith) high chunk)
            (cases_eq j i)),
      )

  -- where runs have reached, the records are present
  pub reached : (k i next : ℕ) → i + k ≡ length t → wrong_from i next (drop i t) ≡ None → next ≤ length t
  reached k i next e none = (sound_from k i next e none).0

  -- a table in order keeps its parts after their chunks, and its columns are present
  pub sound : (sources : ℕ) → wrong_record t sources ≡ None → Sound t
  sound sources none j from count high chunk = (sound_from (length t) 0 sources (omega arith) none).1 j from count (omega arith) high chunk

  pub sources_present : (sources : ℕ) → wrong_record t sources ≡ None → sources ≤ length t
  sources_present sources none = (sound_from (length t) 0 sources (omega arith) none).0

  -- what a passed check tells
  pub order_none : (sources : ℕ) → ◌≡◌ {A = Result (Unit {0}) JaggedIngestError} (verdict (order_check t sources ∷ []) tt) (Ok tt) → wrong_record t sources ≡ None
  order_none sources e = none_from (wrong_record t sources) e

  -- a table in order leaves the answer to the checks after it
  pub order_goes : {T : Type 0} (sources : ℕ) (rest : List (Check JaggedIngestError)) (v : T) → wrong_record t sources ≡ None → verdict (order_check t sources ∷ rest) v ≡ verdict rest v
  order_goes sources rest v e = ap (λ w. verdict (when (is_some w) (TableOutOfOrder (unwrap_or w 0)) ∷ rest) v) e
