-- The scan finds the lowest record that is out of order. Assumes nothing.
use Rattle.std.proofs.Common.{◌≡◌, ℕ, zero, suc, ◌+◌, ◌<◌, ◌≤◌, true, ◌⊎◌, List, length, drop, sym, refl, ap, ◌∙◌, subst, inl, inr, ⊎_elim, arith}
use Rattle.std.proofs.lemmas.List.Sums.{fold_more}
use Rattle.std.proofs.lemmas.Bool.{both_ways, cases_Bool, cases_eq, cases_lt, eqb-true}
use Rattle.ingest.specs.declared.record.Record.{Record}
use Rattle.ingest.specs.declared.record.Record.TheVariants.{Dense, Interleaved, Bits, Chunked}
use Rattle.ingest.specs.Order.{max_records, record_at, begins_at, run_end, wrong_from, wrong_record, InRun, InRunBefore, next_at, Wanted, Wrong, LowestWrong}
use Rattle.ingest.proofs.Orders.{next_grows, none_wrong, wrong_absent, wrong_here, wrong_later}

module _ (t : List Record) (s : ℕ) where
  -- records below i are right, and the runs of those reach up to `next`
  record State (i next : ℕ) : Type 0 where
    right : (k : ℕ) → k < i → Wrong t s k → ⊥
    reach : next ≡ next_at t s i
    covered : (m : ℕ) → m < next → (m < s) ⊎ InRunBefore t i m
    below : (m : ℕ) → (m < s) ⊎ InRunBefore t i m → m < next
    few : i ≤ max_records

  later : (i j m : ℕ) → i ≤ j → (m < s) ⊎ InRunBefore t i m → (m < s) ⊎ InRunBefore t j m
  later i j m h = ⊎_elim inl (λ w. inr (w.0, (omega (arith, w.1.0), w.1.1, w.1.2)))

  -- past the last record nothing is wrong, where the runs reach no further
  at_end : (i next : ℕ) → i ≡ length t → next ≤ i → State i next → (j : ℕ) → Wrong t s j → ⊥
  at_end i next e reached st j w =
      ⊎_elim
      (λ low. st.right j low w)
      (λ high.
      let far : Wanted t s j → ⊥ = λ q. let l = st.below j (later (length t) i j (omega arith) q) in omega arith in
      ⊎_elim
      (λ b. omega (arith, b.0))
      (⊎_elim (λ b. omega (arith, b.0)) (⊎_elim (λ b. far b.1) (λ b. ⊎_elim (λ h. omega arith) far b.1)))
      w)
      (cases_lt j i)

  -- a record that the scan passes is right
  passes : (i next : ℕ) → i < length t → i < next → i < max_records → begins_at next (record_at t i) ≡ true → State i next → Wrong t s i → ⊥
  passes i next h wanted few begins st w =
      ⊎_elim
      (λ b. both_ways (begins_at next (record_at t i)) (ap (λ n. begins_at n (record_at t i)) st.reach ∙ b.1) begins)
      (⊎_elim
      (λ b. ⊎_elim (λ l. omega (arith, b.1)) b.2 (st.covered i wanted))
      (⊎_elim (λ b. omega (arith, b.0)) (λ b. omega (arith, b.0))))
      w

  covered_more : (i next : ℕ) (r : Record) → i < length t → record_at t i ≡ r → begins_at next r ≡ true → ((m : ℕ) → m < next → (m < s) ⊎ InRunBefore t i m) → (m : ℕ) → m < run_end next r → (m < s) ⊎ InRunBefore t (i + 1) m
  covered_more i next (Dense place height) h e b c m l = later i (i + 1) m (omega arith) (c m l)
  covered_more i next (Interleaved place len first stride height) h e b c m l = later i (i + 1) m (omega arith) (c m l)
  covered_more i next (Bits place words height) h e b c m l = later i (i + 1) m (omega arith) (c m l)
  covered_more i next (Chunked from count) h e b c m l =
      ⊎_elim
      (λ low. later i (i + 1) m (omega arith) (c m low))
      (λ high. inr (i, (omega arith, h, subst (λ r. InRun r m) (sym e) (omega (arith, eqb-true from next b), l))))
      (cases_lt m next)

  run_below : (next m : ℕ) (r : Record) → InRun r m → m < run_end next r
  run_below next m (Dense place height) w = absurd w
  run_below next m (Interleaved place len first stride height) w = absurd w
  run_below next m (Bits place words height) w = absurd w
  run_below next m (Chunked from count) w = w.1

  more : (i next : ℕ) → i < length t → i < next → i < max_records → begins_at next (record_at t i) ≡ true → State i next → State (i + 1) (run_end next (record_at t i))
  more i next h wanted few begins st =
      let grows = next_grows t next (record_at t i) begins in
      record {
        right = λ k l w. ⊎_elim (λ same. passes i next h wanted few begins st (subst (Wrong t s) same w)) (λ other. st.right k (omega arith) w) (cases_eq k i);
        reach = ap (λ n. run_end n (record_at t i)) st.reach ∙ sym (fold_more run_end s t i (Dense 0 0) h);
        covered = covered_more i next (record_at t i) h refl begins st.covered;
        below = λ m w.
            ⊎_elim
            (λ column. let l = st.below m (inl column) in omega arith)
            (λ q. ⊎_elim
            (λ same. run_below next m (record_at t i) (subst (λ j. InRun (record_at t j) m) same q.1.2))
            (λ other. let l = st.below m (inr (q.0, (omega (arith, q.1.0), q.1.1, q.1.2))) in omega arith)
            (cases_eq q.0 i))
            w;
        few = omega arith;
      }

  lowest_from : (k i next : ℕ) → i + k ≡ length t → State i next → LowestWrong t s (wrong_from i next (drop i t))
  lowest_from zero i next e st =
      ⊎_elim
      (λ wanted. subst (LowestWrong t s) (sym (wrong_absent t i next (omega arith) wanted)) (record { holds = inr (inr (inl (omega arith, later i (length t) i (omega arith) (st.covered i wanted)))); none_below = st.right }))
      (λ reached. subst (LowestWrong t s) (sym (none_wrong t i next (omega arith) reached)) (at_end i next (omega arith) reached st))
      (cases_lt i next)
  lowest_from (suc k) i next e st =
      let h : i < length t = omega arith in
      ⊎_elim
      (λ wanted. ⊎_elim
      (λ few. ⊎_elim
      (λ begins. subst (LowestWrong t s) (sym (wrong_later t i next h wanted few begins)) (lowest_from k (i + 1) (run_end next (record_at t i)) (omega arith) (more i next h wanted few begins st)))
      (λ wrongly. subst (LowestWrong t s) (sym (wrong_here t i next h (inr (inr wrongly)))) (record { holds = inl (h, ap (λ n. begins_at n (record_at t i)) (sym st.reach) ∙ wrongly); none_below = st.right }))
      (cases_Bool (begins_at next (record_at t i))))
      (λ many. subst (LowestWrong t s) (sym (wrong_here t i next h (inr (inl many)))) (record { holds = inr (inr (inr (omega (arith, st.few), inl h))); none_below = st.right }))
      (cases_lt i max_records))
      (λ past. subst (LowestWrong t s) (sym (wrong_here t i next h (inl past)))
      (record {
        holds = inr (inl (h, ⊎_elim (λ column. let l = st.below i (inl column) in absurd (omega arith)) (λ high. high) (cases_lt i s), (λ w. let l = st.below i (inr w) in omega arith)));
        none_below = st.right;
      }))
      (cases_lt i next)

  pub lowest_wrong : LowestWrong t s (wrong_record t s)
  lowest_wrong =
      lowest_from (length t) 0 s (omega arith)
      (record {
        right = λ k l w. omega arith;
        reach = refl;
        covered = λ m l. inl l;
        below = λ m. ⊎_elim (λ l. l) (λ w. absurd (omega (arith, w.1.0)));
        few = omega arith;
      })
