-- A chunk's height, part by part, and passes by the leaves of a record. Assumes nothing.
use Rattle.std.proofs.Common.{◌≡◌, ℕ, zero, suc, ◌+◌, ◌<◌, ◌≤◌, max, ltb, List, [], ◌∷◌, length, take, drop, fold, sum, sym, refl, ap, ◌∙◌, ⊎_elim, arith}
use Rattle.std.proofs.lemmas.Bool.{cond-true, cond-false, lt-ltb, le-ltb, cases_lt}
use Rattle.std.proofs.lemmas.List.{get_or-drop, length-drop, take-take}
use Rattle.std.proofs.lemmas.List.Sums.{fold_more, sum_by-take-le}
use Rattle.ingest.specs.declared.record.ConversionPass.{ConversionPass}
use Rattle.ingest.specs.declared.record.ConversionPass.TheVariants.{Shared, Copied, Gathered, Widened}
use Rattle.ingest.specs.declared.record.Record.{Record}
use Rattle.ingest.specs.declared.record.Record.TheVariants.{Chunked}
use Rattle.ingest.specs.Order.{record_at}
use Rattle.ingest.specs.Passes.{rank_of, higher_of}
use Rattle.ingest.specs.Table.{Sound, leaf_height, heights_of, height_of, leaf_pass, passes_of, pass_of, leaves_at}
use Rattle.ingest.proofs.Parts.{pass_converted}
use Rattle.ingest.proofs.Related.{folded}
use Rattle.ingest.proofs.Yields.{length-yields, yield_leaf, yield_chunk}

pub heights_long : (t : List Record) → length (heights_of t) ≡ length t
unfolding heights_of
heights_long t = length-yields (λ _ r. leaf_height r) sum 0 t

module _ (t : List Record) where
  pub height_leaf : (i : ℕ) → i < length t → ((from count : ℕ) → record_at t i ≡ Chunked from count → ⊥) → height_of t i ≡ leaf_height (record_at t i)
  unfolding heights_of
  height_leaf i h no_Chunk = yield_leaf (λ _ r. leaf_height r) sum t i 0 h no_Chunk

  pub height_chunk : (i from count : ℕ) → i < length t → record_at t i ≡ Chunked from count → i < from → height_of t i ≡ sum (take count (drop from (heights_of t)))
  unfolding heights_of
  height_chunk i from count h e later = yield_chunk (λ _ r. leaf_height r) sum t i 0 h from count e later

  -- part k of a run, and those before it
  module _ (from k p : ℕ) (at : from + k ≡ p) (h : p < length t) where
    pub sum_more : sum (take (k + 1) (drop from (heights_of t))) ≡ sum (take k (drop from (heights_of t))) + height_of t p
    sum_more =
        fold_more (λ a x. a + x) 0 (drop from (heights_of t)) k 0 (omega (arith, length-drop from (heights_of t), heights_long t))
        ∙ ap (λ x. sum (take k (drop from (heights_of t))) + x) (get_or-drop from (heights_of t) k 0 ∙ ap (height_of t) at)

    -- they have no more rows than the chunk
    pub part_le : (i count : ℕ) → height_of t i ≡ sum (take count (drop from (heights_of t))) → k < count → sum (take k (drop from (heights_of t))) + height_of t p ≤ height_of t i
    part_le i count e below =
        let run = take count (drop from (heights_of t)) in
        omega (arith, sum_more, sum_by-take-le (λ x. x) run (k + 1), ap sum (take-take (k + 1) count (drop from (heights_of t)) (omega arith)))

pass_at_rank : ℕ → ConversionPass
pass_at_rank zero = Shared
pass_at_rank (suc zero) = Copied
pass_at_rank (suc (suc zero)) = Gathered
pass_at_rank (suc (suc (suc n))) = Widened

same_pass : (p : ConversionPass) → pass_at_rank (rank_of p) ≡ p
unfolding pass_at_rank
same_pass Shared = refl
same_pass Copied = refl
same_pass Gathered = refl
same_pass Widened = refl

by_rank : (p q : ConversionPass) → rank_of p ≡ rank_of q → p ≡ q
by_rank p q e = sym (same_pass p) ∙ ap pass_at_rank e ∙ same_pass q

higher_rank : (p q : ConversionPass) → rank_of (higher_of p q) ≡ max (rank_of p) (rank_of q)
higher_rank p q =
    ⊎_elim
    (λ lower. omega (arith, ap rank_of (cond-true (ltb (rank_of p) (rank_of q)) q p (lt-ltb (rank_of p) (rank_of q) lower))))
    (λ other. omega (arith, ap rank_of (cond-false (ltb (rank_of p) (rank_of q)) q p (le-ltb (rank_of p) (rank_of q) other))))
    (cases_lt (rank_of p) (rank_of q))

higher_assoc : (p q r : ConversionPass) → higher_of p (higher_of q r) ≡ higher_of (higher_of p q) r
higher_assoc p q r =
    by_rank (higher_of p (higher_of q r)) (higher_of (higher_of p q) r)
    (omega (arith, higher_rank p (higher_of q r), higher_rank q r, higher_rank (higher_of p q) r, higher_rank p q))

highest_joins : (p q : ConversionPass) (xs : List ConversionPass) → higher_of p (fold higher_of q xs) ≡ fold higher_of (higher_of p q) xs
highest_joins p q [] = refl
highest_joins p q (x ∷ xs) = highest_joins p (higher_of q x) xs ∙ ap (λ b. fold higher_of b xs) (higher_assoc p q x)

-- none of these is shared
abbrev Converted : ConversionPass → Type 0
Converted p = 1 ≤ rank_of p

copied_least : (p : ConversionPass) → Converted p → higher_of p Copied ≡ p
copied_least p h = by_rank (higher_of p Copied) p (omega (arith, higher_rank p Copied))

pub pass_by_leaves : (t : List Record) → Sound t → (i : ℕ) → i < length t → fold (λ b n. higher_of b (leaf_pass (record_at t n))) Copied (leaves_at t i) ≡ pass_of t i
unfolding passes_of
pass_by_leaves t sound i h =
    let low = pass_converted t sound i h in
    folded higher_of Copied Converted leaf_pass
    (λ p q c. omega (arith, higher_rank p q))
    (λ p xs c. highest_joins p Copied xs ∙ ap (λ b. fold higher_of b xs) (copied_least p c))
    t i Copied (omega arith)
    ∙ by_rank (higher_of Copied (pass_of t i)) (pass_of t i) (omega (arith, higher_rank Copied (pass_of t i)))
