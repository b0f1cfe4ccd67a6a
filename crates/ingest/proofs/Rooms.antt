-- How many leaves a table can have. Assumes nothing.
use Rattle.std.proofs.Common.{◌≡◌, ℕ, zero, suc, ◌+◌, ◌-◌, ◌<◌, ◌≤◌, List, [], length, take, drop, None, sym, refl, ap, ◌∙◌, subst, arith, take-add}
use Rattle.std.proofs.lemmas.Grind.{flat_map-append}
use Rattle.std.proofs.lemmas.List.{drop-drop, drop_more, length-append}
use Rattle.ingest.specs.declared.record.Record.{Record}
use Rattle.ingest.specs.declared.record.Record.TheVariants.{Dense, Interleaved, Bits, Chunked}
use Rattle.ingest.specs.Order.{max_records, record_at, run_end, wrong_from, wrong_record}
use Rattle.ingest.specs.Table.{flat, leaves_of, leaves_at}
use Rattle.ingest.specs.Walks.{run_of}
use Rattle.ingest.proofs.Orders.{passed, begins_chunk, next_grows, reached}
use Rattle.ingest.proofs.Yields.{leaves_long, leaves_leaf, leaves_chunk}

leaf_chunk : {a b c d : ℕ} → Dense a b ≡ Chunked c d → ⊥
leaf_chunk e = let z : ◌≡◌ {A = ℕ} 0 1 = cc in omega arith

strided_chunk : {a b c d e f g : ℕ} → Interleaved a b c d e ≡ Chunked f g → ⊥
strided_chunk e = let z : ◌≡◌ {A = ℕ} 0 1 = cc in omega arith

bits_chunk : {a b c d e : ℕ} → Bits a b c ≡ Chunked d e → ⊥
bits_chunk e = let z : ◌≡◌ {A = ℕ} 0 1 = cc in omega arith

module _ (t : List Record) where
  few_from : (k i next : ℕ) → i + k ≡ length t → i ≤ max_records → wrong_from i next (drop i t) ≡ None → length t ≤ max_records
  few_from zero i next e few none = omega arith
  few_from (suc k) i next e few none =
      let p = passed t i next (omega arith) none in
      few_from k (i + 1) (run_end next (record_at t i)) (omega arith) (omega (arith, p.1)) p.3

  few_records : (sources : ℕ) → wrong_record t sources ≡ None → length t ≤ max_records
  few_records sources none = few_from (length t) 0 sources (omega arith) (omega arith) none

  -- record i, where it is wanted, and the records wanted after it
  window : (i next : ℕ) → i < next → i < length t → length (run_of (leaves_of t) i (next - i)) ≡ length (leaves_at t i) + length (run_of (leaves_of t) (i + 1) (next - (i + 1)))
  window i next wanted h =
      let e : next - i ≡ suc (next - (i + 1)) = omega arith in
      ap (λ n. length (run_of (leaves_of t) i n)) e
      ∙ ap (λ l. length (flat (take (suc (next - (i + 1))) l))) (drop_more (leaves_of t) i [] (omega (arith, leaves_long t)))
      ∙ length-append (leaves_at t i) (run_of (leaves_of t) (i + 1) (next - (i + 1)))

  -- a chunk's leaves are those of the records that it makes wanted
  widened : (i next count : ℕ) → i < next → length (run_of (leaves_of t) (i + 1) (next + count - (i + 1))) ≡ length (run_of (leaves_of t) (i + 1) (next - (i + 1))) + length (run_of (leaves_of t) next count)
  widened i next count wanted =
      let zs = drop (i + 1) (leaves_of t) in
      let a = next - (i + 1) in
      let e : next + count - (i + 1) ≡ a + count = omega arith in
      let back : (i + 1) + a ≡ next = omega arith in
      ap (λ n. length (flat (take n zs))) e
      ∙ ap (λ l. length (flat l)) (take-add a count zs)
      ∙ ap length (flat_map-append (λ part. part) (take a zs) (take count (drop a zs)))
      ∙ length-append (flat (take a zs)) (flat (take count (drop a zs)))
      ∙ ap (λ l. length (flat (take a zs)) + length (flat (take count l))) (drop-drop a (i + 1) (leaves_of t) ∙ ap (λ n. drop n (leaves_of t)) back)

  one_record : (k i next : ℕ) → i < next → i < length t → (r : Record) → record_at t i ≡ r → ((from count : ℕ) → r ≡ Chunked from count → from ≡ next) → length (run_of (leaves_of t) (i + 1) (run_end next r - (i + 1))) ≤ k → length (run_of (leaves_of t) i (next - i)) ≤ k + 1
  one_record k i next wanted h (Dense place height) e begins later = omega (arith, window i next wanted h, ap length (leaves_leaf t i h (λ f c w. leaf_chunk (sym e ∙ w))))
  one_record k i next wanted h (Interleaved place len first stride height) e begins later = omega (arith, window i next wanted h, ap length (leaves_leaf t i h (λ f c w. strided_chunk (sym e ∙ w))))
  one_record k i next wanted h (Bits place words height) e begins later = omega (arith, window i next wanted h, ap length (leaves_leaf t i h (λ f c w. bits_chunk (sym e ∙ w))))
  one_record k i next wanted h (Chunked from count) e begins later =
      let same = begins from count refl in
      let run = leaves_chunk t i from count h e (omega arith) ∙ ap (λ n. run_of (leaves_of t) n count) same in
      let later2 : length (run_of (leaves_of t) (i + 1) (next + count - (i + 1))) ≤ k = subst (λ n. length (run_of (leaves_of t) (i + 1) (n + count - (i + 1))) ≤ k) same later in
      omega (arith, window i next wanted h, widened i next count wanted, ap length run)

  room_from : (k i next : ℕ) → i + k ≡ length t → i ≤ next → wrong_from i next (drop i t) ≡ None → length (run_of (leaves_of t) i (next - i)) ≤ k
  room_from zero i next e low none =
      let All-there = reached t zero i next e none in
      let z : next - i ≡ 0 = omega arith in
      subst (λ n. length (run_of (leaves_of t) i n) ≤ 0) (sym z) (omega arith)
  room_from (suc k) i next e low none =
      let p = passed t i next (omega arith) none in
      let grows = next_grows t next (record_at t i) p.2 in
      let later = room_from k (i + 1) (run_end next (record_at t i)) (omega arith) (omega (arith, p.0)) p.3 in
      omega (arith, one_record k i next p.0 (omega arith) (record_at t i) refl (λ from count chunk. (begins_chunk t next i from count chunk p.2).0) later)

  -- a table in order has no more leaves than records
  pub leaves_fit : (sources : ℕ) → wrong_record t sources ≡ None → length (run_of (leaves_of t) 0 sources) ≤ max_records
  leaves_fit sources none =
      let e : sources - 0 ≡ sources = omega arith in
      omega (arith, few_records sources none, room_from (length t) 0 sources (omega arith) (omega arith) none, ap (λ n. length (run_of (leaves_of t) 0 n)) e)
