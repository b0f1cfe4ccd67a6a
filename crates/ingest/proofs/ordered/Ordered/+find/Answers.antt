use Rattle.std.proofs.Common.{◌≡◌, ◌+◌, ◌<◌, ◌++◌, length, sym, refl, ap, ◌∙◌, arith}
use Rattle.std.proofs.lemmas.List.{append_assoc, length-append}
use Rattle.ingest.specs.Found.{found}
use Rattle.ingest.specs.Table.{leaves_of, leaves_at}
use Rattle.ingest.specs.Walks.{run_of}
use Rattle.ingest.proofs.Walks.{entry_is}
use Rattle.ingest.proofs.Yields.{leaves_leaf, leaves_chunk, leaves_long, run_le, run_more}
use Rattle.ingest.proofs.ordered.Ordered.+find.Goals as goal
use Rattle.ingest.proofs.ordered.Ordered.+find.Goals.{in-Chunked-entry, in_default-entry}

pub find-requires : goal.find-requires
find-requires t c =
    let recs = c.args.self.now.records.now in
    let s = c.args.self.now.sound c.args.record c.in-Chunked.from c.in-Chunked.count c.requires.within c.in-Chunked.is in
    let whole = leaves_chunk recs c.args.record _ _ c.requires.within c.in-Chunked.is s.0 in
    let k = c.loop-part.part in
    let p = c.in-Chunked.from + k in
    let le = run_le (leaves_of recs) c.in-Chunked.from c.in-Chunked.count k p refl (omega arith) (omega (arith, leaves_long recs, s.1)) in
    let so_far = ap length c.loop-part.invariant ∙ length-append (found c.args.leaves.now) (run_of (leaves_of recs) c.in-Chunked.from k) in
    (omega (arith, c.decreases), (omega arith, omega (arith, c.requires.room, ap length whole)))

pub put-requires : goal.put-requires
put-requires t c =
    let recs = c.args.self.now.records.now in
    let s = c.args.self.now.sound c.args.record c.in-Chunked.from c.in-Chunked.count c.requires.within c.in-Chunked.is in
    let whole = leaves_chunk recs c.args.record _ _ c.requires.within c.in-Chunked.is s.0 in
    let k = c.loop-part.part in
    let p = c.in-Chunked.from + k in
    let e = entry_is recs c.in-Chunked.from c.in-Chunked.count k p refl (omega arith) in
    let le = run_le (leaves_of recs) c.in-Chunked.from c.in-Chunked.count k p refl (omega arith) (omega (arith, leaves_long recs, s.1)) in
    let so_far = ap length c.loop-part.invariant ∙ length-append (found c.args.leaves.now) (run_of (leaves_of recs) c.in-Chunked.from k) in
    let one = ap length (leaves_leaf recs p (omega (arith, s.1)) (λ f n w. c.in_default-entry.not-Chunked f n (e ∙ w))) in
    omega (arith, c.requires.room, ap length whole)

pub put-requires-in_default : goal.put-requires-in_default
put-requires-in_default t c =
    let one = ap length (leaves_leaf c.args.self.now.records.now c.args.record c.requires.within c.in_default.not-Chunked) in
    omega (arith, c.requires.room)

pub loop-part-preserved : goal.loop-part-preserved
loop-part-preserved t c =
    let recs = c.args.self.now.records.now in
    let s = c.args.self.now.sound c.args.record c.in-Chunked.from c.in-Chunked.count c.requires.within c.in-Chunked.is in
    let k = c.loop-part.part in
    let p = c.in-Chunked.from + k in
    let here : p < length recs = omega (arith, s.1) in
    let e = entry_is recs c.in-Chunked.from c.in-Chunked.count k p refl (omega arith) in
    let before = run_of (leaves_of recs) c.in-Chunked.from k in
    let more : found c.match-entry.leaves ≡ found c.loop-part.leaves ++ leaves_at recs p =
    elim c.match-entry.branch [
      | in-Chunked-entry w ↦ ap found w.leaves-is ∙ w.find.ensures
      | in_default-entry w ↦ ap found w.leaves-is ∙ w.put.ensures ∙ ap (λ l. found c.loop-part.leaves ++ l) (sym (leaves_leaf recs p here (λ f n x. w.in_default-entry.not-Chunked f n (e ∙ x))))
    ] in
    more ∙ ap (λ l. l ++ leaves_at recs p) c.loop-part.invariant
    ∙ append_assoc (found c.args.leaves.now) before (leaves_at recs p)
    ∙ ap (λ l. found c.args.leaves.now ++ l) (sym (run_more (leaves_of recs) c.in-Chunked.from k p refl (omega (arith, leaves_long recs, s.1))))

pub returns-after-loop-part : goal.returns-after-loop-part
returns-after-loop-part t c =
    let recs = c.args.self.now.records.now in
    let s = c.args.self.now.sound c.args.record c.in-Chunked.from c.in-Chunked.count c.requires.within c.in-Chunked.is in
    let whole = leaves_chunk recs c.args.record _ _ c.requires.within c.in-Chunked.is s.0 in
    let end : c.loop-part.part ≡ c.in-Chunked.count = omega (arith, s.1) in
    c.loop-part.invariant ∙ ap (λ n. found c.args.leaves.now ++ run_of (leaves_of recs) c.in-Chunked.from n) end ∙ ap (λ l. found c.args.leaves.now ++ l) (sym whole)

pub returns-in_default : goal.returns-in_default
returns-in_default t c =
    c.put-in_default.ensures
    ∙ ap (λ l. found c.args.leaves.now ++ l) (sym (leaves_leaf c.args.self.now.records.now c.args.record c.requires.within c.in_default.not-Chunked))
