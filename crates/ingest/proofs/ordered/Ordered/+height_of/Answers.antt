use Rattle.std.proofs.Common.{◌≡◌, ◌+◌, ◌^◌, ◌<◌, ◌≤◌, length, take, drop, sum, Ok, Err, sym, refl, ap, ◌∙◌, subst, ⊎_elim, arith}
use Rattle.std.specs.Option.{SomeIff, ok_or}
use Rattle.std.proofs.lemmas.Bool.{cases_lt}
use Rattle.std.proofs.lemmas.Result.{err_from_is_err_and}
use Rattle.ingest.specs.declared.fault.JaggedIngestError.TheVariants.{ColumnHeightOverflow}
use Rattle.ingest.specs.Table.{leaf_height, heights_of, height_of}
use Rattle.ingest.proofs.Tall.{height_chunk, height_leaf, part_le, sum_more}
use Rattle.ingest.proofs.Told.{fitting_ok}
use Rattle.ingest.proofs.Walks.{entry_is, fits, refused_too, too_much}
use Rattle.ingest.proofs.ordered.Ordered.+height_of.Goals as goal
use Rattle.ingest.proofs.ordered.Ordered.+height_of.Goals.{in-Chunked-entry+in_ok-rows-in-Chunked-entry, in_default-entry}

pub returns-in_err-rows-in-Chunked-entry : goal.returns-in_err-rows-in-Chunked-entry
returns-in_err-rows-in-Chunked-entry t c =
    let recs = c.args.self.now.records.now in
    let s = c.args.self.now.sound c.args.record c.in-Chunked.from c.in-Chunked.count c.requires c.in-Chunked.is in
    let whole = height_chunk recs c.args.record _ _ c.requires c.in-Chunked.is s.0 in
    let k = c.loop-part.part in
    let p = c.in-Chunked.from + k in
    let le = part_le recs c.in-Chunked.from k p refl (omega (arith, s.1)) c.args.record c.in-Chunked.count whole (omega arith) in
    let q = err_from_is_err_and c.from_residual.result c.from_residual.ensures.1 in
    q.1 ∙ ap Err q.2 ∙ refused_too (ColumnHeightOverflow c.args.column) _ (height_of recs p) (height_of recs c.args.record) (sym c.height_of.ensures ∙ c.in_err-rows-in-Chunked-entry.was) (omega (arith, le))

pub returns-in_err-total-in-Chunked : goal.returns-in_err-total-in-Chunked
returns-in_err-total-in-Chunked t c =
    let recs = c.args.self.now.records.now in
    let s = c.args.self.now.sound c.args.record c.in-Chunked.from c.in-Chunked.count c.requires c.in-Chunked.is in
    let whole = height_chunk recs c.args.record _ _ c.requires c.in-Chunked.is s.0 in
    let k = c.loop-part.part in
    let p = c.in-Chunked.from + k in
    let here : p < length recs = omega (arith, s.1) in
    let le = part_le recs c.in-Chunked.from k p refl here c.args.record c.in-Chunked.count whole (omega arith) in
    let e = entry_is recs c.in-Chunked.from c.in-Chunked.count k p refl (omega arith) in
    let told : c.match-entry.rows ≡ height_of recs p =
    elim c.match-entry.branch [
      | in-Chunked-entry+in_ok-rows-in-Chunked-entry w ↦ w.rows-is ∙ (fitting_ok (ColumnHeightOverflow c.args.column) (height_of recs p) _ (sym w.height_of.ensures ∙ w.in_ok-rows-in-Chunked-entry.was)).1
      | in_default-entry w ↦ w.rows-is ∙ w.own_height-rows.ensures ∙ ap leaf_height e ∙ sym (height_leaf recs p here (λ f n x. w.in_default-entry.not-Chunked f n (e ∙ x)))
    ] in
    let none = c.in_err-total-in-Chunked.ensures in
    let fault = ColumnHeightOverflow c.args.column in
    let over = subst (λ o. SomeIff o (c.loop-part.total + c.match-entry.rows < 2 ^ 64) (c.loop-part.total + c.match-entry.rows)) none.ok_part c.checked_add.ensures in
    let high : 2 ^ 64 ≤ height_of recs c.args.record = ⊎_elim (λ low. absurd (over (omega (arith, low, le, told, c.loop-part.invariant.1)))) (λ high. high) (cases_lt (height_of recs c.args.record) (2 ^ 64)) in
    let q = err_from_is_err_and c.from_residual-in_err-total-in-Chunked.result c.from_residual-in_err-total-in-Chunked.ensures.1 in
    q.1 ∙ ap Err q.2 ∙ none.value ∙ ap (λ o. ok_or o fault) none.ok_part ∙ sym (too_much fault (height_of recs c.args.record) high)

pub loop-part-preserved : goal.loop-part-preserved
loop-part-preserved t c =
    let recs = c.args.self.now.records.now in
    let s = c.args.self.now.sound c.args.record c.in-Chunked.from c.in-Chunked.count c.requires c.in-Chunked.is in
    let k = c.loop-part.part in
    let p = c.in-Chunked.from + k in
    let here : p < length recs = omega (arith, s.1) in
    let more = sum_more recs c.in-Chunked.from k p refl here in
    let e = entry_is recs c.in-Chunked.from c.in-Chunked.count k p refl (omega arith) in
    let told : c.match-entry.rows ≡ height_of recs p =
    elim c.match-entry.branch [
      | in-Chunked-entry+in_ok-rows-in-Chunked-entry w ↦ w.rows-is ∙ (fitting_ok (ColumnHeightOverflow c.args.column) (height_of recs p) _ (sym w.height_of.ensures ∙ w.in_ok-rows-in-Chunked-entry.was)).1
      | in_default-entry w ↦ w.rows-is ∙ w.own_height-rows.ensures ∙ ap leaf_height e ∙ sym (height_leaf recs p here (λ f n x. w.in_default-entry.not-Chunked f n (e ∙ x)))
    ] in
    let sum_is = subst (λ o. SomeIff o (c.loop-part.total + c.match-entry.rows < 2 ^ 64) (c.loop-part.total + c.match-entry.rows)) c.in_ok-total-in-Chunked.ensures.ok_part c.checked_add.ensures in
    (omega (arith, sum_is.0, sum_is.1), omega (arith, sum_is.1, told, c.loop-part.invariant.1, more))

pub returns-after-loop-part : goal.returns-after-loop-part
returns-after-loop-part t c =
    let recs = c.args.self.now.records.now in
    let s = c.args.self.now.sound c.args.record c.in-Chunked.from c.in-Chunked.count c.requires c.in-Chunked.is in
    let whole = height_chunk recs c.args.record _ _ c.requires c.in-Chunked.is s.0 in
    let end : c.loop-part.part ≡ c.in-Chunked.count = omega (arith, s.1) in
    let same = c.loop-part.invariant.1 ∙ ap (λ n. sum (take n (drop c.in-Chunked.from (heights_of recs)))) end ∙ sym whole in
    sym (fits (ColumnHeightOverflow c.args.column) (height_of recs c.args.record) (omega (arith, same, c.loop-part.invariant.0)) ∙ ap Ok (sym same))

pub returns-in_default : goal.returns-in_default
returns-in_default t c =
    let recs = c.args.self.now.records.now in
    let same = c.own_height.ensures ∙ sym (height_leaf recs c.args.record c.requires c.in_default.not-Chunked) in
    sym (fits (ColumnHeightOverflow c.args.column) (height_of recs c.args.record) (omega (arith, same)) ∙ ap Ok (sym same))
