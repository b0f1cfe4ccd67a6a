use Rattle.std.proofs.Common.{◌+◌, ◌<◌, Ok, Err, sym, refl, ap, ◌∙◌, subst, arith}
use Rattle.std.proofs.lemmas.Result.{err_from_is_err_and}
use Rattle.ingest.specs.Walks.{Tries}
use Rattle.ingest.proofs.Walks.{entry_is, leaf_step, part_done, part_refused}
use Rattle.ingest.proofs.Yields.{leaves_chunk}
use Rattle.ingest.proofs.ordered.Ordered.+try_fold.Goals as goal
use Rattle.ingest.proofs.ordered.Ordered.+try_fold.Goals.{in-Chunked+in_ok-folded-in-Chunked, in_default+in_ok-folded-in_default}

pub returns-in_err-folded-in-Chunked : goal.returns-in_err-folded-in-Chunked
returns-in_err-folded-in-Chunked g t c =
    let recs = c.args.self.now.records.now in
    let k = c.loop-part.part in
    let p = c.args.from + k in
    let h : k < c.args.count = omega arith in
    let e = sym (entry_is recs c.args.from c.args.count k p refl h) ∙ c.in-Chunked.is in
    let s = c.args.self.now.sound p c.in-Chunked.from c.in-Chunked.count (omega arith) e in
    let here = subst (λ ns. Tries (goal.F-post g c.args.step.now) recs c.loop-part.folded ns c.try_fold.result) (sym (leaves_chunk recs p c.in-Chunked.from c.in-Chunked.count (omega arith) e s.0)) c.try_fold.ensures.tried in
    let q = err_from_is_err_and c.from_residual.result c.from_residual.ensures.1 in
    record { tried = part_refused (goal.F-post g c.args.step.now) recs c.args.start c.loop-part.folded c.args.from k p refl c.args.count _ c.try_fold.result c.from_residual.result h c.requires.within c.loop-part.invariant here c.in_err-folded-in-Chunked.was (q.1 ∙ ap Err q.2) }

pub returns-in_err-folded-in_default : goal.returns-in_err-folded-in_default
returns-in_err-folded-in_default g t c =
    let recs = c.args.self.now.records.now in
    let k = c.loop-part.part in
    let p = c.args.from + k in
    let h : k < c.args.count = omega arith in
    let e = entry_is recs c.args.from c.args.count k p refl h in
    let taken = subst (λ r. goal.F-post g c.args.step.now c.loop-part.folded p r c.step.result) e c.step.ensures in
    let here = leaf_step (goal.F-post g c.args.step.now) recs c.args.start c.loop-part.folded c.args.from k p refl c.step.result (omega arith) (λ f n w. c.in_default.not-Chunked f n (e ∙ w)) taken in
    let q = err_from_is_err_and c.from_residual-in_err-folded-in_default.result c.from_residual-in_err-folded-in_default.ensures.1 in
    record { tried = part_refused (goal.F-post g c.args.step.now) recs c.args.start c.loop-part.folded c.args.from k p refl c.args.count _ c.step.result c.from_residual-in_err-folded-in_default.result h c.requires.within c.loop-part.invariant here c.in_err-folded-in_default.was (q.1 ∙ ap Err q.2) }

pub loop-part-preserved : goal.loop-part-preserved
loop-part-preserved g t c =
    let recs = c.args.self.now.records.now in
    let k = c.loop-part.part in
    let p = c.args.from + k in
    let h : k < c.args.count = omega arith in
    let e = entry_is recs c.args.from c.args.count k p refl h in
    elim c.match-entry.branch [
      | in-Chunked+in_ok-folded-in-Chunked w ↦
          let chunk = sym e ∙ w.in-Chunked.is in
          let s = c.args.self.now.sound p w.in-Chunked.from w.in-Chunked.count (omega arith) chunk in
          let here = subst (λ ns. Tries (goal.F-post g c.args.step.now) recs c.loop-part.folded ns w.try_fold.result) (sym (leaves_chunk recs p w.in-Chunked.from w.in-Chunked.count (omega arith) chunk s.0)) w.try_fold.ensures.tried in
          part_done (goal.F-post g c.args.step.now) recs c.args.start c.loop-part.folded c.args.from k p refl c.match-entry.folded w.try_fold.result (omega arith) c.loop-part.invariant here (w.in_ok-folded-in-Chunked.was ∙ ap Ok (sym w.folded-is))
      | in_default+in_ok-folded-in_default w ↦
          let taken = subst (λ r. goal.F-post g c.args.step.now c.loop-part.folded p r w.step.result) e w.step.ensures in
          let here = leaf_step (goal.F-post g c.args.step.now) recs c.args.start c.loop-part.folded c.args.from k p refl w.step.result (omega arith) (λ f n x. w.in_default.not-Chunked f n (e ∙ x)) taken in
          part_done (goal.F-post g c.args.step.now) recs c.args.start c.loop-part.folded c.args.from k p refl c.match-entry.folded w.step.result (omega arith) c.loop-part.invariant here (w.in_ok-folded-in_default.was ∙ ap Ok (sym w.folded-is))
    ]
