use Rattle.std.proofs.Common.{◌≡◌, ℕ, List, [], ◌∷◌, Err, sym, ap, ◌∙◌, subst, arith}
use Rattle.std.proofs.lemmas.Result.{err_from_is_err_and}
use Rattle.ring.specs.Checks.{Check, Passed}
use Rattle.ring.proofs.Verdicts.{fails-at, passed_from_ok, passed_more, verdict_all}
use Rattle.ingest.specs.declared.fault.JaggedIngestError.{JaggedIngestError}
use Rattle.ingest.specs.Asked.{overflow_check, overflow_checks}
use Rattle.ingest.specs.Table.{height_of}
use Rattle.ingest.proofs.ordered.Ordered.check_heights.Goals as goal

pub returns-in_err-height_of : goal.returns-in_err-height_of
returns-in_err-height_of c =
    let t = c.args.self.now.records.now in
    let i = c.loop-column.column in
    let f : ℕ → List (Check JaggedIngestError) = λ y. overflow_check t y ∷ [] in
    let q = err_from_is_err_and c.from_residual.result c.from_residual.ensures.1 in
    q.1 ∙ ap Err q.2 ∙ sym (fails-at f c.args.self.now.sources i tt (height_of t i) _ (omega arith) c.loop-column.invariant (sym c.height_of.ensures ∙ c.in_err-height_of.was))

pub loop-column-preserved : goal.loop-column-preserved
loop-column-preserved c =
    let t = c.args.self.now.records.now in
    let i = c.loop-column.column in
    let f : ℕ → List (Check JaggedIngestError) = λ y. overflow_check t y ∷ [] in
    passed_more f i c.loop-column.invariant (passed_from_ok (f i) (height_of t i) _ (sym c.height_of.ensures ∙ c.in_ok-height_of.was))

pub returns : goal.returns
returns c =
    let t = c.args.self.now.records.now in
    let end : c.loop-column.column ≡ c.args.self.now.sources = omega arith in
    sym (verdict_all (overflow_checks t c.args.self.now.sources) tt (subst (λ n. Passed (overflow_checks t n)) end c.loop-column.invariant))
