use Rattle.std.proofs.Common.{ℕ, ◌^◌, List, [], ◌∷◌, ◌++◌, length, Err, sym, ap, ◌∙◌, arith}
use Rattle.std.proofs.lemmas.Result.{err_from_is_err_and}
use Rattle.std.proofs.lemmas.Bool.{cond-true, cond-false, leb-false, lt-ltb, le-ltb}
use Rattle.ring.specs.Checks.{Check, verdict}
use Rattle.ring.proofs.Verdicts.{passed-at, passed_from_ok, verdict-passed, verdict_refused}
use Rattle.ingest.specs.declared.fault.JaggedIngestError.{JaggedIngestError}
use Rattle.ingest.specs.Asked.{overflow_check, overflow_checks, room_check}
use Rattle.ingest.specs.Table.{height_of}
use Rattle.ingest.proofs.Orders.{order_goes}
use Rattle.ingest.proofs.Told.{in_order}
use Rattle.ingest.proofs.table.heights.Goals as goal

pub returns-in_err-check_heights-clause-answer : goal.returns-in_err-check_heights-clause-answer
returns-in_err-check_heights-clause-answer c =
    let t = c.args.table.now in
    let s = c.args.sources in
    let b = length c.args.out.now in
    let same = c.in_ok-ordered.ensures.same in
    let goes = order_goes t s (overflow_checks t s ++ (room_check s b ∷ [])) s (in_order t s c.check.result c.in_ok-ordered.ordered c.check.ensures.answer c.in_ok-ordered.was) in
    let told = ap (λ r. verdict (overflow_checks r s) tt) (sym same.0) ∙ ap (λ n. verdict (overflow_checks c.in_ok-ordered.ordered.records.now n) tt) (sym same.1) ∙ sym c.check_heights.ensures in
    let q = err_from_is_err_and c.from_residual-in_err-check_heights.result c.from_residual-in_err-check_heights.ensures.1 in
    q.1 ∙ ap Err q.2 ∙ sym (goes ∙ verdict_refused (overflow_checks t s) (room_check s b ∷ []) s tt _ (told ∙ c.in_err-check_heights.was))

pub returns-then-out-sources-clause-answer : goal.returns-then-out-sources-clause-answer
returns-then-out-sources-clause-answer c =
    let t = c.args.table.now in
    let s = c.args.sources in
    let b = length c.args.out.now in
    let same = c.in_ok-ordered.ensures.same in
    let goes = order_goes t s (overflow_checks t s ++ (room_check s b ∷ [])) s (in_order t s c.check.result c.in_ok-ordered.ordered c.check.ensures.answer c.in_ok-ordered.was) in
    let told = ap (λ r. verdict (overflow_checks r s) tt) (sym same.0) ∙ ap (λ n. verdict (overflow_checks c.in_ok-ordered.ordered.records.now n) tt) (sym same.1) ∙ sym c.check_heights.ensures in
    let passed = passed_from_ok (overflow_checks t s) tt _ (told ∙ c.in_ok-check_heights.was) in
    sym (goes ∙ verdict-passed (overflow_checks t s) (room_check s b ∷ []) s passed ∙ cond-true _ _ _ (lt-ltb b s (omega arith)))

pub put_heights-requires-clause-fit : goal.put_heights-requires-clause-fit
put_heights-requires-clause-fit c =
    let t = c.in_ok-ordered.ordered.records.now in
    let s = c.in_ok-ordered.ordered.sources in
    let passed = passed_from_ok (overflow_checks t s) tt _ (sym c.check_heights.ensures ∙ c.in_ok-check_heights.was) in
    let f : ℕ → List (Check JaggedIngestError) = λ y. overflow_check t y ∷ [] in
    (λ y l. leb-false (2 ^ 64) (height_of t y) (passed-at f s y l passed).0)

pub returns-clause-answer : goal.returns-clause-answer
returns-clause-answer c =
    let t = c.args.table.now in
    let s = c.args.sources in
    let b = length c.args.out.now in
    let same = c.in_ok-ordered.ensures.same in
    let goes = order_goes t s (overflow_checks t s ++ (room_check s b ∷ [])) s (in_order t s c.check.result c.in_ok-ordered.ordered c.check.ensures.answer c.in_ok-ordered.was) in
    let told = ap (λ r. verdict (overflow_checks r s) tt) (sym same.0) ∙ ap (λ n. verdict (overflow_checks c.in_ok-ordered.ordered.records.now n) tt) (sym same.1) ∙ sym c.check_heights.ensures in
    let passed = passed_from_ok (overflow_checks t s) tt _ (told ∙ c.in_ok-check_heights.was) in
    sym (goes ∙ verdict-passed (overflow_checks t s) (room_check s b ∷ []) s passed ∙ cond-false _ _ _ (le-ltb b s (omega arith)))
