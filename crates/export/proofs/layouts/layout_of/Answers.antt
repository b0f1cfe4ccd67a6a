use Rattle.std.proofs.Common.{Ok, sym, ap, ◌∙◌, rules}
use Rattle.layout.specs.Plan.{checks, planned}
use Rattle.ring.proofs.Verdicts.{verdict_err}
use Rattle.export.proofs.Verdicts.{accepted}
use Rattle.export.proofs.layouts.layout_of.Goals as goal

pub returns-in_err-new-clause-made : goal.returns-in_err-new-clause-made
returns-in_err-new-clause-made c =
    let asked = checks c.args.row_variables c.args.heights.now 0 in
    let told = verdict_err asked (planned c.args.row_variables c.args.heights.now 0) _ _ (sym c.in_err-new.ensures.answer) in
    search rules

pub returns-clause-made : goal.returns-clause-made
returns-clause-made c =
    let asked = checks c.args.row_variables c.args.heights.now 0 in
    accepted asked (planned c.args.row_variables c.args.heights.now 0) _ _ (sym c.in_ok-new.ensures.answer) ∙ ap Ok (sym c.in_ok-new.ensures.after)
