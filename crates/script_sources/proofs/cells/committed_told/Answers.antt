use Rattle.std.proofs.Common.{List, ◌++◌, length, vec_items, string_bytes, codes, rules, ◌∙◌}
use Rattle.layout.specs.Layout.{shape}
use Rattle.script_sources.specs.Replies.{committed_reply}
use Rattle.script_sources.specs.Texts.{ingest_fault}
use Rattle.script_sources.proofs.Making.{kit, report_told, accepted_told, refused_told, given_text}
use Rattle.script_sources.proofs.cells.committed_told.Goals as goal

pub returns-in_err-report : goal.returns-in_err-report
returns-in_err-report g c =
    let K = kit g.R.Ring g.R.Coefficient g.R.Element g.R.PartialEq in
    let fault = c.in_err-report.field-0.0 in
    let told = given_text K c.args.cells.now (vec_items c.in_ok-block.block) c.deref.result.now c.in_ok-block.ensures c.deref.ensures.value
    (ingest_fault fault) (λ (xs : List g.row.R.Denot). committed_reply (shape c.args.layout.now) (length xs)) (refused_told _ ingest_fault _ fault c.in_err-report.ensures.answer) in
    search (rules, told)

pub returns : goal.returns
returns g c =
    let K = kit g.R.Ring g.R.Coefficient g.R.Element g.R.PartialEq in
    let told = c.in_ok-report.ensures in
    let fields = report_told c.in_ok-report.report told.report.0 told.report.1 in
    given_text K c.args.cells.now (vec_items c.in_ok-block.block) c.deref.result.now c.in_ok-block.ensures c.deref.ensures.value
    (string_bytes c.in_ok-format.field-0) (λ (xs : List g.row.R.Denot). committed_reply (shape c.args.layout.now) (length xs)) (accepted_told _ ingest_fault _ tt _ told.answer
    (c.in_ok-format.ensures.ok ∙ (λ t. codes "ok" ++ fields t)))
