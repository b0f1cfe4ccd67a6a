use Rattle.std.proofs.Common.{◌++◌, vec_items, string_bytes, codes, rules, ap, ◌∙◌}
use Rattle.layout.specs.Layout.{shape}
use Rattle.script.specs.Records.{field, separated}
use Rattle.script_sources.specs.Replies.{buffer_reply}
use Rattle.script_sources.specs.Texts.{ingest_fault}
use Rattle.script_sources.proofs.Making.{kit, accepted_told, refused_told, given_text}
use Rattle.script_sources.proofs.cells.buffer_told.Goals as goal

pub returns-in_err-witness : goal.returns-in_err-witness
returns-in_err-witness g c =
    let K = kit g.R.Ring g.R.Coefficient g.R.Element g.R.PartialEq in
    let fault = c.in_err-witness.field-0.0 in
    let told = given_text K c.args.cells.now (vec_items c.in_ok-block.block) c.deref.result.now c.in_ok-block.ensures c.deref.ensures.value
    (ingest_fault fault) (buffer_reply K (shape c.args.layout.now)) (refused_told _ ingest_fault _ fault c.in_err-witness.ensures.answer) in
    search (rules, told)

pub returns : goal.returns
returns g c =
    let K = kit g.R.Ring g.R.Coefficient g.R.Element g.R.PartialEq in
    let told = c.in_ok-witness.ensures in
    given_text K c.args.cells.now (vec_items c.in_ok-block.block) c.deref.result.now c.in_ok-block.ensures c.deref.ensures.value
    (string_bytes c.in_ok-witness_text.field-0) (buffer_reply K (shape c.args.layout.now)) (accepted_told _ ingest_fault _ tt _ told.answer
    (c.in_ok-witness_text.ensures ∙ ap (λ l. codes "ok" ++ field "cells" (separated K.text l)) told.view.0))
