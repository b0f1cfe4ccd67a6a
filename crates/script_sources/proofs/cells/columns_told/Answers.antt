use Rattle.std.proofs.Common.{◌++◌, length, vec_items, string_bytes, codes, rules, ap, ◌∙◌, arith}
use Rattle.std.proofs.lemmas.List.{with_items_is}
use Rattle.ring.specs.Checks.{verdict}
use Rattle.layout.specs.Layout.{shape}
use Rattle.ingest.specs.Reading.{read_checks}
use Rattle.script.specs.Records.{separated}
use Rattle.script_sources.specs.Replies.{columns_fields, Read, ReadReply}
use Rattle.script_sources.proofs.Making.{kit, report_told, given_both, buffered, buffered_fault}
use Rattle.script_sources.proofs.cells.columns_told.Goals as goal

pub returns-in_err-report : goal.returns-in_err-report
returns-in_err-report g c =
    let K = kit g.R.Ring g.R.Coefficient g.R.Element g.R.PartialEq in
    let S = shape c.args.layout.now in
    let table = c.args.table.now in
    let xs = c.deref.result.now in
    let ws = c.deref-2.result.now in
    let bs = c.deref_mut.result.now in
    let words = c.deref-2.ensures.value ∙ c.in_ok-bits.ensures in
    let refused = buffered_fault K (verdict {T = Unit {0}} (read_checks S table c.args.sources (length xs) (length ws) (length bs)) tt) (λ _. columns_fields S table) (Read K S table xs ws bs) c.in_err-report.field-0.0 c.in_err-report.ensures.answer in
    let told = given_both K c.args.cells.now c.args.buffer.now (vec_items c.in_ok-block.block) xs (vec_items c.in_ok-room.room) bs c.args.words.now ws c.in_ok-block.ensures c.deref.ensures.value c.in_ok-room.ensures c.deref_mut.ensures.value words _ (λ ys vs cs. ReadReply K S table c.args.sources ys vs cs) refused in
    search (rules, told)

pub returns : goal.returns
returns g c =
    let K = kit g.R.Ring g.R.Coefficient g.R.Element g.R.PartialEq in
    let S = shape c.args.layout.now in
    let table = c.args.table.now in
    let xs = c.deref.result.now in
    let ws = c.deref-2.result.now in
    let bs = c.deref_mut.result.now in
    let words = c.deref-2.ensures.value ∙ c.in_ok-bits.ensures in
    let made = c.in_ok-report.ensures in
    let fields = report_told c.in_ok-report.report made.report.0 made.report.1 in
    let kept = with_items_is c.in_ok-room.room c.read_columns.new.buffer (omega (arith, c.read_columns.auto.buffer, c.deref_mut.ensures.len)) in
    let all = c.in_ok-all.ensures ∙ ap (separated K.text) (c.deref-3.ensures.value ∙ kept) in
    let text = string_bytes c.in_ok-format.field-0 in
    given_both K c.args.cells.now c.args.buffer.now (vec_items c.in_ok-block.block) xs (vec_items c.in_ok-room.room) bs c.args.words.now ws c.in_ok-block.ensures c.deref.ensures.value c.in_ok-room.ensures c.deref_mut.ensures.value words text (λ ys vs cs. ReadReply K S table c.args.sources ys vs cs)
    (buffered K (verdict {T = Unit {0}} (read_checks S table c.args.sources (length xs) (length ws) (length bs)) tt) (λ _. columns_fields S table) (Read K S table xs ws bs) text tt made.answer c.read_columns.new.buffer (made.written, made.kept, made.placed)
    (c.in_ok-format.ensures.ok ∙ (λ t. codes "ok" ++ (fields t ++ (codes " cells=" ++ all t)))))
