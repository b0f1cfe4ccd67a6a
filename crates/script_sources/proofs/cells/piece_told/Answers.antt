use Rattle.std.proofs.Common.{◌++◌, length, vec_items, string_bytes, codes, decimal, rules, ap, ◌∙◌, arith}
use Rattle.std.proofs.lemmas.List.{with_items_is}
use Rattle.ring.specs.Checks.{verdict}
use Rattle.ingest.specs.Piece.{piece_checks}
use Rattle.ingest.specs.Table.{height_of}
use Rattle.script.specs.Records.{field, separated}
use Rattle.script_sources.specs.Replies.{Written, PieceReply}
use Rattle.script_sources.proofs.Making.{kit, given_both, buffered, buffered_fault}
use Rattle.script_sources.proofs.cells.piece_told.Goals as goal

pub returns-in_err-rows : goal.returns-in_err-rows
returns-in_err-rows g c =
    let K = kit g.R.Ring g.R.Coefficient g.R.Element g.R.PartialEq in
    let table = c.args.table.now in
    let xs = c.deref.result.now in
    let ws = c.deref-2.result.now in
    let bs = c.deref_mut.result.now in
    let words = c.deref-2.ensures.value ∙ c.in_ok-bits.ensures in
    let refused = buffered_fault K (verdict (piece_checks table c.args.column (length xs) (length ws) (length bs)) (height_of table 0)) (λ h. field "height" (decimal h)) (Written K table xs ws bs) c.in_err-rows.field-0.0 c.in_err-rows.ensures.answer in
    let told = given_both K c.args.cells.now c.args.buffer.now (vec_items c.in_ok-block.block) xs (vec_items c.in_ok-room.room) bs c.args.words.now ws c.in_ok-block.ensures c.deref.ensures.value c.in_ok-room.ensures c.deref_mut.ensures.value words _ (λ ys vs cs. PieceReply K table c.args.column ys vs cs) refused in
    search (rules, told)

pub returns : goal.returns
returns g c =
    let K = kit g.R.Ring g.R.Coefficient g.R.Element g.R.PartialEq in
    let table = c.args.table.now in
    let xs = c.deref.result.now in
    let ws = c.deref-2.result.now in
    let bs = c.deref_mut.result.now in
    let words = c.deref-2.ensures.value ∙ c.in_ok-bits.ensures in
    let made = c.in_ok-rows.ensures in
    let kept = with_items_is c.in_ok-room.room c.write_piece.new.out (omega (arith, c.write_piece.auto.out, c.deref_mut.ensures.len)) in
    let all = c.in_ok-all.ensures ∙ ap (separated K.text) (c.deref-3.ensures.value ∙ kept) in
    let text = string_bytes c.in_ok-format.field-0 in
    given_both K c.args.cells.now c.args.buffer.now (vec_items c.in_ok-block.block) xs (vec_items c.in_ok-room.room) bs c.args.words.now ws c.in_ok-block.ensures c.deref.ensures.value c.in_ok-room.ensures c.deref_mut.ensures.value words text (λ ys vs cs. PieceReply K table c.args.column ys vs cs)
    (buffered K (verdict (piece_checks table c.args.column (length xs) (length ws) (length bs)) (height_of table 0)) (λ h. field "height" (decimal h)) (Written K table xs ws bs) text c.in_ok-rows.rows made.answer c.write_piece.new.out (made.written, made.kept)
    (c.in_ok-format.ensures.ok ∙ (λ t. codes "ok height=" ++ (decimal c.in_ok-rows.rows ++ (codes " cells=" ++ all t)))))
