use Rattle.std.proofs.Common.{◌<◌, length, take, drop, ◌++◌, sym, ap, ◌∙◌, arith}
use Rattle.std.proofs.lemmas.List.{ext_get_or, get_or-take, length-take-le}
use Rattle.ingest.specs.Table.{heights_of}
use Rattle.ingest.proofs.Tall.{heights_long}
use Rattle.ingest.proofs.ordered.Ordered.put_heights.Goals as goal

pub returns : goal.returns
returns c =
    let s = c.args.self.now.sources in
    let hs = heights_of c.args.self.now.records.now in
    let long = length-take-le s hs (omega (arith, heights_long c.args.self.now.records.now, c.args.self.now.present)) in
    let room = length-take-le s c.args.out.now c.requires.room in
    let same = ext_get_or 0 c.loop-column.height-items (take s hs) (omega (arith, long, room))
    (λ y h. let below : y < s = omega arith in c.loop-column.invariant y (omega arith) ∙ sym (get_or-take s hs y 0 below)) in
    ap (λ n. c.loop-column.height-items ++ drop n c.args.out.now) (sym long) ∙ ap (λ l. l ++ drop (length (take s hs)) c.args.out.now) same
