use Rattle.std.proofs.Common.{◌≢◌, ◌%◌, ◌∙◌, length, vec_items, arith, rules}
use Rattle.std.specs.Slice.Iter.{chunks_rest}
use Rattle.std.proofs.lemmas.List.{take_all}
use Rattle.script.proofs.Numbering.{misread, read_of, cut_more, cut_amid, cut_all, cut_left}
use Rattle.script.proofs.cells.elements.Goals as goal

pub returns-in_err-ok_or : goal.returns-in_err-ok_or
returns-in_err-ok_or g c =
    let wrong = misread g.R.Element.parts g.R.Element.numbered _ c.in-Some.chunk.now c.of.result c.of.ensures (search (rules, take_all)) c.in_err-ok_or.field-0.0 c.in_err-ok_or.ensures.value in
    let step = c.in-Some.ensures.steps in
    let bound = cut_left g.R.Element.parts g.R.Element.numbered c.args.numbers.now (vec_items c.loop-chunk.elements) (chunks_rest c.loop-chunk.chunk-iterator) c.loop-chunk.invariant.1 in
    let amid : length c.args.numbers.now % g.R.Element.parts ≢ 0 = cut_amid g.R.Element.parts g.R.Element.numbered c.args.numbers.now (vec_items c.loop-chunk.elements) (chunks_rest c.loop-chunk.chunk-iterator) c.loop-chunk.invariant.1 step.1.2 (omega (arith, wrong, step.1.1, c.loop-chunk.invariant.0, c.well_formed.1.0, bound)) in
    search (rules, amid)

pub loop-chunk-preserved : goal.loop-chunk-preserved
loop-chunk-preserved g c =
    let step = c.in-Some.ensures.steps in
    let x = c.in_ok-ok_or.field-0 in
    let is = read_of g.R.Element.parts g.R.Element.numbered _ c.in-Some.chunk.now c.of.result c.of.ensures (search (rules, take_all)) x c.in_ok-ok_or.ensures.value in (
      step.0 ∙ c.loop-chunk.invariant.0,
      cut_more g.R.Element.parts g.R.Element.numbered c.args.numbers.now (vec_items c.loop-chunk.elements) (chunks_rest c.loop-chunk.chunk-iterator) c.loop-chunk.invariant.1 c.in-Some.chunk.now (chunks_rest c.next.new.self) x _ step.1.0 is.0 is.1 c.in_ok-push.ensures.items,
    )

pub returns : goal.returns
returns g c = cut_all g.R.Element.parts g.R.Element.numbered c.args.numbers.now (vec_items c.loop-chunk.elements) (chunks_rest c.loop-chunk.chunk-iterator) c.loop-chunk.invariant.1 c.in-None.ensures.steps.1.0
