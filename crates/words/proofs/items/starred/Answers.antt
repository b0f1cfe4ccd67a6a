use Rattle.std.proofs.Common.{◌<◌, length, Some, None, sym, ap, ◌∙◌, arith}
use Rattle.std.specs.Option.{option_map}
use Rattle.words.proofs.Saying.{item_whole, item_parts}
use Rattle.words.proofs.items.starred.Goals as goal

pub returns-then-end-item : goal.returns-then-end-item
returns-then-end-item c = item_whole c.args.item.now (sym c.if-end-item.true ∙ c.reach-end.ensures.answer)

pub returns-in_err-number : goal.returns-in_err-number
returns-in_err-number c =
    let less : c.reach-end.result < length c.args.item.now = omega (arith, c.reach-end.ensures.within, c.if-end-item.false) in
    ap (option_map (λ p. (p.0.now, p.1))) c.from_residual.ensures
    ∙ item_parts c.args.item.now c.reach-end.result None c.reach-end.ensures.answer less (sym c.in_err-number.was ∙ c.number.ensures)

pub returns : goal.returns
returns c =
    let less : c.reach-end.result < length c.args.item.now = omega (arith, c.reach-end.ensures.within, c.if-end-item.false) in
    item_parts c.args.item.now c.reach-end.result (Some c.in_ok-number.field-0) c.reach-end.ensures.answer less (sym c.in_ok-number.was ∙ c.number.ensures)
