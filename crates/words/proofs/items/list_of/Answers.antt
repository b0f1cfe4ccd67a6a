use Rattle.std.proofs.Common.{◌≡◌, ◌+◌, ◌++◌, Global, length, drop, replicate, Some, vec_items, sym, ap, ◌∙◌, arith, length-append, rules}
use lib.ListN.{length-replicate}
use Rattle.words.specs.Words.{after, items_by}
use Rattle.words.specs.Cuts.{texts}
use Rattle.words.proofs.Saying.{grown, dash_list, items_more, no_item_says, too_many, whole_list}
use Rattle.words.proofs.items.list_of.Goals as goal

pub returns-then-says : goal.returns-then-says
returns-then-says g c = ap Some c.new-list.ensures.items ∙ dash_list g.I.Item.said c.args.mark c.args.most c.args.word.now (sym c.if-says.ensures)

pub returns-in_err-value : goal.returns-in_err-value
returns-in_err-value g c =
    let none = no_item_says g.I.Item.said c.args.mark c.args.most c.args.word.now c.deref-item-items.result.now
    (ap texts c.deref-item-items.ensures.value ∙ c.in_ok-pieces.ensures)
    c.loop-item.item-index c.loop-item-test.true _ c.loop-item.invariant.0
    (vec_items {X = g.row.I-Value.Denot} {Z = Global}) _ c.in_err-value.ensures (sym c.if-says.ensures) in
    search (rules, none)

pub returns-then-times-saturating_sub : goal.returns-then-times-saturating_sub
returns-then-times-saturating_sub g c =
    let rep = length-replicate c.in_ok-value.times c.in_ok-value.value in
    too_many g.I.Item.said c.args.mark c.args.most c.args.word.now c.deref-item-items.result.now
    (ap texts c.deref-item-items.ensures.value ∙ c.in_ok-pieces.ensures)
    c.loop-item.item-index c.loop-item-test.true (vec_items c.loop-item.list) c.loop-item.invariant.0
    (replicate c.in_ok-value.times c.in_ok-value.value)
    c.in_ok-value.ensures
    (omega (arith, rep, c.len.ensures, c.saturating_sub.ensures, c.loop-item.list.ok.0, c.if-times-saturating_sub.true))
    (sym c.if-says.ensures)

pub loop-item-preserved : goal.loop-item-preserved
loop-item-preserved g c =
    let many = c.in_ok-value.times in
    let one = c.in_ok-value.value in
    let held = vec_items c.loop-item.list in
    let now : vec_items c.resize.new.self ≡ held ++ replicate many one =
    grown _ held c.len.result many one (omega (arith, c.len.ensures, c.loop-item.list.ok.0)) (c.in_ok-resize.ensures.items ∙ cc) in (
      ap (λ l. after (Some l) (items_by g.I.Item.said (drop (c.loop-item.item-index + 1) (texts c.deref-item-items.result.now)))) now
          ∙ items_more g.I.Item.said c.args.mark c.args.most c.args.word.now c.deref-item-items.result.now
          (ap texts c.deref-item-items.ensures.value ∙ c.in_ok-pieces.ensures)
          c.loop-item.item-index c.loop-item-test.true held c.loop-item.invariant.0
          (replicate many one)
          c.in_ok-value.ensures,
      omega (arith, length-replicate many one, ap length now ∙ length-append held (replicate many one), c.len.ensures, c.saturating_sub.ensures, c.loop-item.list.ok.0, c.if-times-saturating_sub.false, c.loop-item.invariant.1),
    )

pub returns : goal.returns
returns g c =
    whole_list g.I.Item.said c.args.mark c.args.most c.args.word.now c.deref-item-items.result.now _ c.loop-item.item-index
    (ap texts c.deref-item-items.ensures.value ∙ c.in_ok-pieces.ensures)
    (sym c.if-says.ensures)
    c.loop-item.invariant.0
    c.loop-item-test.false
    c.loop-item.invariant.1
