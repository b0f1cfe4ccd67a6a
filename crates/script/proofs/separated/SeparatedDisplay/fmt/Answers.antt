use Rattle.std.proofs.Common.{◌-◌, length, take, drop, codes, Some, Ok, refl, ap, ◌∙◌, arith}
use Rattle.std.proofs.Output.{displays_on_IsOk_append, displays_on_ok_of_eq}
use Rattle.std.specs.Fmt.{◌++?◌}
use Rattle.script.proofs.Writing.{after_commas, after_commas_more, separated_whole}
use Rattle.script.proofs.separated.SeparatedDisplay.fmt.Goals as goal

pub loop-item-preserved : goal.loop-item-preserved
loop-item-preserved g c =
    let output = g.T.Display.output in
    let xs = c.args.self.now.0.now in
    let rest = take (length xs - 1) (drop 1 xs) in
    displays_on_ok_of_eq g.W.Write.write_str_gives _ _ (Ok tt) _ _
    (ap (λ x. after_commas output (take c.loop-item.item-index rest) ++? Some (codes ",") ++? output x) c.item-item.is ∙ after_commas_more output rest c.loop-item.item-index c.item-item.result c.loop-item-test.true)
    (displays_on_IsOk_append g.W.Write.write_str_gives _ _ _ (Ok tt) (Ok tt) _ _ (λ ok. refl) c.loop-item.invariant c.in_ok-write-2.ensures.writes)

pub returns-clause-writes : goal.returns-clause-writes
returns-clause-writes g c =
    let output = g.T.Display.output in
    let xs = c.args.self.now.0.now in
    let rest = take (length xs - 1) (drop 1 xs) in
    displays_on_ok_of_eq g.W.Write.write_str_gives _ c.loop-item.f (Ok tt) _ _
    (ap (λ x. output x ++? after_commas output (take c.loop-item.item-index rest)) c.first-item.is ∙ separated_whole output xs c.first-item.result c.loop-item.item-index (omega arith) c.loop-item-test.false)
    (displays_on_IsOk_append g.W.Write.write_str_gives _ _ _ (Ok tt) (Ok tt) _ _ (λ ok. refl) c.in_ok-write.ensures.writes c.loop-item.invariant)
