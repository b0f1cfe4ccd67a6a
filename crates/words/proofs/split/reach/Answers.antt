use Rattle.std.proofs.Common.{◌∙◌, arith, rules, tests}
use Rattle.std.proofs.lemmas.Iterator.{YieldsList-from_slice}
use Rattle.std.proofs.lemmas.Iterator.Search.{position_from_yields_List}
use Rattle.words.specs.Cuts.{is_mark}
use Rattle.words.proofs.Cutting.{place_within, or_end}
use Rattle.words.proofs.split.reach.Goals as goal

pub returns : goal.returns
returns c =
    let found = position_from_yields_List (is_mark c.args.mark) _ _ c.position.result c.position.ensures.ran (YieldsList-from_slice c.args.text.now cc) (λ x b q k. search (rules, tests)) in
    let within = place_within (is_mark c.args.mark) c.args.text.now in
    let place = c.unwrap_or.ensures ∙ or_end _ _ _ within found in
    record { answer = place; within = omega (arith, place, within) }
