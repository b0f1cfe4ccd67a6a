use Rattle.std.proofs.Common.{arith, ◌≡◌, min, length, map, take, ap, sym, ◌∙◌, length-take}
use Rattle.std.proofs.lemmas.Grind.{common_steps}
use Rattle.std.proofs.lemmas.List.{map_more, take_min, take_more_set, get_or-take}
use Rattle.export.specs.Entries.{record_of}
use Rattle.export.proofs.entry.Records.fill.Goals as goal

pub loop-place-preserved : goal.loop-place-preserved
loop-place-preserved c = grind (arith, common_steps, map_more, take_more_set, get_or-take)

pub returns : goal.returns
returns c =
    let long = length-take c.min-count.result c.args.entries.now in
    let same : c.loop-place.place ≡ c.min-count.result = omega arith in
    let few : c.min-count.result ≡ min 4097 (length c.args.entries.now) = omega arith in
    let cut = ap (λ n. take n c.args.entries.now) few ∙ take_min 4097 c.args.entries.now in
    ap (λ n. take n c.loop-place.self.records) (c.loop-place.invariant.0 ∙ sym same) ∙ c.loop-place.invariant.2 ∙ ap (λ n. map record_of (take n c.args.entries.now)) same ∙ ap (map record_of) cut
