use Rattle.std.proofs.Common.{◌≡◌, ◌*◌, length, take, sym, ap, ◌∙◌, subst, arith, rules}
use Rattle.std.specs.Str.{IsUtf8}
use Rattle.std.proofs.lemmas.List.{take_all}
use Rattle.std.proofs.lemmas.Str.{IsUtf8-from_ascii}
use Rattle.script.specs.Records.{hex}
use Rattle.script.proofs.Writing.{hex_ascii}
use Rattle.script.proofs.text.write_portion.Goals as goal

pub unwrap-requires : goal.unwrap-requires
unwrap-requires g c =
    let bytes = c.args.bytes.now in
    let digits = c.loop-place.digits in
    let last : c.loop-place.place ≡ length bytes = omega arith in
    let told : take (2 * length bytes) digits ≡ hex bytes = ap (λ n. take (2 * n) digits) (sym last) ∙ c.loop-place.invariant.1 ∙ ap hex (take_all c.loop-place.place bytes (omega arith)) in
    let text : IsUtf8 (take (2 * length bytes) digits) = subst IsUtf8 (sym told) (IsUtf8-from_ascii (hex bytes) (hex_ascii bytes (λ i. omega (arith, c.type_inv.bytes i)))) in
    search (rules, text)
