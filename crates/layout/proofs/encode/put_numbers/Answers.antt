use Rattle.std.proofs.Common.{◌≡◌, ◌+◌, ◌*◌, length, get_or, take, sym, refl, ap, ◌∙◌, div-one, arith}
use lib.Seq.{paste}
use Rattle.std.specs.List.{flat_map}
use Rattle.std.proofs.lemmas.Slice.{put_mid-paste}
use Rattle.std.proofs.lemmas.List.{length-take-le}
use Rattle.ring.specs.Bytes.{eight}
use Rattle.layout.proofs.Encodings.{paste_more, length_numbers, numbers_more}
use Rattle.layout.proofs.encode.put_numbers.Goals as goal

pub loop-place-preserved : goal.loop-place-preserved
loop-place-preserved c =
    let ns = c.args.numbers.now in
    let i = c.loop-place.place in
    let d = c.args.bytes.now in
    let written = flat_map eight (take i ns) in
    let long : length written ≡ 8 * i = length_numbers (take i ns) ∙ ap (λ n. 8 * n) (length-take-le i ns (omega arith)) in
    let count : 8 * i + 8 ≡ 8 * (i + 1) = omega arith in
    put_mid-paste _ _ c.loop-place.bytes c.copy_from_slice.new.self (eight (get_or ns i 0)) 8 (c.copy_from_slice.ensures.after ∙ rw (div-one (get_or ns i 0)) c.to_be_bytes.ensures) (omega arith) refl
    ∙ ap (λ b. paste b (c.args.at + 8 * i) (eight (get_or ns i 0)) 8) c.loop-place.invariant
    ∙ paste_more d written (eight (get_or ns i 0)) c.args.at (8 * i) 8 long refl (omega arith)
    ∙ ap (λ x. paste d c.args.at x (8 * i + 8)) (sym (numbers_more ns i c.loop-place-test.true))
    ∙ ap (λ n. paste d c.args.at (flat_map eight (take (i + 1) ns)) n) count
