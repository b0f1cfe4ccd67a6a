use Rattle.std.proofs.Common.{◌++◌, refl, sym, ap, ◌∙◌, append_assoc}
use Rattle.std.specs.Slice.Iter.{chunks_rest}
use Rattle.std.proofs.Output.{has_written_append, has_written_of_eq}
use Rattle.script.proofs.Writing.{hex_append}
use Rattle.script.proofs.text.write_hex.Goals as goal

pub loop-portion-preserved : goal.loop-portion-preserved
loop-portion-preserved g c =
    let step = c.in-Some.ensures.steps in
    let portion = c.in-Some.portion.now in (
      step.0 ∙ c.loop-portion.invariant.0,
      λ plain.
          let sofar = c.loop-portion.invariant.1 plain in
          let wrote = c.in_ok-write_portion.ensures sofar.2.plain refl in (
            sofar.0 ++ portion,
            sofar.1 ∙ ap (λ l. sofar.0 ++ l) step.1.0 ∙ sym (append_assoc sofar.0 portion (chunks_rest c.next.new.self)),
            has_written_of_eq _ _ _ _ _ (sym (hex_append sofar.0 portion)) (has_written_append _ _ _ _ _ _ sofar.2 wrote),
          ),
    )
