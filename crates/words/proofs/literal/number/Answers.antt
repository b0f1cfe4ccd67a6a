use Rattle.std.proofs.Common.{length, get_or, sym, ap, ◌∙◌}
use Rattle.std.proofs.lemmas.Bool.{eqb-true, eqb-false}
use Rattle.words.specs.Words.{number_of}
use Rattle.words.proofs.Saying.{no_first, no_sign, no_text, text_none, text_some, parsed}
use Rattle.words.proofs.literal.number.Goals as goal
use Rattle.words.proofs.literal.number.Goals.{then-is_empty-via-then-is_empty, then-is_empty-via-else-is_empty+then-word-eq43}

pub returns-then-is_empty : goal.returns-then-is_empty
returns-then-is_empty c =
    elim c.then-is_empty.branch [
      | then-is_empty-via-then-is_empty w ↦ no_first c.args.word.now (eqb-true _ 0 (sym w.if-is_empty.ensures))
      | then-is_empty-via-else-is_empty+then-word-eq43 w ↦ no_sign c.args.word.now w.if-word-eq43.true
    ]

pub returns-in_err-ok : goal.returns-in_err-ok
returns-in_err-ok c = c.from_residual.ensures ∙ no_text c.args.word.now (text_none c.args.word.now _ c.from_utf8.result c.from_utf8.ensures.cases c.in_err-ok.ensures.value)

pub returns : goal.returns
returns c =
    let w = c.args.word.now in
    let same = text_some w _ c.from_utf8.result c.in_ok-ok.field-0 c.from_utf8.ensures.cases c.in_ok-ok.ensures.value in
    let read = parsed c.in_ok-ok.field-0.now c.parse.result c.parse.ensures.value.0 (λ e. eqb-false (length w) 0 (sym c.if-is_empty.ensures) (ap length (sym same) ∙ e)) (λ e. c.if-word-eq43.false (ap (λ l. get_or l 0 0) (sym same) ∙ e)) in
    c.ok-2.ensures.value ∙ read ∙ ap number_of same
