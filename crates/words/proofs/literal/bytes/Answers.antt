use Rattle.std.proofs.Common.{◌≡◌, Some, None, vec_items, sym, ap, ◌∙◌, inl, inr, arith, rules}
use Rattle.words.proofs.Saying.{dash_bytes, empty_bytes, sized_bytes, no_byte, bytes_more, bytes_left, whole_bytes, refused, told}
use Rattle.words.proofs.literal.bytes.Goals as goal
use Rattle.words.proofs.literal.bytes.Goals.{then-is_empty-via-then-is_empty, then-is_empty-via-else-is_empty+then-word-ne0, then-is_empty-via-else-is_empty+else-word-ne0+then-word-gt-MAX_CELLS}

pub returns-then-says : goal.returns-then-says
returns-then-says c = ap Some c.new-bytes.ensures.items ∙ dash_bytes c.args.word.now (sym c.if-says.ensures)

pub returns-then-is_empty : goal.returns-then-is_empty
returns-then-is_empty c =
    elim c.then-is_empty.branch [
      | then-is_empty-via-then-is_empty w ↦ empty_bytes c.args.word.now (sym c.if-says.ensures) (sym w.if-is_empty.ensures)
      | then-is_empty-via-else-is_empty+then-word-ne0 w ↦ sized_bytes c.args.word.now (sym c.if-says.ensures) (sym w.if-is_empty.ensures) (inl w.if-word-ne0.true)
      | then-is_empty-via-else-is_empty+else-word-ne0+then-word-gt-MAX_CELLS w ↦ sized_bytes c.args.word.now (sym c.if-says.ensures) (sym w.if-is_empty.ensures) (inr w.if-word-gt-MAX_CELLS.true)
    ]

pub returns-in_err-ok_or : goal.returns-in_err-ok_or
returns-in_err-ok_or c =
    let r = refused c.byte.result c.in_err-ok_or.field-0.0 c.in_err-ok_or.ensures.value in
    let none : None ≡ _ = no_byte c.args.word.now (sym c.if-says.ensures) (sym c.if-is_empty.ensures) _ c.loop-rest.rest.now c.loop-rest.invariant.0 c.in-len2-up.len_at_least (sym r.0 ∙ c.byte.ensures) in
    search (rules, r.1, none)

pub loop-rest-preserved : goal.loop-rest-preserved
loop-rest-preserved c =
    let done = vec_items c.loop-rest.bytes in
    let rest = c.loop-rest.rest.now in
    let one = c.in_ok-ok_or.field-0 in (
      bytes_more done rest _ one c.in_ok-push.ensures.items c.in-len2-up.len_at_least (told c.byte.result one c.in_ok-ok_or.ensures.value ∙ c.byte.ensures) ∙ c.loop-rest.invariant.0,
      bytes_left done rest _ one c.in_ok-push.ensures.items c.in-len2-up.len_at_least _ c.loop-rest.invariant.1,
    )

pub returns : goal.returns
returns c = whole_bytes c.args.word.now (sym c.if-says.ensures) (sym c.if-is_empty.ensures) _ c.loop-rest.rest.now c.loop-rest.invariant.0 c.in_default.len_below c.loop-rest.invariant.1 (omega (arith, c.if-word-ne0.false)) (omega (arith, c.if-word-gt-MAX_CELLS.false))
