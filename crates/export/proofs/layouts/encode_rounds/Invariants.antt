use Rattle.std.proofs.Common.{◌≡◌, cond, ◌==◌, [], ◌∷◌, length, nat_lt, Ok}
use Rattle.ring.specs.Checks.{verdict, when}
use Rattle.layout.specs.declared.error.JaggedLayoutError.TheVariants.{BufferTooShort}
use Rattle.layout.specs.Encoding.{layout_length}
use Rattle.layout.specs.Layout.{shape}
use Rattle.export.proofs.layouts.encode_rounds.Given as goal

abbrev pub invariant-loop-round : goal.invariant-loop-round
invariant-loop-round l = l.outcome ≡ cond (l.round == 0) (Ok 0) (verdict (when (nat_lt (length l.bytes) (layout_length (shape l.layout))) (BufferTooShort (layout_length (shape l.layout)) (length l.bytes)) ∷ []) (layout_length (shape l.layout)))
