use Rattle.std.proofs.Common.{take, Ok}
use Rattle.std.specs.Fmt.{DisplaysOnOk}
use Rattle.script.proofs.Writing.{after_commas}
use Rattle.script.proofs.separated.SeparatedDisplay.fmt.Given as goal

-- the items so far were written, each after a comma
abbrev pub invariant-loop-item : goal.invariant-loop-item
invariant-loop-item g l = DisplaysOnOk g.W.Write.write_str_gives l.initial.f (Ok tt) (after_commas g.T.Display.output (take l.item-index l.rest)) l.f
