use Rattle.script.proofs.Writing.{separated_told}
use Rattle.script.proofs.cells.cells_text.Goals as goal

pub returns : goal.returns
returns g c = rw (separated_told g.R.Display.output g.R.Element.text g.met.R.Element.shows c.args.cells.now) at c.format.ensures.ok
