use Rattle.std.proofs.lemmas.Slice.Eq.{slice_eq-Decides, bytes_eq-Decides}
use Rattle.std.proofs.lemmas.Bool.Decides.{same_from_decides, Decides-eqb}
use Rattle.words.proofs.literal.says.Goals as goal

pub returns : goal.returns
returns c =
    let same = slice_eq-Decides Decides-eqb c.args.word.now c.as_bytes.result.now c.eq.result c.eq.ensures in
    same_from_decides _ _ (rw c.as_bytes.ensures.value at same) (bytes_eq-Decides c.args.word.now c.args.text.now)
